-- Words of the proofs: a reader of the contracts needs none of them.
use Rattle.std.specs.Prelude.{ℕ, List, map, drop}
use Rattle.relaxation.specs.History.{Version, History}
use Rattle.relax_core.specs.Adopting.{MadeOf}
use Rattle.workers.specs.Gathering.{answer_of}

-- a version as one that was made of the stream
abbrev pub answer : ℕ → Version → MadeOf
answer s version = answer_of (record { stream = s; version = version })

-- all of a stream but the opening one
abbrev pub answers : ℕ → History → List MadeOf
answers s history = map (answer s) (drop 1 history)
