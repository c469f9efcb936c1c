-- What a reader of a plant's feeds keeps.
use Rattle.std.specs.Prelude.{ℕ, List, Option, None}
use Rattle.feeds.specs.declared.records.Records.{Records}
use Rattle.feeds.specs.declared.reader.FeedFault.{FeedFault}

pub record ReaderOf : Type 0 where
  -- the end of the last window that it was asked for
  pub asked : ℕ
  -- what it answers from now on, where it has answered a fault
  pub fault : Option FeedFault
  -- what it keeps of records; without these it gives what the plant file gives
  pub records : Option Records

-- a reader with the source that its calls are handed: what the source has left, where it tells it, and its count of faults
pub record Feeding : Type 0 where
  pub reader : ReaderOf
  pub left : Option (List ℕ)
  pub faults : ℕ

abbrev pub feeding : {S : Type 0} → (S → Option (List ℕ)) → (S → ℕ) → ReaderOf → S → Feeding
feeding left faults reader source = record { reader = reader; left = left source; faults = faults source }

-- no window was asked for, and there are no records
abbrev pub plain_reader : ReaderOf
plain_reader = record { asked = 0; fault = None; records = None }
