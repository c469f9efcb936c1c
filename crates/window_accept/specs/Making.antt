-- Words of the proofs: a reader of the contracts needs none of them.
-- How a session's next window is made.
use Rattle.std.specs.Prelude.{◌≡◌, true, List, Result, Ok, Err}
use Rattle.relaxation.specs.Tube.{Tube}
use Rattle.feeds.specs.ReaderOf.{Feeding}
use Rattle.renewal.specs.Plan.{PlanOf, window_of, IsPlan}
use Rattle.renewal.specs.Carrying.{states_after}
use Rattle.relax_core.specs.Settled.{Settles}
use Rattle.window_accept.specs.declared.end.WindowEnd.{WindowEnd}
use Rattle.window_accept.specs.declared.settling.Settled.{Settled}
use Rattle.window_accept.specs.Session.{SessionOf, IsSession, Asks, HasRunOf, NextWindow, next_plan, next_ticks, moved_on}
use Rattle.window_accept.specs.Session.{ended_by}

-- the window is the run of a plan, which its steps settle, and the states of the run are carried out of it
pub record IsSettledFor (plan : PlanOf) (settled : Settled) : Type 0 where
  pub run : HasRunOf plan settled.window
  pub made : Settles (window_of plan) settled.window.steps
  pub carried : settled.carried ≡ states_after plan

-- the plan of a session's next window, with the tubes that the reader gave
pub record IsPlanned (session : SessionOf) (reader read : Feeding) (plan : PlanOf) : Type 0 where
  pub feeds : List Tube
  pub asks : Asks session reader read (Ok feeds)
  pub plan_is : plan ≡ next_plan session feeds
  pub can_be : IsPlan plan

-- there is a plan, or the session ends
abbrev pub Plans : SessionOf → Feeding → Feeding → Result PlanOf WindowEnd → Type 0
Plans session reader read (Ok plan) = IsPlanned session reader read plan
Plans session reader read (Err end) = NextWindow true session (ended_by session end) reader read (Err end)

-- a window by which the session moves on
pub record IsNext (session : SessionOf) (reader read : Feeding) (settled : Settled) : Type 0 where
  pub feeds : List Tube
  pub next : NextWindow true session (moved_on session feeds) reader read (Ok settled.window)
  pub stays : IsSession (moved_on session feeds)
  pub ticks : settled.window.ticks ≡ next_ticks session
  pub carried : settled.carried ≡ states_after (next_plan session feeds)

-- there is one, or the session ends
abbrev pub Makes : SessionOf → Feeding → Feeding → Result Settled WindowEnd → Type 0
Makes session reader read (Ok settled) = IsNext session reader read settled
Makes session reader read (Err end) = NextWindow true session (ended_by session end) reader read (Err end)
