-- What a call did to the sources and the sinks that it was handed.
use Rattle.std.specs.Prelude.{◌≡◌, ℕ, List, Option}
use Rattle.flow_edge.specs.Faults.{Rose}
use Rattle.flow_edge.specs.Sink.{Gives, GivesFront}

-- a source: the text that was left before and after the call, where it tells it, and its counts of faults
pub record SourceUse : Type 0 where
  pub text : Option (List ℕ)
  pub left : Option (List ℕ)
  pub before : ℕ
  pub now : ℕ

-- a sink: the bytes that it had been given before and after the call, where it tells them, and its counts of faults
pub record SinkUse : Type 0 where
  pub had : Option (List ℕ)
  pub has : Option (List ℕ)
  pub before : ℕ
  pub now : ℕ

-- a source's use, by what it tells, its count, and the source before and after the call; and a sink's
abbrev pub source_use : {S : Type 0} → (S → Option (List ℕ)) → (S → ℕ) → S → S → SourceUse
source_use left faults old new = record { text = left old; left = left new; before = faults old; now = faults new }

abbrev pub sink_use : {S : Type 0} → (S → Option (List ℕ)) → (S → ℕ) → S → S → SinkUse
sink_use given faults old new = record { had = given old; has = given new; before = faults old; now = faults new }

-- the two sinks that a command writes to: the output and the trace
pub record Sinks : Type 0 where
  pub out : SinkUse
  pub trace : SinkUse

abbrev pub sinks_use : {O T : Type 0} → (O → Option (List ℕ)) → (O → ℕ) → O → O →
    (T → Option (List ℕ)) → (T → ℕ) → T → T → Sinks
sinks_use given faults old new given_trace faults_trace old_trace new_trace = record {
  out = sink_use given faults old new;
  trace = sink_use given_trace faults_trace old_trace new_trace;
}

-- the five devices: the plant text, the feed records, the output and the trace, and the error lines
pub record Uses : Type 0 where
  pub plant : SourceUse
  pub extra : SourceUse
  pub sinks : Sinks
  pub err : SinkUse

-- nothing was taken, and no fault counted
pub record IsUntouched (source : SourceUse) : Type 0 where
  pub text : source.left ≡ source.text
  pub count : source.now ≡ source.before

-- nothing was given, and no fault counted
pub record IsUnwritten (sink : SinkUse) : Type 0 where
  pub text : sink.has ≡ sink.had
  pub count : sink.now ≡ sink.before

pub record AreUnwritten (sinks : Sinks) : Type 0 where
  pub out : IsUnwritten sinks.out
  pub trace : IsUnwritten sinks.trace

-- the sink was given this text whole
abbrev pub WasGiven : SinkUse → List ℕ → Type 0
WasGiven sink text = Gives sink.had sink.has text

-- the sink was given some first part of this text, and a fault was counted
pub record Broke (sink : SinkUse) (text : List ℕ) : Type 0 where
  pub front : GivesFront sink.had sink.has text
  pub fault : Rose sink.before sink.now
