-- What a reader answers.
use Rattle.std.proofs.Common.{◌≡◌, ℕ, ◌+◌, ◌≤◌, List, Option, Some, None, IfSome, Result, Ok, Err, refl, sym, ap, subst, arith, inr}
use Rattle.flow_edge.specs.Faults.{Rose}
use Rattle.relaxation.specs.Tube.{Tube}
use Rattle.parts.specs.Parts.{FileParts}
use Rattle.plant.specs.Sound.{IsPlant}
use Rattle.feeds.specs.declared.records.Records.{Records}
use Rattle.feeds.specs.declared.reader.FeedFault.{FeedFault}
use Rattle.feeds.specs.declared.reader.FeedFault.TheVariants.{ReadFault}
use Rattle.parts.specs.Given.{given_bands}
use Rattle.feeds.specs.Given.{given_tubes}
use Rattle.feeds.specs.Standing.{AreRecordsFor, StandsIn, Stands, nothing_taken}
use Rattle.feeds.specs.ReaderOf.{Feeding, feeding}
use Rattle.feeds.specs.Reader.{GivesBy, AreFeedTubes, Gives, fault_of}
use Rattle.feeds.specs.Window.{AnswersPlain, AnswersStanding, GivesTubes}
use Rattle.feeds.proofs.Recorded.{nothing-for}
use Rattle.feeds.proofs.Windows.{fed-within, file-within}

module _ {S : Type 0} (left : S → Option (List ℕ)) (faults : S → ℕ) (parts : FileParts) (first n : ℕ) where
  plain-by : (read : Feeding) (answer : Result (List Tube) FeedFault) → AnswersPlain parts first n answer →
      read.reader.records ≡ None → GivesBy parts None first n read answer
  plain-by read (Ok tubes) plain none = (refl, plain, none, λ e. tt)
  plain-by read (Err fault) plain none = inr (inr plain)

  text-by : (text : List ℕ) (fault : Option FeedFault) (read : Option Records) (after : S) (answer : Result (List Tube) FeedFault) →
      AnswersStanding parts text first n read (left after) answer → GivesBy parts (Some text) first n
      (feeding left faults (record { asked = first + n; fault = fault; records = read }) after) answer
  text-by text fault read after (Ok tubes) answers = answers
  text-by text fault read after (Err fault') answers = answers

  gives-by : (asked : ℕ) (old read : Option Records) (before after : S) (answer : Result (List Tube) FeedFault) →
      asked ≤ first → GivesTubes parts first n old (left before) read (left after) answer → (records : Option (List ℕ)) →
      Stands parts records (feeding left faults (record { asked = asked; fault = None; records = old }) before) →
      GivesBy parts records first n
      (feeding left faults (record { asked = first + n; fault = fault_of answer; records = read }) after) answer
  gives-by asked old read before after answer later gives None stands =
      plain-by (feeding left faults (record { asked = first + n; fault = fault_of answer; records = read }) after) answer
      (gives.plain stands).1 (gives.plain stands).0
  gives-by asked old read before after answer later gives (Some text) stands =
      text-by text (fault_of answer) read after answer (gives.by text asked later stands)

  -- else what its records give, or the plant file
  pub gives-tubes : (asked : ℕ) (old read : Option Records) (before after : S) (answer : Result (List Tube) FeedFault) →
      asked ≤ first → GivesTubes parts first n old (left before) read (left after) answer → (old ≡ None → after ≡ before) →
      (answer ≡ Err ReadFault → Rose (faults before) (faults after)) → faults before ≤ faults after →
      Gives parts first n (feeding left faults (record { asked = asked; fault = None; records = old }) before)
      (feeding left faults (record { asked = first + n; fault = fault_of answer; records = read }) after) answer
  gives-tubes asked old read before after answer later gives same failed counted = record {
    again = λ fault e. absurd (let clash : ◌≡◌ {A = Option FeedFault} None (Some fault) = e in cc);
    kept = λ none. (refl, refl);
    tubes = gives.tubes;
    by = λ none. gives-by asked old read before after answer later gives;
    failed = λ none e. failed e;
    counted = counted;
    reader = record { records = gives.records };
    plain = λ none. ((gives.plain none).0, ap left (same none), ap faults (same none));
  }

-- the plant file's tubes, where there are no records
pub plain-gives : (parts : FileParts) → IsPlant parts → (first n : ℕ) (records : Option Records) (left : Option (List ℕ))
    (tubes : List Tube) → records ≡ None → tubes ≡ given_tubes parts first n →
    GivesTubes parts first n records left records left (Ok tubes)
plain-gives parts plant first n records left tubes none e = record {
  tubes = subst (AreFeedTubes parts n) (sym e) (fed-within parts (given_bands parts) first n (file-within parts plant));
  plain = λ same. (same, e);
  by = λ text asked later stands. absurd (subst (StandsIn parts text asked left) none stands);
  records = subst (λ (kept : Option Records). IfSome kept (AreRecordsFor parts)) (sym none) tt;
}

-- a reader that has read nothing
pub nothing-kept : (parts : FileParts) (kept : Records) → IsPlant parts →
    kept ≡ record { text = None; taken = nothing_taken parts } → AreRecordsFor parts kept
nothing-kept parts kept plant e = subst (AreRecordsFor parts) (sym e) (record {
  few = omega arith;
  taken = (let nothing = nothing-for parts plant in record {
    inside = omega arith;
    counted = omega arith;
    feeds = nothing.counted;
    held = nothing.all;
    ahead = tt;
    last = tt;
  });
})
