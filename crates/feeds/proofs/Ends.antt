-- How a window ends.
use Rattle.std.proofs.Common.{ℕ, ◌+◌, ◌≤◌, List, refl, sym, subst, arith, inl, inr}
use Rattle.std.proofs.lemmas.Bool.{cases_eq}
use Rattle.flow_edge.specs.ReadText.{ReadText}
use Rattle.relaxation.specs.Tube.{Tube}
use Rattle.parts.specs.Parts.{FileParts}
use Rattle.plant.specs.Sound.{IsPlant}
use Rattle.feeds.specs.declared.taken.Taken.{Taken}
use Rattle.feeds.specs.Records.{last_tick}
use Rattle.feeds.specs.Standing.{pending}
use Rattle.feeds.specs.Taking.{Takes, HasCome}
use Rattle.feeds.specs.Window.{Fills, HasEnded, FillsWindow}
use Rattle.feeds.proofs.Fillings.{filled-all}
use Rattle.feeds.proofs.Takings.{takes-then}

module _ (parts : FileParts) (plant : IsPlant parts) (text : ReadText) (first n : ℕ) (inside : first + n ≤ parts.ticks)
    (old mid : Taken) where
  -- the run ends before the greatest tick
  short : first + n ≤ last_tick + 1
  unfolding last_tick
  short = let most = plant.ranges.ticks.1 in omega arith

  -- tubes that are filled, and what is taken with the end of the run
  pub fills-window : (read : Taken) (tubes : List Tube) → Fills parts text first n old mid tubes →
      HasEnded parts text (first + n) mid read → FillsWindow parts text first n old read tubes
  fills-window read tubes fills ended =
      let tubes_are = filled-all parts plant old.held (pending parts text old).records first n tubes fills.filled in
      elim (cases_eq (first + n) parts.ticks) [
        | inl e ↦ record {
          tubes_are = tubes_are;
          end = last_tick + 1;
          takes = takes-then parts text (first + n) (last_tick + 1) old mid read short fills.takes (ended.all e).0;
          ends = λ is. (ended.all is).1;
          goes_on = λ other. absurd (other e);
        }
        | inr ne ↦ record {
          tubes_are = tubes_are;
          end = first + n;
          takes = subst (Takes parts text (first + n) old) (sym (ended.stays ne)) fills.takes;
          ends = λ is. absurd (ne is);
          goes_on = λ other. (refl, subst (HasCome parts text (first + n)) (sym (ended.stays ne)) fills.come);
        }
      ]
