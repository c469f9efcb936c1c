-- What a look and a meet answer, from what their steps tell.
use Rattle.std.proofs.Common.{◌≡◌, ℕ, ◌+◌, ◌<◌, ◌^◌, List, [], ◌∷◌, ◌++◌, append-nil, ⊎_elim, inl, inr, refl, sym, ap, ◌∙◌, subst}
use Rattle.relaxation.specs.Tube.{Tube}
use Rattle.relaxation.specs.History.{Version, History, Begins}
use Rattle.tubes.specs.Shape.{HasShapeOf}
use Rattle.stream_cell.specs.declared.head.CellMet.{CellMet}
use Rattle.stream_cell.specs.declared.head.CellMet.TheVariants as met
use Rattle.stream_cell.specs.declared.head.Look.TheVariants as shown
use Rattle.stream_cell.specs.declared.head.Uses.{Uses}
use Rattle.stream_cell.specs.declared.passes.StreamCell.{StreamCell}
use Rattle.stream_cell.specs.declared.passes.CellPass.{CellPass}
use Rattle.stream_cell.specs.declared.view.PassView.{PassView}
use Rattle.stream_cell.specs.declared.view.Turn.{Turn}
use Rattle.stream_cell.specs.declared.view.Turn.TheVariants.{Free, Read}
use Rattle.stream_cell.specs.Histories.{newest, next_version, IsHistoryOf, Judges}
use Rattle.stream_cell.specs.Passes.{IsOf, JudgesNow, Looks, Meets, MeetsOrStays, looked, made_of, missed}
use Rattle.stream_cell.specs.Seats.{opening_of}
use Rattle.stream_cell.specs.Kinds.{appending, free, reading}
use Rattle.stream_cell.specs.Steps.{IsAppended, IsAt, IsRead, counting}
use Rattle.stream_cell.proofs.Flats.{newest_pushed}
use Rattle.stream_cell.proofs.Growing.{judged_history}
use Rattle.stream_cell.proofs.Passing.{of_turning}

-- a version was put behind those that the pass has read
pub appended_of : (cell : StreamCell) (old new : CellPass) (v : PassView) (renewal : Tube) (uses : Uses) (number stamp : ℕ) (after : History) →
    IsRead cell old v → HasShapeOf (newest v.seen).tube renewal → uses.base < 2 ^ 62 → IsAt cell new v ((0, after) ∷ []) →
    Judges (met.Narrowed number stamp) v.seen v.number renewal uses after → IsAppended cell new v after
appended_of cell old new v renewal uses number stamp after is shape base at judges = record {
  at = at;
  turn = is.turn;
  last = (next_version v.seen v.number renewal uses, judges.5, refl);
  ordered = judged_history (opening_of cell) renewal v.seen after v.number uses (met.Narrowed number stamp) is.at.ordered shape base judges;
}

pub narrowed_is : (v : PassView) (renewal : Tube) (uses : Uses) (number stamp : ℕ) (after : History) →
    Judges (met.Narrowed number stamp) v.seen v.number renewal uses after → appending v after ≡ counting v (met.Narrowed number stamp) after
narrowed_is v renewal uses number stamp after judges =
    let last : newest after ≡ next_version v.seen v.number renewal uses = ap newest judges.5 ∙ newest_pushed v.seen (next_version v.seen v.number renewal uses) in
    ap (λ k. record { number = v.number; passes = v.passes; seen = after; made = v.made ++ k ∷ []; turn = Read; looks = v.looks; misses = v.misses })
    (ap (λ (one : Version). one.number) last ∙ sym judges.3)

-- else the history stays
pub stays_judged : (answer : CellMet) (old new : History) (maker : ℕ) (renewal : Tube) (uses : Uses) → ((number stamp : ℕ) → answer ≡ met.Narrowed number stamp → ⊥) →
    Judges answer old maker renewal uses new → (new ≡ old) × (made_of answer ≡ [])
stays_judged met.Busy old new maker renewal uses not judges = absurd judges
stays_judged (met.Empty tick channel) old new maker renewal uses not judges = (judges.1, refl)
stays_judged (met.Same number) old new maker renewal uses not judges = (judges.3, refl)
stays_judged (met.Full number) old new maker renewal uses not judges = (judges.4, refl)
stays_judged (met.Narrowed number stamp) old new maker renewal uses not judges = absurd (not number stamp refl)

abbrev with-all : PassView → History → List ℕ → Turn → PassView
with-all v seen made turn = record { number = v.number; passes = v.passes; seen = seen; made = made; turn = turn; looks = v.looks; misses = v.misses }

pub still_read : (cell : StreamCell) (old new : CellPass) (v : PassView) (answer : CellMet) (after : History) → IsRead cell old v → IsAt cell new v ((0, after) ∷ []) →
    (after ≡ v.seen) × (made_of answer ≡ []) → IsRead cell new (counting v answer after)
still_read cell old new v answer after is at stays =
    let same : counting v answer after ≡ v =
    ap (λ h. with-all v h (v.made ++ made_of answer) Read) stays.0
    ∙ (ap (λ numbers. with-all v v.seen (v.made ++ numbers) Read) stays.1
    ∙ (ap (λ made. with-all v v.seen made Read) (append-nil v.made)
    ∙ ap (with-all v v.seen v.made) (sym is.turn))) in
    let now : IsRead cell new v = record {
      at = subst (λ (h : History). IsAt cell new v ((0, h) ∷ [])) stays.0 at;
      turn = is.turn;
    } in
    subst (IsRead cell new) (sym same) now

-- who read and made nothing
read-is : (v : PassView) (history : History) → free (reading v history) ≡ looked v history []
read-is v history = ap (λ made. record { number = v.number; passes = v.passes; seen = history; made = made; turn = Free; looks = v.looks + 1; misses = v.misses }) (sym (append-nil v.made))

pub looks_at : (opening into shows : Tube) (number stamp : ℕ) (v w : PassView) (history : History) →
    Begins v.seen history → IsHistoryOf opening history → IsOf history (reading v history) → w ≡ free (reading v history) →
    (shows ≡ (newest history).tube) × (number ≡ (newest history).number) × (stamp ≡ (newest history).stamp) →
    Looks opening (shown.Seen number stamp) into v shows w
looks_at opening into shows number stamp v w history begins is of after copied =
    let e = read-is v history in
    subst (Looks opening (shown.Seen number stamp) into v shows) (sym (after ∙ e))
    (begins, is, subst (IsOf history) e (of_turning history (reading v history) Free (v.looks + 1) v.misses of), refl, copied.0, copied.1, copied.2)

pub judges_at : (opening renewal : Tube) (uses : Uses) (answer : CellMet) (v w : PassView) (history after : History) →
    Begins v.seen history → IsHistoryOf opening history → Judges answer history v.number renewal uses after →
    IsHistoryOf opening after → IsOf after (counting (reading v history) answer after) → w ≡ free (counting (reading v history) answer after) →
    JudgesNow opening answer v renewal uses w
judges_at opening renewal uses answer v w history after begins is judges now of made =
    subst (JudgesNow opening answer v renewal uses) (sym made)
    (history, begins, is, judges, now, of_turning after (counting (reading v history) answer after) Free (v.looks + 1) v.misses of, refl)

-- a busy pass stays, whatever it counts
pub meets_or_stays : (opening : Tube) (answer : CellMet) (old : PassView) (renewal : Tube) (uses : Uses) (new : PassView) →
    Meets opening answer old renewal uses new → MeetsOrStays opening answer old renewal uses new
meets_or_stays opening answer old renewal uses new = ⊎_elim
    (λ (busy : (answer ≡ met.Busy) × (new ≡ missed old)). inl (busy.0, (ap (λ (v : PassView). v.number) busy.1, ap (λ (v : PassView). v.seen) busy.1, ap (λ (v : PassView). v.made) busy.1, ap (λ (v : PassView). v.turn) busy.1)))
    (λ (now : JudgesNow opening answer old renewal uses new). inr now)
