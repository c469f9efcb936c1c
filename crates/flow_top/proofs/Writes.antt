-- From what single writes did to what a whole text did.
use Rattle.std.proofs.Common.{◌≡◌, ◌≤◌, ℕ, List, [], ◌++◌, Option, Some, None, IfSome, sym, ap, subst, ◌∙◌, append_assoc, append-nil}
use Rattle.std.proofs.Common.{arith}
use Rattle.flow_edge.specs.Faults.{Rose}
use Rattle.flow_edge.specs.Sink.{Gives, GivesFront}
use Rattle.flow_top.specs.Uses.{SinkUse, IsUnwritten}

-- a first part of a text is one of a longer text
pub front-longer : (had has : Option (List ℕ)) (text rest : List ℕ) → GivesFront had has text → GivesFront had has (text ++ rest)
front-longer had has text rest r = record {
  told = elim had as (λ o. IfSome o (λ old. (front : List ℕ) × (back : List ℕ) × (text ≡ front ++ back) × (has ≡ Some (old ++ front))) →
      IfSome o (λ old. (front : List ℕ) × (back : List ℕ) × (text ++ rest ≡ front ++ back) × (has ≡ Some (old ++ front)))) [
        | None ↦ λ h. tt
        | Some old ↦ λ h. (h.0, h.1 ++ rest, ap (λ t. t ++ rest) h.2 ∙ append_assoc h.0 h.1 rest, h.3)
      ] r.told;
  untold = r.untold;
}

-- a text, and then a first part of the next
pub front-after : (had mid has : Option (List ℕ)) (text rest : List ℕ) → Gives had mid text → GivesFront mid has rest →
    GivesFront had has (text ++ rest)
front-after had mid has text rest g r = record {
  told = elim had as (λ o. IfSome o (λ old. mid ≡ Some (old ++ text)) →
      IfSome o (λ old. (front : List ℕ) × (back : List ℕ) × (text ++ rest ≡ front ++ back) × (has ≡ Some (old ++ front)))) [
        | None ↦ λ h. tt
        | Some old ↦ λ h.
            let p = subst (λ m. IfSome m (λ t. (front : List ℕ) × (back : List ℕ) × (rest ≡ front ++ back) × (has ≡ Some (t ++ front)))) h r.told in
            (text ++ p.0, p.1, ap (λ t. text ++ t) p.2 ∙ sym (append_assoc text p.0 p.1), p.3 ∙ ap Some (append_assoc old text p.0))
      ] g.told;
  untold = λ e. r.untold (g.untold e);
}

-- both texts whole
pub both-given : (had mid has : Option (List ℕ)) (text rest : List ℕ) → Gives had mid text → Gives mid has rest →
    Gives had has (text ++ rest)
both-given had mid has text rest g r = record {
  told = elim had as (λ o. IfSome o (λ old. mid ≡ Some (old ++ text)) → IfSome o (λ old. has ≡ Some (old ++ (text ++ rest)))) [
    | None ↦ λ h. tt
    | Some old ↦ λ h. subst (λ m. IfSome m (λ t. has ≡ Some (t ++ rest))) h r.told ∙ ap Some (append_assoc old text rest)
  ] g.told;
  untold = λ e. r.untold (g.untold e);
}

-- a fault that was counted later was counted
pub rose-later : (before mid now : ℕ) → before ≤ mid → Rose mid now → Rose before now
rose-later before mid now h r = omega arith

-- nothing was given
pub nothing-given : (had : Option (List ℕ)) → Gives had had []
nothing-given had = record {
  told = elim had as (λ o. IfSome o (λ old. o ≡ Some (old ++ []))) [ None ↦ tt | Some old ↦ ap Some (sym (append-nil old)) ];
  untold = λ e. e;
}

-- a whole text is a first part of itself, and nothing is one of any
pub front-whole : (had has : Option (List ℕ)) (text : List ℕ) → Gives had has text → GivesFront had has text
front-whole had has text g = record {
  told = elim had as (λ o. IfSome o (λ old. has ≡ Some (old ++ text)) →
      IfSome o (λ old. (front : List ℕ) × (back : List ℕ) × (text ≡ front ++ back) × (has ≡ Some (old ++ front)))) [
        | None ↦ λ h. tt
        | Some old ↦ λ h. (text, [], sym (append-nil text), h)
      ] g.told;
  untold = g.untold;
}

pub front-none : (sink : SinkUse) (text : List ℕ) → IsUnwritten sink → GivesFront sink.had sink.has text
front-none sink text still =
    subst (λ has. GivesFront sink.had has text) (sym still.text)
    (front-longer sink.had sink.had [] text (front-whole sink.had sink.had [] (nothing-given sink.had)))

-- nothing was given
pub given-none : (had : Option (List ℕ)) → Gives had had []
given-none None = record { told = tt; untold = λ e. e }
given-none (Some text) = record { told = ap Some (sym (append-nil text)); untold = λ e. e }
