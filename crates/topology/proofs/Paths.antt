-- Paths through instant units.
use Rattle.std.proofs.Common.{◌≡◌, ℕ, ◌<◌, true, false, length, Contains, slice_index_or, All, List, subst, sym, ◌∙◌}
use Rattle.std.proofs.Common.{inl, inr}
use Rattle.std.proofs.lemmas.Bool.{cases_lt, false≢true}
use Rattle.std.proofs.lemmas.List.{get_or_past, get_or_default}
use Rattle.topology.specs.Links.{LinkLists, AreLinks, IsLink, Path, link, further, is_instant, reads_of}

-- an instant unit is there
pub instant_there : (links : LinkLists) (u : ℕ) → is_instant links u ≡ true → u < length links.instant
instant_there links u e = elim (cases_lt u (length links.instant)) [
  | inl h ↦ h
  | inr h ↦ absurd (false≢true (sym (get_or_past links.instant u false h) ∙ e))
]

-- a path and a link make a path
pub path_link : (links : LinkLists) (u v w : ℕ) → Path links u v → IsLink links v w → Path links u w
path_link links u v w (link _ _ l) m = further u v w l (link v w m)
path_link links u v w (further _ x _ l p) m = further u x w l (path_link links x v w p m)

-- a path ends with an instant unit
pub path_to : (links : LinkLists) (u v : ℕ) → Path links u v → is_instant links v ≡ true
path_to links u v (link _ _ l) = l.to
path_to links u v (further _ x _ l p) = path_to links x v p

-- what holds at the start of each link as at its end goes along a path
pub along : (links : LinkLists) (P : ℕ → Type 0) → ((u v : ℕ) → P u → IsLink links u v → P v) → (u v : ℕ) →
    Path links u v →
    P u → P v
along links P step u v (link _ _ l) h = step u v h l
along links P step u v (further _ x _ l p) h = along links P step x v p (step u x h l)

-- a unit that is read is there
pub read_there : (links : LinkLists) (from : ℕ) (items : List ℕ) (k x : ℕ) → AreLinks links →
    from < length links.instant →
    items ≡ reads_of links from → k < length items → x ≡ slice_index_or items k x → x < length links.instant
read_there links from items k x a l e h r = a.there from x l (subst (λ xs. Contains xs x) e (k, h, sym r))

pub reads_there : (links : LinkLists) (from n : ℕ) (items : List ℕ) → AreLinks links → from < length links.instant →
    items ≡ reads_of links from → n ≡ length links.instant → All (λ v. v < n) items
reads_there links from n items a l e m =
    λ k d h. subst (λ i. slice_index_or items k d < i) (sym m)
    (read_there links from items k (slice_index_or items k d) a l e h
    (get_or_default items k d (slice_index_or items k d) h))
