-- What a history keeps beside its versions: at the start, and after one more.
use Rattle.std.proofs.Common.{◌≡◌, ℕ, suc, ◌+◌, ◌-◌, ◌*◌, ◌^◌, ◌<◌, ◌≤◌, List, [], ◌∷◌, ◌++◌, length, map, max, min, refl, sym, subst, ap, ◌∙◌, arith}
use Rattle.std.proofs.Math.Nat.{mul-le-mul_right}
use Rattle.std.proofs.lemmas.List.{length-append}
use Rattle.quant.specs.Interval.{Interval}
use Rattle.relaxation.specs.Tube.{Tube, meet}
use Rattle.relaxation.specs.History.{Version, History}
use Rattle.tubes.specs.Shape.{HasShapeOf}
use Rattle.stream_cell.specs.Flat.{flat, size, headed, versions, IsKept}
use Rattle.stream_cell.specs.Histories.{opened, newest, next_version}
use Rattle.stream_cell.specs.declared.head.Head.{Head}
use Rattle.stream_cell.specs.declared.head.Uses.{Uses}
use Rattle.stream_cell.proofs.Flats.{flat_size, cut_flat, meet_shape, versions_more, newest_pushed}

-- a tube alone
opening_kept : (opening : Tube) (head : Head) (most_heads most_bands : ℕ) → 33 ≤ most_heads → 33 * length (flat opening) ≤ most_bands →
    IsKept (head ∷ []) (flat opening) opening opening most_heads most_bands
opening_kept opening head most_heads most_bands h k = record {
  counted = omega (arith, flat_size opening);
  some = omega arith;
  last = cut_flat opening;
  next = refl;
  few = omega arith;
  head_room = h;
  band_room = rw (← flat_size opening) k;
}

pub opened_kept : (opening last spare : Tube) (head : Head) (heads : List Head) (bands : List Interval) (most_heads most_bands : ℕ) →
    last ≡ opening → spare ≡ opening → heads ≡ head ∷ [] → bands ≡ flat opening → 33 ≤ most_heads → 33 * length bands ≤ most_bands →
    IsKept heads bands last spare most_heads most_bands
opened_kept opening last spare head heads bands most_heads most_bands l s h b k m =
    rw (l, s, h, b) (opening_kept opening head most_heads most_bands k (rw b at m))

pub opened_is : (opening last : Tube) (refs : List ℕ) (heads : List Head) (bands : List Interval) → last ≡ opening → refs ≡ [] →
    heads ≡ record { number = 0; maker = 0; stamp = 0; refs = refs } ∷ [] → bands ≡ flat opening → versions (map length last) heads bands ≡ opened opening
opened_is opening last refs heads bands l r h b = rw (l, h, b, r, cut_flat opening) refl

-- the last tube is the last version's
pub last_is : {heads : List Head} {bands : List Interval} {tube spare : Tube} {most_heads most_bands : ℕ} → IsKept heads bands tube spare most_heads most_bands →
    (history : History) → versions (map length tube) heads bands ≡ history → (newest history).tube ≡ tube
last_is {tube = tube} kept history is = subst (λ (all : History). (newest all).tube ≡ tube) is kept.last

-- another tube to meet in
pub spare_kept : {heads : List Head} {bands : List Interval} {tube spare : Tube} {most_heads most_bands : ℕ} → IsKept heads bands tube spare most_heads most_bands →
    (other : Tube) → map length other ≡ map length tube → IsKept heads bands tube other most_heads most_bands
spare_kept kept other same = record {
  counted = kept.counted;
  some = kept.some;
  last = kept.last;
  next = same;
  few = kept.few;
  head_room = kept.head_room;
  band_room = kept.band_room;
}

-- what has the shape of the last version has that of the last tube, and so has the meet of the two
pub renewal_shape : {heads : List Head} {bands : List Interval} {tube spare : Tube} {most_heads most_bands : ℕ} → IsKept heads bands tube spare most_heads most_bands →
    (history : History) → versions (map length tube) heads bands ≡ history → (renewal : Tube) → HasShapeOf (newest history).tube renewal → HasShapeOf renewal tube
renewal_shape kept history is renewal shape = sym (subst (λ one. HasShapeOf one renewal) (last_is kept history is) shape)

pub met_shape : (tube copied renewal made : Tube) → HasShapeOf renewal tube → copied ≡ tube → made ≡ meet copied renewal → map length made ≡ map length tube
met_shape tube copied renewal made shape same met = ap (map length) (met ∙ ap (λ one. meet one renewal) same) ∙ meet_shape tube renewal (sym shape)

-- there is room for one more
pub room_kept : {heads : List Head} {bands : List Interval} {tube spare : Tube} {most_heads most_bands : ℕ} → IsKept heads bands tube spare most_heads most_bands →
    (made : Tube) → map length made ≡ map length tube → length heads < 33 → length bands + length (flat made) ≤ most_bands
room_kept {heads = heads} {tube = tube} kept made same few =
    let more : suc (length heads) * size (map length tube) ≤ 33 * size (map length tube) = mul-le-mul_right (size (map length tube)) few in
    let sized : length (flat made) ≡ size (map length tube) = flat_size made ∙ ap size same in
    let counted = kept.counted in
    let room = kept.band_room in
    omega arith

-- and then it is the last
pub more_is : {heads : List Head} {bands : List Interval} {tube spare : Tube} {most_heads most_bands : ℕ} → IsKept heads bands tube spare most_heads most_bands →
    (head : Head) (made last : Tube) (now : List Head) (all : List Interval) → map length made ≡ map length tube → last ≡ made →
    now ≡ heads ++ head ∷ [] → all ≡ bands ++ flat made →
    versions (map length last) now all ≡ versions (map length tube) heads bands ++ headed head made ∷ []
more_is {heads = heads} {bands = bands} {tube = tube} kept head made last now all same l n a =
    rw (l, n, a, same) (versions_more (map length tube) heads bands head made same kept.counted)

pub appended_is : {heads : List Head} {bands : List Interval} {tube spare : Tube} {most_heads most_bands : ℕ} → IsKept heads bands tube spare most_heads most_bands →
    (history : History) (next : Version) → versions (map length tube) heads bands ≡ history → (head : Head) (made last : Tube) (now : List Head) (all : List Interval) →
    headed head made ≡ next → map length made ≡ map length tube → last ≡ made → now ≡ heads ++ head ∷ [] → all ≡ bands ++ flat made →
    versions (map length last) now all ≡ history ++ next ∷ []
appended_is kept history next is head made last now all e same l n a =
    more_is kept head made last now all same l n a ∙ (ap (λ (list : History). list ++ headed head made ∷ []) is ∙ ap (λ (version : Version). history ++ version ∷ []) e)

pub more_kept : {heads : List Head} {bands : List Interval} {tube spare : Tube} {most_heads most_bands : ℕ} → IsKept heads bands tube spare most_heads most_bands →
    (head : Head) (made last : Tube) (now : List Head) (all : List Interval) (room_heads room_bands : ℕ) → map length made ≡ map length tube → last ≡ made →
    now ≡ heads ++ head ∷ [] → all ≡ bands ++ flat made → length heads < 33 → most_heads ≤ room_heads → most_bands ≤ room_bands →
    IsKept now all last made room_heads room_bands
more_kept {heads = heads} {bands = bands} {tube = tube} kept head made last now all room_heads room_bands same l n a few h b =
    let long : length now ≡ length heads + 1 = ap length n ∙ length-append heads (head ∷ []) in
    let shape : map length last ≡ map length tube = ap (map length) l ∙ same in
    let sized : length (flat made) ≡ size (map length tube) = flat_size made ∙ ap size same in
    let whole : length all ≡ length bands + length (flat made) = ap length a ∙ length-append bands (flat made) in
    let counted = kept.counted in
    let room = kept.band_room in
    let head_room = kept.head_room in
    record {
      counted = rw (shape, long) (omega arith);
      some = omega arith;
      last = ap (λ (history : History). (newest history).tube) (more_is kept head made last now all same l n a)
          ∙ (ap (λ (version : Version). version.tube) (newest_pushed (versions (map length tube) heads bands) (headed head made)) ∙ sym l);
      next = ap (map length) (sym l);
      few = omega arith;
      head_room = omega arith;
      band_room = rw shape (omega arith);
    }

-- it is the version that its maker appends
pub headed_is : (head : Head) (made renewal : Tube) (history : History) (maker : ℕ) (uses : Uses) → head.number ≡ length history → head.maker ≡ maker →
    head.stamp ≡ 1 + max uses.base (newest history).stamp → head.refs ≡ uses.refs → made ≡ meet (newest history).tube renewal →
    headed head made ≡ next_version history maker renewal uses
headed_is head made renewal history maker uses n m s r t = rw (n, m, s, r, t) refl

-- 32 times what is there already, up to the greatest number, is room for 33 times
pub enough : (count more most : ℕ) → count ≤ most → most < 2 ^ 63 → more ≡ min (count * 32) (2 ^ 64 - 1) → count + more ≤ most → 33 * count ≤ most
enough count more most h small is room = omega arith
