-- The first place at which a band is wider than was asked is found, where there is one.
use Rattle.std.proofs.Common.{◌≡◌, ◌⊎◌, inl, inr, refl, sym, subst, ℕ, zero, suc, ◌+◌, ◌-◌, ◌<◌, ◌≤◌, ℤ, pos, ◌<ℤ◌, Bool, true, false}
use Rattle.std.proofs.Common.{List, length, slice_index_or, Option, Some, None, [], ◌∷◌, arith}
use Rattle.std.proofs.lemmas.Int.{ints}
use Rattle.quant.specs.Interval.{Interval, point}
use Rattle.flowsheet.specs.Plant.{Origin, feed, port, origin_of}
use Rattle.parts.specs.Parts.{FileParts}
use Rattle.parts.specs.declared.parts.Widths.{Widths}
use Rattle.plant_streams.specs.Streams.{streams_of}
use Rattle.plant.specs.PlantOf.{plant_of}
use Rattle.relax_core.specs.Stepping.{IsOutputOf}
use Rattle.window_accept.specs.declared.wide.TooWide.{TooWide}
use Rattle.window_accept.specs.Wide.{asked_of, is_signal, asked_at, width_of, IsTooWide, IsAmong, IsFirstWide, FindsWide}

abbrev Decided : Type 0 → Type 0
Decided P = P ⊎ (P → ⊥)

-- the first number below n of which this holds
record IsLeast (P : ℕ → Type 0) (n k : ℕ) : Type 0 where
  below : k < n
  holds : P k
  first : (j : ℕ) → j < k → P j → ⊥

at-or-below : (j n : ℕ) → j < suc n → (j < n) ⊎ (j ≡ n)
at-or-below j n h = search arith

none-below : (j : ℕ) → j < zero → ⊥
none-below j h = omega arith

none-yet : (P : ℕ → Type 0) (n : ℕ) → ((j : ℕ) → j < n → P j → ⊥) → (P n → ⊥) → (j : ℕ) → j < suc n → P j → ⊥
none-yet P n none not j h p = elim (at-or-below j n h) [ inl l ↦ none j l p | inr e ↦ not (subst P e p) ]

least : (P : ℕ → Type 0) → ((k : ℕ) → Decided (P k)) → (n : ℕ) →
    ((k : ℕ) × IsLeast P n k) ⊎ ((j : ℕ) → j < n → P j → ⊥)
least P decide zero = inr (λ j h p. none-below j h)
least P decide (suc n) = elim (least P decide n) [
  | inl found ↦ inl (found.0, record { below = omega (arith, found.1.below); holds = found.1.holds; first = found.1.first })
  | inr none ↦ elim (decide n) [
    | inl p ↦ inl (n, record { below = omega arith; holds = p; first = none })
    | inr not ↦ inr (none-yet P n none not)
  ]
]

-- whether one of the numbers below n is such
decide-some : (P : ℕ → Type 0) → ((k : ℕ) → Decided (P k)) → (n : ℕ) → Decided ((k : ℕ) × (k < n) × P k)
decide-some P decide n = elim (least P decide n) [
  | inl found ↦ inl (found.0, found.1.below, found.1.holds)
  | inr none ↦ inr (λ some. none some.0 some.1 some.2)
]

-- a channel is one of at most three
past-channels : (asked : List (Option ℤ)) (c : ℕ) → length asked ≤ 3 → 3 ≤ c → slice_index_or asked c None ≡ None
past-channels [] c few far = refl
past-channels asked zero few far = absurd (omega (arith, far))
past-channels asked (suc zero) few far = absurd (omega (arith, far))
past-channels asked (suc (suc zero)) few far = absurd (omega (arith, far))
past-channels (a ∷ []) (suc (suc (suc c))) few far = refl
past-channels (a ∷ b ∷ []) (suc (suc (suc c))) few far = refl
past-channels (a ∷ b ∷ d ∷ []) (suc (suc (suc c))) few far = refl
past-channels (a ∷ b ∷ d ∷ e ∷ rest) (suc (suc (suc c))) few far = absurd (omega (arith, few))

few-asked : (width : Widths) (signal : Bool) → length (asked_of width signal) ≤ 3
few-asked width true = omega arith
few-asked width false = omega arith

nothing-asked : (a b : Option ℤ) (limit : ℤ) → a ≡ None → a ≡ Some limit → ⊥
nothing-asked a b limit e f = cc (e, f)

below-or : (a b : ℕ) → Decided (a < b)
below-or a b = search arith

few-channels : (parts : FileParts) (s c : ℕ) (limit : ℤ) → asked_at parts s c ≡ Some limit → c < 3
few-channels parts s c limit e = elim (below-or c 3) [
  | inl l ↦ l
  | inr far ↦ absurd (nothing-asked (asked_at parts s c) None limit
      (past-channels (asked_of parts.width (is_signal parts s)) c (few-asked parts.width (is_signal parts s)) (omega (arith, far))) e)
]

compare : (a b : ℤ) → Decided (a <ℤ b)
compare a b = search (arith, ints)

since : (first t : ℕ) → first ≤ t → t ≡ first + (t - first)
since first t h = omega (arith, h)

less-since : (tick first t : ℕ) → tick < first + t → first ≤ tick → tick - first < t
less-since tick first t l h = omega (arith, l, h)

few-since : (tick first n : ℕ) → first ≤ tick → tick < first + n → tick - first < n
few-since tick first n h l = omega (arith, h, l)

module _ (parts : FileParts) (bands : ℕ → ℕ → List Interval) where
  abbrev at_place : ℕ → ℕ → ℕ → ℤ → ℤ → TooWide
  at_place t s c width limit = record { stream = s; channel = c; tick = t; width = width; limit = limit }

  abbrev width_at : ℕ → ℕ → ℕ → ℤ
  width_at t s c = width_of (slice_index_or (bands t s) c (point (pos 0)))

  -- a band at this place is wider than was asked
  abbrev WideAt : ℕ → ℕ → ℕ → Type 0
  WideAt t s c = (limit : ℤ) × IsTooWide parts bands (at_place t s c (width_at t s c) limit)

  abbrev WideStream : ℕ → ℕ → Type 0
  WideStream t s = (c : ℕ) × (c < 3) × WideAt t s c

  abbrev WideTick : ℕ → ℕ → Type 0
  WideTick first t = (s : ℕ) × (s < length (streams_of parts)) × WideStream (first + t) s

  decide-limit : (t s c : ℕ) → s < length (streams_of parts) → IsOutputOf (origin_of (plant_of parts) s) → (asked : Option ℤ) →
      asked_at parts s c ≡ asked → Decided (WideAt t s c)
  decide-limit t s c there given None e = inr (λ w. cc (e, w.1.asked))
  decide-limit t s c there given (Some limit) e = elim (compare limit (width_at t s c)) [
    | inl l ↦ inl (limit, record { stream = there; given = given; asked = e; width = refl; wider = l })
    | inr not ↦ inr (λ w. let same : limit ≡ w.0 = cc (e, w.1.asked) in not (subst (λ z. z <ℤ width_at t s c) (sym same) w.1.wider))
  ]

  decide-given : (t s c : ℕ) → s < length (streams_of parts) → (origin : Origin) → origin_of (plant_of parts) s ≡ origin →
      Decided (WideAt t s c)
  decide-given t s c there (feed f) e = inr (λ w. subst IsOutputOf e w.1.given)
  decide-given t s c there (port u p) e =
      decide-limit t s c there (subst IsOutputOf (sym e) tt) (asked_at parts s c) refl

  decide-channel : (t s c : ℕ) → Decided (WideAt t s c)
  decide-channel t s c = elim (below-or s (length (streams_of parts))) [
    | inl l ↦ decide-given t s c l (origin_of (plant_of parts) s) refl
    | inr far ↦ inr (λ w. far w.1.stream)
  ]

  decide-stream : (t s : ℕ) → Decided (WideStream t s)
  decide-stream t s = decide-some (WideAt t s) (decide-channel t s) 3

  decide-tick : (first t : ℕ) → Decided (WideTick first t)
  decide-tick first t =
      decide-some (λ s. WideStream (first + t) s) (decide-stream (first + t)) (length (streams_of parts))

  -- a band that is wider than was asked is one of those that are looked for
  is-channel : (wide : TooWide) → IsTooWide parts bands wide → wide.channel < 3
  is-channel wide is = few-channels parts wide.stream wide.channel wide.limit is.asked

  is-at : (wide : TooWide) → IsTooWide parts bands wide → WideAt wide.tick wide.stream wide.channel
  is-at wide is = (wide.limit, record { stream = is.stream; given = is.given; asked = is.asked; width = refl; wider = subst (λ w. wide.limit <ℤ w) is.width is.wider })

  is-tick : (first n : ℕ) (wide : TooWide) → IsAmong first n wide → IsTooWide parts bands wide → WideTick first (wide.tick - first)
  is-tick first n wide among is = (
    wide.stream,
    is.stream,
    (wide.channel, is-channel wide is, subst (λ t. WideAt t wide.stream wide.channel) (since first wide.tick among.0) (is-at wide is)),
  )

  found-at : (first n t s c : ℕ) (limit : ℤ) → IsLeast (WideTick first) n t →
      IsLeast (λ s. WideStream (first + t) s) (length (streams_of parts)) s → IsLeast (WideAt (first + t) s) 3 c →
      (is : IsTooWide parts bands (at_place (first + t) s c (width_at (first + t) s c) limit)) →
      IsFirstWide parts bands first n (at_place (first + t) s c (width_at (first + t) s c) limit)
  found-at first n t s c limit tick stream channel is = record {
    among = (omega arith, omega (arith, tick.below));
    wide_is = is;
    sooner = λ other among other_is sooner. elim sooner [
      | inl l ↦ tick.first (other.tick - first) (less-since other.tick first t l among.0) (is-tick first n other among other_is)
      | inr rest ↦ elim rest.1 [
        | inl l ↦ stream.first other.stream l (
          other.channel,
          is-channel other other_is,
          subst (λ t. WideAt t other.stream other.channel) rest.0 (is-at other other_is),
        )
        | inr last ↦ channel.first other.channel last.1
            (subst (λ t. WideAt t s other.channel) rest.0 (subst (λ s. WideAt other.tick s other.channel) last.0 (is-at other other_is)))
      ]
    ];
  }

  found-channel : (first n t s : ℕ) → IsLeast (WideTick first) n t →
      IsLeast (λ s. WideStream (first + t) s) (length (streams_of parts)) s →
      ((c : ℕ) × IsLeast (WideAt (first + t) s) 3 c) ⊎ ((c : ℕ) → c < 3 → WideAt (first + t) s c → ⊥) →
      (wide : Option TooWide) × FindsWide wide parts bands first n
  found-channel first n t s tick stream (inl channel) =
      let limit = channel.1.holds.0 in (
        Some (at_place (first + t) s channel.0 (width_at (first + t) s channel.0) limit),
        found-at first n t s channel.0 limit tick stream channel.1 channel.1.holds.1,
      )
  found-channel first n t s tick stream (inr none) =
      absurd (none stream.holds.0 stream.holds.1 stream.holds.2)

  found-stream : (first n t : ℕ) → IsLeast (WideTick first) n t →
      ((s : ℕ) × IsLeast (λ s. WideStream (first + t) s) (length (streams_of parts)) s)
      ⊎ ((s : ℕ) → s < length (streams_of parts) → WideStream (first + t) s → ⊥) →
      (wide : Option TooWide) × FindsWide wide parts bands first n
  found-stream first n t tick (inl stream) =
      found-channel first n t stream.0 tick stream.1 (least (WideAt (first + t) stream.0) (decide-channel (first + t) stream.0) 3)
  found-stream first n t tick (inr none) = absurd (none tick.holds.0 tick.holds.1 tick.holds.2)

  pub found : (first n : ℕ) → (wide : Option TooWide) × FindsWide wide parts bands first n
  found first n = elim (least (WideTick first) (decide-tick first) n) [
    | inr none ↦ (None, λ wide among is. none (wide.tick - first) (few-since wide.tick first n among.0 among.1) (is-tick first n wide among is))
    | inl tick ↦ found-stream first n tick.0 tick.1
        (least (λ s. WideStream (first + tick.0) s) (decide-stream (first + tick.0)) (length (streams_of parts)))
  ]
