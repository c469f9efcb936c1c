-- Places at which a band is wider than was asked.
use Rattle.std.proofs.Common.{◌≡◌, ◌∙◌, ℕ, ◌+◌, ◌<◌, ℤ, pos, Bool, List, length}
use Rattle.std.proofs.Common.{refl, sym, ap, subst, inl, inr, arith, Some, None}
use Rattle.std.proofs.lemmas.Bool.{cases_eq}
use Rattle.std.specs.Prelude.{slice_index_or}
use Rattle.quant.specs.Interval.{Interval, point}
use Rattle.flowsheet.specs.Plant.{origin_of, feed}
use Rattle.parts.specs.Parts.{FileParts}
use Rattle.plant_streams.specs.Streams.{streams_of}
use Rattle.plant.specs.PlantOf.{plant_of}
use Rattle.relax_core.specs.Stepping.{IsOutputOf}
use Rattle.window_accept.specs.declared.channels.WideChannel.{WideChannel}
use Rattle.window_accept.specs.declared.wide.TooWide.{TooWide}
use Rattle.window_accept.specs.Wide.{asked_of, is_signal, width_of, IsTooWide, IsFirstWide}
use Rattle.window_accept.specs.Searching.{IsWideChannel, FindsChannel, IsTooWideAt, FindsInStream}

-- what is fed is not judged
pub unfed : (parts : FileParts) (bands : ℕ → ℕ → List Interval) (t s f : ℕ) → origin_of (plant_of parts) s ≡ feed f →
    FindsInStream None parts bands t s
unfed parts bands t s f e other here =
    subst IsOutputOf e (subst (λ (k : ℕ). IsOutputOf (origin_of (plant_of parts) k)) here.stream here.wide_is.given)

-- the place of a channel of a stream
abbrev pub place-of : ℕ → ℕ → WideChannel → TooWide
place-of t s found =
    record { stream = s; channel = found.channel; tick = t; width = found.width; limit = found.limit }

abbrev channel-of : TooWide → WideChannel
channel-of place = record { channel = place.channel; width = place.width; limit = place.limit }

-- the same place, by numbers that are equal
pub same-place : (parts : FileParts) (bands : ℕ → ℕ → List Interval) (at t s u c : ℕ) (width limit size most : ℤ) → u ≡ t →
    size ≡ width → most ≡ limit →
    FindsInStream (Some (record { stream = s; channel = c; tick = t; width = width; limit = limit })) parts bands at s →
    FindsInStream (Some (record { stream = s; channel = c; tick = u; width = size; limit = most })) parts bands at s
same-place parts bands at t s u c width limit size most e f g found =
    let one : TooWide = record { stream = s; channel = c; tick = t; width = width; limit = limit } in
    let other : TooWide = record { stream = s; channel = c; tick = u; width = size; limit = most } in
    let same : one ≡ other = cc in
    subst (λ (place : TooWide). FindsInStream (Some place) parts bands at s) same found

module _ (parts : FileParts) (bands : ℕ → ℕ → List Interval) (t s : ℕ) (signal : Bool) (row : List Interval)
    (signal_is : signal ≡ is_signal parts s) (row_is : row ≡ bands t s) where
  -- a place of this stream at this tick is one of the row
  in-row : (place : TooWide) → IsTooWideAt parts bands t s place →
      IsWideChannel (asked_of parts.width signal) row (channel-of place)
  in-row place here = record {
    asked_is = subst (λ (b : Bool). slice_index_or (asked_of parts.width b) place.channel None ≡ Some place.limit)
        (ap (is_signal parts) here.stream ∙ sym signal_is) here.wide_is.asked;
    width = here.wide_is.width ∙ ap (λ (bs : List Interval). width_of (slice_index_or bs place.channel (point (pos 0))))
        (ap (λ (k : ℕ). bands k place.stream) here.tick ∙ (ap (bands t) here.stream ∙ sym row_is));
    wider = here.wide_is.wider;
  }

  pub none-in-stream : FindsChannel None (asked_of parts.width signal) row → FindsInStream None parts bands t s
  none-in-stream none other here = none (channel-of other) (in-row other here)

  pub found-in-stream : (found : WideChannel) → s < length (streams_of parts) → IsOutputOf (origin_of (plant_of parts) s) →
      FindsChannel (Some found) (asked_of parts.width signal) row →
      FindsInStream (Some (place-of t s found)) parts bands t s
  found-in-stream found there given first = (
    record {
      tick = refl;
      stream = refl;
      wide_is = record {
        stream = there;
        given = given;
        asked = subst (λ (b : Bool). slice_index_or (asked_of parts.width b) found.channel None ≡ Some found.limit)
            signal_is first.0.asked_is;
        width = first.0.width ∙ ap (λ (bs : List Interval). width_of (slice_index_or bs found.channel (point (pos 0)))) row_is;
        wider = first.0.wider;
      };
    },
    λ other here sooner. first.1 (channel-of other) sooner (in-row other here),
  )

-- the streams of a tick, one after another
module _ (parts : FileParts) (bands : ℕ → ℕ → List Interval) (t s : ℕ)
    (none : (other : TooWide) → other.tick ≡ t → other.stream < s → IsTooWide parts bands other → ⊥) where
  pub none-more : FindsInStream None parts bands t s → (other : TooWide) → other.tick ≡ t → other.stream < s + 1 →
      IsTooWide parts bands other → ⊥
  none-more here other tick below is = elim (cases_eq other.stream s) [
    | inl e ↦ here other (record { tick = tick; stream = e; wide_is = is })
    | inr ne ↦ none other tick (omega arith) is
  ]

  pub first-at-tick : (place : TooWide) → FindsInStream (Some place) parts bands t s → IsFirstWide parts bands t 1 place
  first-at-tick place here = record {
    among = (omega (arith, here.0.tick), omega (arith, here.0.tick));
    wide_is = here.0.wide_is;
    sooner = λ other among is sooner. elim sooner [
      | inl l ↦ omega (arith, among.0, here.0.tick, l)
      | inr rest ↦ elim rest.1 [
        | inl l ↦ none other (rest.0 ∙ here.0.tick) (omega (arith, here.0.stream, l)) is
        | inr last ↦ here.1 other
            (record { tick = rest.0 ∙ here.0.tick; stream = last.0 ∙ here.0.stream; wide_is = is }) last.1
      ]
    ];
  }
