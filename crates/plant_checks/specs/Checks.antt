-- The checks of a plant's parts: they pass, or this is the first refusal. The checks run one after another; within a
-- check feeds come before units, and both in the order of the file.
use Rattle.std.specs.Prelude.{Result, ⊤, Ok, Err, Bool, if◌then◌else◌, ℕ, suc, List, [], ◌∷◌, ◌≡◌, ◌++◌, codes}
use Rattle.std.specs.Prelude.{decimal, map, take, bytes_eq, Option, Some, None, not, true, false, ℤ, int_le, pos}
use Rattle.std.specs.Prelude.{◌&&◌, ◌==◌, zero, nat_lt, slice_index_or, int_lt, ◌+ℤ◌, ◌*ℤ◌}
use Rattle.std.specs.List.{list_any}
use Rattle.quant.specs.Interval.{Interval}
use Rattle.quant.specs.declared.limits.Limits.{Limits}
use Rattle.quant.specs.Operation.{million}
use Rattle.parts.specs.Parts.{FileParts}
use Rattle.parts.specs.declared.units.UnitPart.{UnitPart}
use Rattle.parts.specs.declared.feeds.FeedBand.{FeedBand}
use Rattle.parts.specs.declared.feeds.FeedKind.{FeedKind}
use Rattle.parts.specs.declared.feeds.FeedKind.TheVariants as feed_kind
use Rattle.parts.specs.declared.feeds.Piece.{Piece}
use Rattle.parts.specs.declared.feeds.FeedBand.TheVariants as feed_band
use Rattle.parts.specs.declared.feeds.FeedPart.{FeedPart}
use Rattle.parts.specs.declared.units.KindPart.{KindPart}
use Rattle.parts.specs.declared.units.KindPart.TheVariants as part
use Rattle.plant_streams.specs.Streams.{Reference, number_of, references_of, gives_signal, streams_of}
use Rattle.plant_streams.specs.declared.streams.Stream.{Stream}
use Rattle.plant_streams.specs.Limits.{limits_in, source_at, source_limits}
use Rattle.plant_checks.specs.declared.fault.PlantFault.{PlantFault}
use Rattle.plant_checks.specs.declared.fault.Unbuilt.{Unbuilt}
use Rattle.plant_checks.specs.declared.fault.Unbuilt.TheVariants as unbuilt
use Rattle.plant_checks.specs.declared.fault.PlantFault.TheVariants as fault
use Rattle.plant_checks.specs.Openings.{Keyed, keyed, Opening, openings_of}

-- what checks answer: nothing, or the first refusal
abbrev pub Checked : Type 0
Checked = Result ⊤ PlantFault

infixl 10 ◌>>◌
abbrev pub ◌>>◌ : Checked → Checked → Checked
(Ok passed) >> next = next
(Err refusal) >> next = Err refusal

abbrev pub refuse_if : Bool → PlantFault → Checked
refuse_if test refusal = if test then Err refusal else Ok tt

-- a check of each item of a list, from the one with number i on
abbrev pub each : {A : Type 0} → (ℕ → A → Checked) → ℕ → List A → Checked
each check i [] = Ok tt
each check i (x ∷ rest) = check i x >> each check (suc i) rest

-- what a call answers is what the checks answer, unless memory ran out
abbrev pub Fails : Unbuilt → Checked → Type 0
Fails (unbuilt.Fault refusal) checked = checked ≡ Err refusal
Fails unbuilt.NoMemory checked = ⊤

abbrev pub Passes : {X : Type 0} → Result X Unbuilt → Checked → Type 0
Passes (Ok x) checked = checked ≡ Ok tt
Passes (Err end) checked = Fails end checked

-- places: of a unit's key, of a feed's key, and of a piece
unfoldable pub unit_place : ℕ → List ℕ → List ℕ
unit_place u key = codes "unit[" ++ decimal u ++ codes "]." ++ key

unfoldable pub feed_place : ℕ → List ℕ → List ℕ
feed_place f key = codes "feed[" ++ decimal f ++ codes "]." ++ key

unfoldable pub piece_place : ℕ → List ℕ → ℕ → List ℕ
piece_place f key i = feed_place f key ++ codes "[" ++ decimal i ++ codes "]"

-- each name is another than those before it
abbrev pub names_of : FileParts → List (List ℕ)
names_of parts = map (λ feed. feed.name) parts.feeds ++ map (λ unit. unit.name) parts.units

unfoldable pub name_check : List (List ℕ) → ℕ → List ℕ → Checked
name_check names i name = refuse_if (list_any (bytes_eq name) (take i names)) (fault.Twice name)

-- each reference names a stream
abbrev pub source_refused : ℕ → Reference → Option ℕ → Checked
source_refused u reference None = Err (fault.NoSource (unit_place u reference.key))
source_refused u reference (Some s) = Ok tt

unfoldable pub source_check : List Stream → ℕ → UnitPart → Checked
source_check streams u unit =
    each (λ i reference. source_refused u reference (number_of streams reference.name)) 0 (references_of unit.kind)

-- each reference names a material stream or a signal as its port needs
abbrev pub same_bool : Bool → Bool → Bool
same_bool true b = b
same_bool false b = not b

abbrev pub port_refused : ℕ → Reference → Bool → Checked
port_refused u reference found =
    refuse_if (not (same_bool found reference.signal)) (fault.WrongPort (unit_place u reference.key))

unfoldable pub port_check : List Stream → ℕ → UnitPart → Checked
port_check streams u unit =
    each (λ i reference. port_refused u reference (gives_signal streams (number_of streams reference.name))) 0
    (references_of unit.kind)

-- a band that begins below a first number
abbrev pub begins_below : ℤ → Interval → Bool
begins_below first band = not (int_le first band.lo)

-- no flow is negative, and each volume is at least 1
unfoldable pub limits_check : Limits → Checked
limits_check limits =
    refuse_if (begins_below (pos 0) limits.flow) (fault.BadLimits (codes "limits.flow"))
    >> refuse_if (begins_below (pos 1) limits.volume) (fault.BadLimits (codes "limits.volume"))

abbrev pub own_begins_below : ℤ → Option Interval → Bool
own_begins_below first None = false
own_begins_below first (Some band) = begins_below first band

unfoldable pub own_limits_check : ℕ → UnitPart → Checked
own_limits_check u unit =
    refuse_if (own_begins_below (pos 0) unit.limits.flow) (fault.BadLimits (unit_place u (codes "limits.flow")))
    >> refuse_if (own_begins_below (pos 1) unit.limits.volume) (fault.BadLimits (unit_place u (codes "limits.volume")))

-- a band that is not inside its limits
abbrev pub is_outside : Interval → Interval → Bool
is_outside band limits = not (int_le limits.lo band.lo && int_le band.hi limits.hi)

-- each opening band is inside its limits
abbrev pub opening_refused : ℕ → Opening → Checked
opening_refused u opening =
    refuse_if (is_outside opening.band opening.limits) (fault.StartOutside (unit_place u opening.key))

unfoldable pub opening_check : Limits → ℕ → UnitPart → Checked
opening_check limits u unit =
    each (λ i opening. opening_refused u opening) 0 (openings_of (limits_in limits unit.limits) unit.kind)

-- a feed's channels, each under the plant's limits
abbrev pub Channel : Type 0
Channel = Keyed FeedBand

unfoldable pub channels_of : Limits → FeedKind → List Channel
channels_of limits (feed_kind.Material flow conc temp) =
    keyed (codes "flow") flow limits.flow ∷ keyed (codes "conc") conc limits.conc
    ∷ keyed (codes "temp") temp limits.temp ∷ []
channels_of limits (feed_kind.Signal value) = keyed (codes "value") value limits.signal ∷ []

-- the first piece begins at tick 0, and each other one after the one before
abbrev pub begins_well : List Piece → ℕ → ℕ → Bool
begins_well pieces zero tick = tick == 0
begins_well pieces (suc i) tick = nat_lt (slice_index_or (map (λ piece. piece.tick) pieces) i 0) tick

abbrev pub piece_refused : ℕ → List ℕ → List Piece → ℕ → Piece → Checked
piece_refused f key pieces i piece =
    refuse_if (not (begins_well pieces i piece.tick)) (fault.FeedPieces (piece_place f key i))

unfoldable pub pieces_check : ℕ → List ℕ → FeedBand → Checked
pieces_check f key (feed_band.Constant band) = Ok tt
pieces_check f key (feed_band.Pieces pieces) = each (piece_refused f key pieces) 0 pieces

unfoldable pub feed_pieces_check : ℕ → FeedKind → Checked
feed_pieces_check f (feed_kind.Material flow conc temp) =
    pieces_check f (codes "flow") flow >> (pieces_check f (codes "conc") conc >> pieces_check f (codes "temp") temp)
feed_pieces_check f (feed_kind.Signal value) = pieces_check f (codes "value") value

-- a feed's band, in each piece, is inside the plant's limit
abbrev pub piece_outside : ℕ → List ℕ → Interval → ℕ → Piece → Checked
piece_outside f key limits i piece = refuse_if (is_outside piece.band limits) (fault.FeedOutside (piece_place f key i))

unfoldable pub inside_check : ℕ → List ℕ → Interval → FeedBand → Checked
inside_check f key limits (feed_band.Constant band) =
    refuse_if (is_outside band limits) (fault.FeedOutside (feed_place f key))
inside_check f key limits (feed_band.Pieces pieces) = each (piece_outside f key limits) 0 pieces

unfoldable pub feed_inside_check : Limits → ℕ → FeedPart → Checked
feed_inside_check limits f feed =
    each (λ i channel. inside_check f channel.key channel.limits channel.band) 0 (channels_of limits feed.kind)

-- each temperature of a rate table is above the one before it, and no rate is below the one before it
abbrev pub rises_well : List (ℤ × ℤ) → ℕ → ℤ × ℤ → Bool
rises_well points zero point = true
rises_well points (suc i) point =
    let before = slice_index_or points i (pos 0, pos 0) in
    int_lt before.0 point.0 && int_le before.1 point.1

abbrev pub rate_refused : ℕ → List (ℤ × ℤ) → ℕ → ℤ × ℤ → Checked
rate_refused u points i point = refuse_if (not (rises_well points i point))
    (fault.TableFalls (unit_place u (codes "rate[" ++ decimal i ++ codes "]")))

unfoldable pub rate_kind_check : ℕ → KindPart → Checked
rate_kind_check u (part.Reactor input valve jacket k rate heat ua volume flow conc temp) =
    each (rate_refused u rate) 0 rate
rate_kind_check u _ = Ok tt

unfoldable pub rate_check : ℕ → UnitPart → Checked
rate_check u unit = rate_kind_check u unit.kind

-- the greatest flow that a stream may have, by its name
abbrev pub greatest_flow : FileParts → Option ℕ → ℤ
greatest_flow parts None = pos 0
greatest_flow parts (Some s) = (source_limits parts (source_at parts s)).flow.hi

-- more may leave a stage of a column in a tick than it holds, or more vapour may come than its holdup
abbrev pub is_too_fast : ℤ → ℤ → ℤ → ℤ → Bool
is_too_fast holdup slope l v = not (int_le (l *ℤ million +ℤ v *ℤ slope) (holdup *ℤ million) && int_le v holdup)

unfoldable pub column_kind_check : FileParts → List ℕ → KindPart → Checked
column_kind_check parts name
    (part.Column liquid vapour stages holdup slope x liquid_flow liquid_temp vapour_flow vapour_temp) =
    refuse_if (is_too_fast holdup slope (greatest_flow parts (number_of (streams_of parts) liquid))
    (greatest_flow parts (number_of (streams_of parts) vapour)))
    (fault.ColumnTooFast name)
column_kind_check parts name _ = Ok tt

unfoldable pub column_check : FileParts → ℕ → UnitPart → Checked
column_check parts u unit = column_kind_check parts unit.name unit.kind

-- all checks of a plant's parts, in their order
unfoldable pub checked : FileParts → Checked
checked parts = do
  each (name_check (names_of parts)) 0 (names_of parts)
  each (source_check (streams_of parts)) 0 parts.units
  each (port_check (streams_of parts)) 0 parts.units
  limits_check parts.limits
  each own_limits_check 0 parts.units
  each (opening_check parts.limits) 0 parts.units
  each (λ f feed. feed_pieces_check f feed.kind) 0 parts.feeds
  each (feed_inside_check parts.limits) 0 parts.feeds
  each rate_check 0 parts.units
  each (column_check parts) 0 parts.units
