-- Checks never answer a loop of instant units, nor a rank that is too great.
use Rattle.std.proofs.Common.{Ok, Err, Bool, true, false, ℕ, suc, List, [], ◌∷◌, Option, Some, None, pos, codes}
use Rattle.quant.specs.declared.limits.Limits.{Limits}
use Rattle.quant.specs.Interval.{Interval}
use Rattle.parts.specs.declared.units.UnitPart.{UnitPart}
use Rattle.parts.specs.declared.feeds.FeedBand.{FeedBand}
use Rattle.parts.specs.declared.feeds.FeedBand.TheVariants as feed_band
use Rattle.parts.specs.declared.feeds.FeedKind.{FeedKind}
use Rattle.parts.specs.declared.feeds.FeedKind.TheVariants as feed_kind
use Rattle.parts.specs.declared.feeds.FeedPart.{FeedPart}
use Rattle.parts.specs.declared.units.KindPart.{KindPart}
use Rattle.parts.specs.declared.units.KindPart.TheVariants as part
use Rattle.parts.specs.Parts.{FileParts}
use Rattle.plant_streams.specs.Streams.{Reference, number_of, references_of, gives_signal, streams_of}
use Rattle.plant_streams.specs.declared.streams.Stream.{Stream}
use Rattle.plant_streams.specs.Limits.{limits_in}
use Rattle.plant_checks.specs.declared.fault.PlantFault.{PlantFault}
use Rattle.plant_checks.specs.declared.fault.PlantFault.TheVariants as fault
use Rattle.plant_checks.specs.Checks.{Checked, ◌>>◌, refuse_if, each, source_refused, name_check, source_check}
use Rattle.plant_checks.specs.Checks.{port_refused, port_check, begins_below, limits_check, own_begins_below}
use Rattle.plant_checks.specs.Checks.{unit_place, own_limits_check, opening_refused, opening_check, piece_refused}
use Rattle.plant_checks.specs.Checks.{pieces_check, feed_pieces_check, piece_outside, inside_check, channels_of}
use Rattle.plant_checks.specs.Checks.{feed_inside_check, rate_refused, rate_kind_check, rate_check, column_kind_check}
use Rattle.plant_checks.specs.Checks.{column_check, names_of, checked}
use Rattle.plant_checks.specs.Openings.{openings_of}

-- what a check may answer
abbrev pub IsOfChecks : PlantFault → Type 0
IsOfChecks (fault.InstantLoop name) = ⊥
IsOfChecks (fault.TooDeep name) = ⊥
IsOfChecks _ = Prim.Unit {0}

abbrev pub IsCheck : Checked → Type 0
IsCheck (Ok done) = Prim.Unit {0}
IsCheck (Err refusal) = IsOfChecks refusal

both : (a b : Checked) → IsCheck a → IsCheck b → IsCheck (a >> b)
both (Ok done) b h k = k
both (Err refusal) b h k = h

refusing : (test : Bool) (refusal : PlantFault) → IsOfChecks refusal → IsCheck (refuse_if test refusal)
refusing true refusal h = h
refusing false refusal h = tt

all : {A : Type 0} (check : ℕ → A → Checked) (i : ℕ) (xs : List A) → ((j : ℕ) (x : A) → IsCheck (check j x)) →
    IsCheck (each check i xs)
all check i [] h = tt
all check i (x ∷ rest) h = both (check i x) _ (h i x) (all check (suc i) rest h)

is_found : (u : ℕ) (reference : Reference) (found : Option ℕ) → IsCheck (source_refused u reference found)
is_found u reference None = tt
is_found u reference (Some s) = tt

names_differ : (list : List (List ℕ)) (i : ℕ) (name : List ℕ) → IsCheck (name_check list i name)
unfolding name_check
names_differ list i name = refusing _ _ tt

sources_found : (streams : List Stream) (u : ℕ) (unit : UnitPart) → IsCheck (source_check streams u unit)
unfolding source_check
sources_found streams u unit = all (λ i reference. source_refused u reference (number_of streams reference.name)) 0
    (references_of unit.kind) (λ j reference. is_found u reference _)

ports_fit : (streams : List Stream) (u : ℕ) (unit : UnitPart) → IsCheck (port_check streams u unit)
unfolding port_check
ports_fit streams u unit =
    all (λ i reference. port_refused u reference (gives_signal streams (number_of streams reference.name))) 0
    (references_of unit.kind) (λ j reference. refusing _ _ tt)

limits_begin : (limits : Limits) → IsCheck (limits_check limits)
unfolding limits_check
limits_begin limits =
    both (refuse_if (begins_below (pos 0) limits.flow) (fault.BadLimits (codes "limits.flow")))
    (refuse_if (begins_below (pos 1) limits.volume) (fault.BadLimits (codes "limits.volume")))
    (refusing (begins_below (pos 0) limits.flow) (fault.BadLimits (codes "limits.flow")) tt)
    (refusing (begins_below (pos 1) limits.volume) (fault.BadLimits (codes "limits.volume")) tt)

own_limits_begin : (u : ℕ) (unit : UnitPart) → IsCheck (own_limits_check u unit)
unfolding own_limits_check
own_limits_begin u unit =
    both (refuse_if (own_begins_below (pos 0) unit.limits.flow)
    (fault.BadLimits (unit_place u (codes "limits.flow"))))
    (refuse_if (own_begins_below (pos 1) unit.limits.volume)
    (fault.BadLimits (unit_place u (codes "limits.volume"))))
    (refusing (own_begins_below (pos 0) unit.limits.flow) (fault.BadLimits (unit_place u (codes "limits.flow"))) tt)
    (refusing (own_begins_below (pos 1) unit.limits.volume)
    (fault.BadLimits (unit_place u (codes "limits.volume"))) tt)

openings_inside : (limits : Limits) (u : ℕ) (unit : UnitPart) → IsCheck (opening_check limits u unit)
unfolding opening_check
openings_inside limits u unit = all (λ i opening. opening_refused u opening) 0
    (openings_of (limits_in limits unit.limits) unit.kind) (λ j opening. refusing _ _ tt)

pieces_begin : (f : ℕ) (key : List ℕ) (band : FeedBand) → IsCheck (pieces_check f key band)
unfolding pieces_check
pieces_begin f key (feed_band.Constant band) = tt
pieces_begin f key (feed_band.Pieces list) = all (piece_refused f key list) 0 list (λ j piece. refusing _ _ tt)

feed_begins : (f : ℕ) (kind : FeedKind) → IsCheck (feed_pieces_check f kind)
unfolding feed_pieces_check
feed_begins f (feed_kind.Material flow conc temp) = both (pieces_check f (codes "flow") flow) _
    (pieces_begin f (codes "flow") flow)
    (both (pieces_check f (codes "conc") conc) _ (pieces_begin f (codes "conc") conc)
    (pieces_begin f (codes "temp") temp))
feed_begins f (feed_kind.Signal value) = pieces_begin f (codes "value") value

band_inside : (f : ℕ) (key : List ℕ) (limits : Interval) (band : FeedBand) → IsCheck (inside_check f key limits band)
unfolding inside_check
band_inside f key limits (feed_band.Constant band) = refusing _ _ tt
band_inside f key limits (feed_band.Pieces list) = all (piece_outside f key limits) 0 list (λ j piece. refusing _ _ tt)

feed_inside : (limits : Limits) (f : ℕ) (feed : FeedPart) → IsCheck (feed_inside_check limits f feed)
unfolding feed_inside_check
feed_inside limits f feed =
    all (λ i channel. inside_check f channel.key channel.limits channel.band) 0 (channels_of limits feed.kind)
    (λ j channel. band_inside f channel.key channel.limits channel.band)

rates_rise : (u : ℕ) (kind : KindPart) → IsCheck (rate_kind_check u kind)
unfolding rate_kind_check
rates_rise u (part.Tank input valve k volume flow conc temp) = tt
rates_rise u (part.Reactor input valve jacket k rate heat ua volume flow conc temp) =
    all (rate_refused u rate) 0 rate (λ j point. refusing _ _ tt)
rates_rise u (part.Column liquid vapour stages holdup slope x liquid_flow liquid_temp vapour_flow vapour_temp) = tt
rates_rise u (part.Controller set measured kp ki bias integral_limits integral out) = tt
rates_rise u (part.Mixer input) = tt
rates_rise u (part.Splitter input share) = tt

rates_of_unit : (u : ℕ) (unit : UnitPart) → IsCheck (rate_check u unit)
unfolding rate_check
rates_of_unit u unit = rates_rise u unit.kind

column_slow : (parts : FileParts) (name : List ℕ) (kind : KindPart) → IsCheck (column_kind_check parts name kind)
unfolding column_kind_check
column_slow parts name (part.Tank input valve k volume flow conc temp) = tt
column_slow parts name (part.Reactor input valve jacket k rate heat ua volume flow conc temp) = tt
column_slow parts name
    (part.Column liquid vapour stages holdup slope x liquid_flow liquid_temp vapour_flow vapour_temp) = refusing _ _ tt
column_slow parts name (part.Controller set measured kp ki bias integral_limits integral out) = tt
column_slow parts name (part.Mixer input) = tt
column_slow parts name (part.Splitter input share) = tt

column_of_unit : (parts : FileParts) (u : ℕ) (unit : UnitPart) → IsCheck (column_check parts u unit)
unfolding column_check
column_of_unit parts u unit = column_slow parts unit.name unit.kind

pub all_checks : (parts : FileParts) → IsCheck (checked parts)
unfolding checked
all_checks parts =
    both (each (name_check (names_of parts)) 0 (names_of parts)) _
    (all (name_check (names_of parts)) 0 (names_of parts) (names_differ (names_of parts)))
    (both (each (source_check (streams_of parts)) 0 parts.units) _
    (all (source_check (streams_of parts)) 0 parts.units (sources_found (streams_of parts)))
    (both (each (port_check (streams_of parts)) 0 parts.units) _
    (all (port_check (streams_of parts)) 0 parts.units (ports_fit (streams_of parts)))
    (both (limits_check parts.limits) _ (limits_begin parts.limits)
    (both (each own_limits_check 0 parts.units) _ (all own_limits_check 0 parts.units own_limits_begin)
    (both (each (opening_check parts.limits) 0 parts.units) _
    (all (opening_check parts.limits) 0 parts.units (openings_inside parts.limits))
    (both (each (λ f feed. feed_pieces_check f feed.kind) 0 parts.feeds) _
    (all (λ f feed. feed_pieces_check f feed.kind) 0 parts.feeds (λ f feed. feed_begins f feed.kind))
    (both (each (feed_inside_check parts.limits) 0 parts.feeds) _
    (all (feed_inside_check parts.limits) 0 parts.feeds (feed_inside parts.limits))
    (both (each rate_check 0 parts.units) _ (all rate_check 0 parts.units rates_of_unit)
    (all (column_check parts) 0 parts.units (column_of_unit parts))))))))))
