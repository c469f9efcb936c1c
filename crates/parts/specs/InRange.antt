-- The ranges of what a plant file says.
use Rattle.std.specs.Prelude.{◌≡◌, ◌≤◌, ℕ, ℤ, pos, true, List, length, IfSome, Option}
use Rattle.std.specs.List.{AllByRecursion}
use Rattle.quant.specs.Interval.{Interval, Holds, IsBand, IsInside, wide}
use Rattle.quant.specs.Operation.{ppm, gains, holdups, slopes}
use Rattle.quant.specs.declared.limits.Limits.{Limits}
use Rattle.parts.specs.declared.feeds.Piece.{Piece}
use Rattle.parts.specs.declared.feeds.FeedBand.{FeedBand}
use Rattle.parts.specs.declared.feeds.FeedBand.TheVariants as feed_band
use Rattle.parts.specs.declared.feeds.FeedKind.{FeedKind}
use Rattle.parts.specs.declared.feeds.FeedKind.TheVariants as feed_kind
use Rattle.parts.specs.declared.feeds.FeedPart.{FeedPart}
use Rattle.parts.specs.declared.units.KindPart.{KindPart}
use Rattle.parts.specs.declared.units.KindPart.TheVariants as kind
use Rattle.parts.specs.declared.units.Quantities.{Quantities}
use Rattle.parts.specs.declared.units.UnitPart.{UnitPart}
use Rattle.parts.specs.declared.parts.Widths.{Widths}
use Rattle.plant_names.specs.Name.{is_name, is_reference}
use Rattle.parts.specs.Parts.{FileParts}

-- the whole numbers from lo to hi, both not negative
abbrev pub from_to : ℕ → ℕ → Interval
from_to lo hi = record { lo = pos lo; hi = pos hi }

-- a count from the least to the most, and a list of so many values that meet P
abbrev pub IsBetween : ℕ → ℕ → ℕ → Type 0
IsBetween least most n = (least ≤ n) × (n ≤ most)

abbrev pub AreBetween : {A : Type 0} → ℕ → ℕ → (A → Type 0) → List A → Type 0
AreBetween least most P xs = (least ≤ length xs) × (length xs ≤ most) × AllByRecursion P xs

-- a band of wide numbers
abbrev pub IsWide : Interval → Type 0
IsWide band = IsBand band × IsInside band wide

abbrev pub IsName : List ℕ → Type 0
IsName bytes = is_name bytes ≡ true

abbrev pub IsReference : List ℕ → Type 0
IsReference bytes = is_reference bytes ≡ true

-- a piece, by the greatest tick at which one begins; and the pieces of a feed's band
abbrev pub last_piece : ℕ
last_piece = 1000000000

abbrev pub IsPiece : Piece → Type 0
IsPiece piece = (piece.tick ≤ last_piece) × IsWide piece.band

abbrev pub most_pieces : ℕ
most_pieces = 1000

abbrev pub ArePieces : List Piece → Type 0
ArePieces = AreBetween 1 most_pieces IsPiece

abbrev pub IsFeedBand : FeedBand → Type 0
IsFeedBand (feed_band.Constant band) = IsWide band
IsFeedBand (feed_band.Pieces pieces) = ArePieces pieces

abbrev pub IsFeedKind : FeedKind → Type 0
IsFeedKind (feed_kind.Material flow conc temp) = IsFeedBand flow × IsFeedBand conc × IsFeedBand temp
IsFeedKind (feed_kind.Signal value) = IsFeedBand value

pub record IsFeedPart (feed : FeedPart) : Type 0 where
  pub name : IsName feed.name
  pub kind : IsFeedKind feed.kind

-- a point of a rate table, and the points of a table, which are not many
abbrev pub IsRatePoint : ℤ × ℤ → Type 0
IsRatePoint point = Holds wide point.0 × Holds ppm point.1

abbrev pub most_rate_points : ℕ
most_rate_points = 64

abbrev pub AreRatePoints : List (ℤ × ℤ) → Type 0
AreRatePoints = AreBetween 1 most_rate_points IsRatePoint

-- the opening bands of what a tank or a reactor holds
abbrev pub AreContents : Interval → Interval → Interval → Interval → Type 0
AreContents volume flow conc temp = IsWide volume × IsWide flow × IsWide conc × IsWide temp

-- what a mixer reads: the fewest references, and the most
abbrev pub fewest_inputs : ℕ
fewest_inputs = 2

abbrev pub most_inputs : ℕ
most_inputs = 8

abbrev pub AreInputs : List (List ℕ) → Type 0
AreInputs = AreBetween fewest_inputs most_inputs IsReference

-- the most stages of a column
abbrev pub most_stages : ℕ
most_stages = 64

-- what a column starts from
abbrev pub AreColumnBands : Interval → Interval → Interval → Interval → Interval → Type 0
AreColumnBands x liquid_flow liquid_temp vapour_flow vapour_temp =
    IsWide x × IsWide liquid_flow × IsWide liquid_temp × IsWide vapour_flow × IsWide vapour_temp

abbrev pub IsKindPart : KindPart → Type 0
IsKindPart (kind.Tank input valve k volume flow conc temp) =
    IsReference input × IsReference valve × Holds ppm k × AreContents volume flow conc temp
IsKindPart (kind.Reactor input valve jacket k rate heat ua volume flow conc temp) =
    IsReference input × IsReference valve × IsReference jacket × Holds ppm k × AreRatePoints rate × Holds gains heat
    × Holds ppm ua × AreContents volume flow conc temp
IsKindPart (kind.Column liquid vapour stages holdup slope x liquid_flow liquid_temp vapour_flow vapour_temp) =
    IsReference liquid × IsReference vapour × (1 ≤ stages) × (stages ≤ most_stages) × Holds holdups holdup
    × Holds slopes slope × AreColumnBands x liquid_flow liquid_temp vapour_flow vapour_temp
IsKindPart (kind.Controller set measured kp ki bias integral_limits integral out) =
    IsReference set × IsReference measured × Holds gains kp × Holds gains ki × Holds wide bias × IsWide integral_limits
    × IsWide integral × IsWide out
IsKindPart (kind.Mixer input) = AreInputs input
IsKindPart (kind.Splitter input share) = IsReference input × Holds ppm share

-- the value of each quantity meets P
pub record AllMeet {A : Type 0} (P : A → Type 0) (quantities : Quantities A) : Type 0 where
  pub flow : P quantities.flow
  pub conc : P quantities.conc
  pub temp : P quantities.temp
  pub volume : P quantities.volume
  pub signal : P quantities.signal

-- the limits that are a unit's own
abbrev pub OwnLimits : Type 0
OwnLimits = Quantities (Option Interval)

abbrev pub AreOwnLimits : OwnLimits → Type 0
AreOwnLimits limits = AllMeet (λ limit. IfSome limit IsWide) limits

pub record IsUnitPart (unit : UnitPart) : Type 0 where
  pub name : IsName unit.name
  pub kind : IsKindPart unit.kind
  pub limits : AreOwnLimits unit.limits

pub record AreWideLimits (limits : Limits) : Type 0 where
  pub flow : IsWide limits.flow
  pub conc : IsWide limits.conc
  pub temp : IsWide limits.temp
  pub volume : IsWide limits.volume
  pub signal : IsWide limits.signal

-- a width that may be asked for
abbrev pub widths : Interval
widths = from_to 0 2000000000000

pub record AreWidths (width : Widths) : Type 0 where
  pub flow : IfSome width.flow (Holds widths)
  pub conc : IfSome width.conc (Holds widths)
  pub temp : IfSome width.temp (Holds widths)
  pub signal : IfSome width.signal (Holds widths)

-- the feeds and the units, of which there is one at least
abbrev pub most_feeds : ℕ
most_feeds = 256

abbrev pub AreFeeds : List FeedPart → Type 0
AreFeeds feeds = (length feeds ≤ most_feeds) × AllByRecursion IsFeedPart feeds

abbrev pub most_units : ℕ
most_units = 256

abbrev pub AreUnits : List UnitPart → Type 0
AreUnits = AreBetween 1 most_units IsUnitPart

-- the most ticks of a run and of a window
abbrev pub most_ticks : ℕ
most_ticks = 100000

abbrev pub longest_window : ℕ
longest_window = 64

pub record AreInRange (parts : FileParts) : Type 0 where
  pub ticks : IsBetween 1 most_ticks parts.ticks
  pub window : IsBetween 1 longest_window parts.window
  pub limits : AreWideLimits parts.limits
  pub width : AreWidths parts.width
  pub feeds : AreFeeds parts.feeds
  pub units : AreUnits parts.units
