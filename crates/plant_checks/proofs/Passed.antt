-- Checks that pass, and what they say.
use Rattle.std.proofs.Common.{◌≡◌, Ok, Err, refl, Bool, true, false, not, arith, ℤ, ◌≤ℤ◌}
use Rattle.std.specs.Prelude.{int_le, ◌&&◌}
use Rattle.std.proofs.lemmas.Int.{ints}
use Rattle.quant.specs.Interval.{Interval, IsInside}
use Rattle.parts.specs.Parts.{FileParts}
use Rattle.plant_streams.specs.Streams.{streams_of}
use Rattle.plant_checks.specs.Checks.{Checked, ◌>>◌, refuse_if, is_outside, begins_below, each, names_of, name_check}
use Rattle.plant_checks.specs.Checks.{source_check, port_check, limits_check, own_limits_check, opening_check}
use Rattle.plant_checks.specs.Checks.{feed_pieces_check, feed_inside_check, column_check, rate_check, checked}
use Rattle.plant_checks.specs.declared.fault.PlantFault.{PlantFault}

-- two checks that pass one after another pass
pub passes-both : (a b : Checked) → (a >> b) ≡ Ok tt → (a ≡ Ok tt) × (b ≡ Ok tt)
passes-both (Ok x) b e = (refl, e)
passes-both (Err refusal) b e = absurd cc

-- checks that pass, with nothing after them
pub passes-one : (a : Checked) → a ≡ Ok tt → (a >> Ok tt) ≡ Ok tt
passes-one (Ok x) e = refl
passes-one (Err refusal) e = absurd cc

pub passes-three : (a b c : Checked) → (a >> (b >> c)) ≡ Ok tt → (a >> (b >> (c >> Ok tt))) ≡ Ok tt
passes-three (Ok x) (Ok y) c e = passes-one c e
passes-three (Ok x) (Err refusal) c e = absurd cc
passes-three (Err refusal) b c e = absurd cc

-- what is not refused fails the test
pub passes-not : (test : Bool) (refusal : PlantFault) → refuse_if test refusal ≡ Ok tt → test ≡ false
passes-not true refusal e = absurd cc
passes-not false refusal e = refl

pub passes-test : (test : Bool) (refusal : PlantFault) → refuse_if (not test) refusal ≡ Ok tt → test ≡ true
passes-test true refusal e = refl
passes-test false refusal e = absurd cc

-- a band that is not outside its limits is inside
inside-yes : (band limits : Interval) → (int_le limits.lo band.lo && int_le band.hi limits.hi) ≡ true →
    IsInside band limits
inside-yes band limits e = record { above = grind (arith, ints); below = grind (arith, ints) }

pub passes-inside : (band limits : Interval) (refusal : PlantFault) →
    refuse_if (is_outside band limits) refusal ≡ Ok tt →
    IsInside band limits
passes-inside band limits refusal e = inside-yes band limits (passes-test _ refusal e)

-- one that does not begin below a number begins from it on
begins-yes : (first lo : ℤ) → int_le first lo ≡ true → first ≤ℤ lo
begins-yes first lo e = grind (arith, ints)

pub passes-begins : (first : ℤ) (band : Interval) (refusal : PlantFault) →
    refuse_if (begins_below first band) refusal ≡ Ok tt →
    first ≤ℤ band.lo
passes-begins first band refusal e = begins-yes first band.lo (passes-test _ refusal e)

-- all checks of a plant's parts, each by itself
pub record ArePassed (parts : FileParts) : Type 0 where
  pub names : each (name_check (names_of parts)) 0 (names_of parts) ≡ Ok tt
  pub sources : each (source_check (streams_of parts)) 0 parts.units ≡ Ok tt
  pub ports : each (port_check (streams_of parts)) 0 parts.units ≡ Ok tt
  pub limits : limits_check parts.limits ≡ Ok tt
  pub own_limits : each own_limits_check 0 parts.units ≡ Ok tt
  pub openings : each (opening_check parts.limits) 0 parts.units ≡ Ok tt
  pub pieces : each (λ f feed. feed_pieces_check f feed.kind) 0 parts.feeds ≡ Ok tt
  pub insides : each (feed_inside_check parts.limits) 0 parts.feeds ≡ Ok tt
  pub rates : each rate_check 0 parts.units ≡ Ok tt
  pub columns : each (column_check parts) 0 parts.units ≡ Ok tt

pub are-passed : (parts : FileParts) → checked parts ≡ Ok tt → ArePassed parts
unfolding checked
are-passed parts e =
    let a = passes-both (each (name_check (names_of parts)) 0 (names_of parts)) _ e in
    let b = passes-both (each (source_check (streams_of parts)) 0 parts.units) _ a.1 in
    let c = passes-both (each (port_check (streams_of parts)) 0 parts.units) _ b.1 in
    let d = passes-both (limits_check parts.limits) _ c.1 in
    let f = passes-both (each own_limits_check 0 parts.units) _ d.1 in
    let g = passes-both (each (opening_check parts.limits) 0 parts.units) _ f.1 in
    let h = passes-both (each (λ f feed. feed_pieces_check f feed.kind) 0 parts.feeds) _ g.1 in
    let i = passes-both (each (feed_inside_check parts.limits) 0 parts.feeds) _ h.1 in
    let j = passes-both (each rate_check 0 parts.units) _ i.1 in
    record {
      names = a.0;
      sources = b.0;
      ports = c.0;
      limits = d.0;
      own_limits = f.0;
      openings = g.0;
      pieces = h.0;
      insides = i.0;
      rates = j.0;
      columns = j.1;
    }
