use Rattle.std.proofs.Common.{◌<◌, ℕ, length, subst, sym}
use Rattle.std.proofs.lemmas.List.{length-map}
use Rattle.parts.specs.Parts.{FileParts}
use Rattle.plant_streams.specs.Streams.{streams_of}
use Rattle.plant.specs.PlantOf.{plant_of, origin_in}
use Rattle.feeds.specs.Given.{given_by}
use Rattle.flow_top.proofs.Channels.{given-numbers}
use Rattle.flow_top.specs.Ended.{records_for}
use Rattle.flow_top.proofs.laws.printed_bands_hold_trajectories.Goals as goal

-- the plant has a stream for each of the parts' streams
in-plant : (parts : FileParts) (s : ℕ) → s < length (streams_of parts) → s < length (plant_of parts).streams
unfolding plant_of
in-plant parts s l = subst (λ (n : ℕ). s < n) (sym (length-map (streams_of parts) (λ stream. origin_in stream.source))) l

pub returns-clause-holds : goal.returns-clause-holds
returns-clause-holds c words plant extra at n x y trajectory tick s t l =
    c.trajectories_lie_in_the_run.ensures.streams _ _ _ _ x y
    (c.built_plants_are_plants.ensures.ranked at.parts at.work.plant) trajectory tick s t (in-plant at.parts s l)

pub returns-clause-values : goal.returns-clause-values
returns-clause-values c words plant extra at n x y single trajectory tick s t l =
    c.points_run_alone.ensures.values _ _ _ _ x y
    (c.built_plants_are_plants.ensures.ranked at.parts at.work.plant) single trajectory tick s t (in-plant at.parts s l)

pub returns-clause-exists : goal.returns-clause-exists
returns-clause-exists c words plant extra at =
    c.trajectories_exist.ensures.bands _ _ _ at.parts.ticks (c.built_plants_are_plants.ensures.ranked at.parts at.work.plant)
    (given-numbers at.parts (given_by at.parts (records_for at.request extra)) at.work.plant (c.records_stay_in_limits.ensures at.parts (records_for at.request extra) at.work.plant)
    at.parts.ticks)
