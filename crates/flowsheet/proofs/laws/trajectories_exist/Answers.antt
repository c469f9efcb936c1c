-- The run on the low ends is a trajectory.
use Rattle.flowsheet.proofs.Trajectories.{low-trajectory, point-trajectory}
use Rattle.flowsheet.proofs.laws.trajectories_exist.Goals as goal

pub returns-clause-bands : goal.returns-clause-bands
returns-clause-bands c plant carried feeds n ranked bands = (_, _, low-trajectory plant carried feeds n ranked bands)

pub returns-clause-points : goal.returns-clause-points
returns-clause-points c plant carried feeds n ranked single = (_, _, point-trajectory plant carried feeds n ranked single)
