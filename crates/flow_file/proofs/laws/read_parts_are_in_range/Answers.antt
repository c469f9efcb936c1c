use Rattle.flow_file.proofs.PlantRanges.{in_range}
use Rattle.flow_file.proofs.laws.read_parts_are_in_range.Goals as goal

pub returns : goal.returns
returns c = in_range
