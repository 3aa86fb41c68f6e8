use Rattle.inputs.proofs.Places.{not_there, is_there}
use Rattle.inputs.proofs.end_input.Goals as goal

pub returns-then-num_endpoint_groups-e : goal.returns-then-num_endpoint_groups-e
returns-then-num_endpoint_groups-e c = search not_there

pub returns : goal.returns
returns c = search is_there
