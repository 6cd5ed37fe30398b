use Rattle.std.proofs.Common.{refl}
use Rattle.ul_report_judge.proofs.Looked.{found_within, place_found}
use Rattle.ul_report_judge.proofs.places.place_of_node.Goals as goal

pub returns : goal.returns
returns c = record {
  place = place_found c.args.problem.now c.args.problem.now.nodes c.args.node.now c.place_of-place.result c.nodes.ensures.whole refl c.place_of-place.ensures;
  known = found_within c.args.problem.now c.args.problem.now.nodes c.args.node.now c.place_of-place.result refl c.place_of-place.ensures;
}
