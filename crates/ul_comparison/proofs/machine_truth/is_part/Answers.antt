use Rattle.std.proofs.lemmas.Str.Pattern.{contains_text}
use Rattle.ul_comparison.proofs.Parts.{decides_part}
use Rattle.ul_comparison.proofs.machine_truth.is_part.Goals as goal

pub returns : goal.returns
returns c = decides_part c.contains.result c.args.piece.now c.args.text.now (contains_text c.contains.result c.args.piece.now c.args.text.now c.contains.ensures.cases)
