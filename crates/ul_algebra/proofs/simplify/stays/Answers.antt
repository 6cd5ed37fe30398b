use Rattle.std.proofs.Common.{refl, sym, ◌∙◌}
use Rattle.ul_tree.proofs.ForCallers.{all_done, truth_done}
use Rattle.ul_algebra.specs.Spelled.{tree_of}
use Rattle.ul_algebra.proofs.simplify.stays.Goals as goal

pub returns-then-known : goal.returns-then-known
returns-then-known c = λ t. all_done (tree_of c.args.f.now) (tree_of c.args.c.now) (tree_of c.args.f.now) (sym c.known.ensures ∙ c.if-known.true) refl

pub returns-in-None : goal.returns-in-None
returns-in-None c = λ t. truth_done (tree_of c.args.f.now) (tree_of c.args.c.now) (tree_of c.args.f.now) c.in-None.ensures refl
