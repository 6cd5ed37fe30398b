use Rattle.std.proofs.Common.{◌≡◌, Ok, Result}
use Rattle.std.proofs.lemmas.Result.{IfOk-weaker}
use Rattle.std.specs.declared.alloc.AllocError.{AllocError}
use Rattle.ul_tree.specs.declared.tree.Tree.{Tree, Truth}
use Rattle.ul_tree.proofs.leaf.truth_alone.Goals as goal

-- a tree that is there
abbrev given : Tree → Result Tree AllocError
given t = Ok t

-- a value that was made is the one that was given
same_made : (t u : Tree) → given t ≡ Ok u → u ≡ t
same_made t u e = cc

pub returns : goal.returns
returns c = IfOk-weaker c.boxed.result _ _ (λ place told. same_made (Truth c.args.value) place.value told) c.boxed.ensures
