use Rattle.std.proofs.lemmas.Result.{IfOk-weaker}
use Rattle.ul_marker_text.proofs.TextsRead.{no_formula}
use Rattle.ul_marker_text.proofs.Faulty.{fault_is}
use Rattle.ul_marker_text.proofs.texts.regrouped.Goals as goal

pub returns-in-Err-clause-refused : goal.returns-in-Err-clause-refused
returns-in-Err-clause-refused c e t h r =
    no_formula c.args.text.now t h (c.in-Err.ensures.no_reading (fault_is c.in-Err.fault e))

pub returns-in-Ok-clause-tree : goal.returns-in-Ok-clause-tree
returns-in-Ok-clause-tree c =
    IfOk-weaker c.tree_of_marker-tree.result _ _ (λ r is t h. is c.args.text.now t h c.in-Ok.ensures.read) c.tree_of_marker-tree.ensures.tree

pub returns-in-Ok-clause-refused : goal.returns-in-Ok-clause-refused
returns-in-Ok-clause-refused c e t h r = c.tree_of_marker-tree.ensures.refused e c.args.text.now t h c.in-Ok.ensures.read r
