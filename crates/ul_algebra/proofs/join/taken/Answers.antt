use Rattle.std.proofs.Common.{◌≡◌, ap, sym, ◌∙◌}
use Rattle.ul_algebra.specs.Joinings.{at_once_tree}
use Rattle.ul_algebra.specs.Spelled.{tree_of}
use Rattle.ul_algebra.proofs.Kept.{if_share, made_then}
use Rattle.ul_algebra.proofs.join.taken.Goals as goal

pub returns-in-Truth-clause-tree : goal.returns-in-Truth-clause-tree
returns-in-Truth-clause-tree g c =
    let at_once = at_once_tree (tree_of c.args.a.now) (tree_of c.args.b.now) in
    made_then c.truth.result _ (λ d. tree_of d ≡ at_once c.args.found) (λ d e. e ∙ sym (ap at_once c.in-Truth.is)) c.truth.ensures.tree

pub returns-in-First-clause-tree : goal.returns-in-First-clause-tree
returns-in-First-clause-tree g c =
    let at_once = at_once_tree (tree_of c.args.a.now) (tree_of c.args.b.now) in
    if_share c.share.result c.args.a.now (λ d. tree_of d ≡ at_once c.args.found) c.share.ensures (sym (ap at_once c.in-First.is))

pub returns-in-Second-clause-tree : goal.returns-in-Second-clause-tree
returns-in-Second-clause-tree g c =
    let at_once = at_once_tree (tree_of c.args.a.now) (tree_of c.args.b.now) in
    if_share c.share-in-Second.result c.args.b.now (λ d. tree_of d ≡ at_once c.args.found) c.share-in-Second.ensures (sym (ap at_once c.in-Second.is))
