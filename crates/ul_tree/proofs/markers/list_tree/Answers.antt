use Rattle.std.proofs.Common.{ap, sym, ◌∙◌, List, false, subst, ◌++◌, ◌+◌, map, drop}
use Rattle.std.specs.Prelude.{All}
use Rattle.std.proofs.lemmas.List.Elements.{All-push}
use Rattle.std.proofs.lemmas.Result.{IfOk-weaker}
use Rattle.ul_version.specs.Fields.{Fields, plain}
use Rattle.ul_specifier.specs.Meaning.{meets_clause}
use Rattle.ul_comparison.specs.Truth.{as_asked, equal_to, python_release}
use Rattle.ul_tree.specs.Joining.{joint, truths_of}
use Rattle.ul_tree.specs.declared.tree.Tree.{Tree}
use Rattle.ul_tree.specs.TreeFacts.{IsTree, HoldsByPython, meets_release}
use Rattle.ul_base.proofs.ForCallers.{made_holds}
use Rattle.ul_tree.proofs.Joint.{listed_joint, truths_all, truths_more}
use Rattle.ul_tree.proofs.markers.list_tree.Goals as goal

pub returns-clause-truth : goal.returns-clause-truth
returns-clause-truth c =
    IfOk-weaker c.within_or_not.result _ _
    (λ tree truth w x h.
    let release = python_release c.args.full w in
    let f = λ (V : Fields). meets_clause (equal_to V) (plain release) in
    truth w x
    ∙ ap (as_asked c.args.within) (c.in_ok-tree.ensures.truth w x
    ∙ ap (joint false) (truths_all f c.loop-version.trees.items c.args.versions.now c.loop-version.version-index w x c.loop-version-test.false (c.loop-version.invariant.truth w x h))
    ∙ listed_joint c.args.versions.now release))
    c.within_or_not.ensures.truth

pub loop-version-preserved : goal.loop-version-preserved
loop-version-preserved c =
    let more = c.in_ok-trees.ensures in
    let trees = c.loop-version.trees.items in
    let items = c.args.versions.now in
    let i = c.loop-version.version-index in
    let reduced = made_holds c.version_tree.result more.0 IsTree more.1 c.version_tree.ensures.reduced in
    let truth = made_holds c.version_tree.result more.0 (λ t. HoldsByPython t c.args.full (meets_release (equal_to c.version-item.result))) more.1 c.version_tree.ensures.truth in
    record {
      reduced = subst (λ (xs : List Tree). All IsTree xs) (sym more.2) (All-push IsTree trees more.0 c.loop-version.invariant.reduced reduced);
      truth = λ w x h.
          let f = λ (V : Fields). meets_clause (equal_to V) (plain (python_release c.args.full w)) in
          ap (λ z. truths_of z w x ++ map f (drop (i + 1) items)) more.2
          ∙ truths_more f trees more.0 items i c.version-item.result w x c.loop-version-test.true c.version-item.is (truth w x h) (c.loop-version.invariant.truth w x h);
    }
