use Rattle.std.proofs.Common.{◌≡◌, ℕ, Bool, false, Result, Ok, Err, [], ap, sym, ◌∙◌, List, true, subst, ◌++◌, ◌+◌, map, drop}
use Rattle.std.specs.Prelude.{All, IfOk}
use Rattle.std.specs.declared.alloc.AllocError.{AllocError}
use Rattle.std.proofs.lemmas.Result.{IfOk-weaker}
use Rattle.ul_tree.specs.Sample.{asks_extra}
use Rattle.std.proofs.lemmas.List.Elements.{All-push}
use Rattle.ul_version.specs.Fields.{plain}
use Rattle.ul_specifier.specs.Clauses.{ClauseFields}
use Rattle.ul_specifier.specs.Meaning.{meets_clause, meets_list}
use Rattle.ul_comparison.specs.Truth.{python_release}
use Rattle.ul_tree.specs.Joining.{joint, truths_of}
use Rattle.ul_tree.specs.Views.{tree_view}
use Rattle.ul_tree.specs.declared.tree.Tree.{Tree}
use Rattle.ul_tree.specs.TreeFacts.{IsTree, HoldsByPython, meets_release}
use Rattle.ul_base.proofs.ForCallers.{made_holds}
use Rattle.ul_tree.proofs.Joint.{meets_joint, truths_all, truths_more}
use Rattle.ul_tree.proofs.TreeTruths.{no_extra}
use Rattle.ul_tree.proofs.markers.of_python.Goals as goal

pub returns-clause-truth : goal.returns-clause-truth
returns-clause-truth c =
    IfOk-weaker c.joined.result _ _
    (λ tree truth w x h.
    let release = python_release true w in
    let f = λ (s : ClauseFields). meets_clause s (plain release) in
    truth w x
    ∙ ap (joint true) (truths_all f c.loop-clause.trees.items c.deref-clause-items.result.now c.loop-clause.clause-index w x c.loop-clause-test.false (c.loop-clause.invariant.truth w x h))
    ∙ meets_joint c.deref-clause-items.result.now (plain release)
    ∙ ap (λ z. meets_list z (plain release)) (c.deref-clause-items.ensures.value ∙ c.specifiers.view_is))
    c.joined.ensures.truth

-- what is said of the interpreter alone asks for no extra
asks_none : (f : List ℕ → Bool) (made : Result Tree AllocError) → IfOk made IsTree → IfOk made (λ t. HoldsByPython t true f) → IfOk made (λ t. asks_extra (tree_view t) ≡ false)
asks_none f (Ok t) reduced truth = no_extra.region (tree_view t) (record { reduced = reduced; truth = λ w x h. truth w x h ∙ sym (truth w [] h) })
asks_none f (Err e) reduced truth = tt

pub returns-clause-no_extra : goal.returns-clause-no_extra
returns-clause-no_extra c = asks_none (λ release. meets_list c.args.specifiers.now (plain release)) c.joined.result c.joined.ensures.reduced (returns-clause-truth c)

pub loop-clause-preserved : goal.loop-clause-preserved
loop-clause-preserved c =
    let more = c.in_ok-trees.ensures in
    let trees = c.loop-clause.trees.items in
    let items = c.deref-clause-items.result.now in
    let i = c.loop-clause.clause-index in
    let reduced = made_holds c.clause_tree.result more.0 IsTree more.1 c.clause_tree.ensures.reduced in
    let truth = made_holds c.clause_tree.result more.0 (λ t. HoldsByPython t true (meets_release c.clause-item.result)) more.1 c.clause_tree.ensures.truth in
    record {
      reduced = subst (λ (xs : List Tree). All IsTree xs) (sym more.2) (All-push IsTree trees more.0 c.loop-clause.invariant.reduced reduced);
      truth = λ w x h.
          let f = λ (s : ClauseFields). meets_clause s (plain (python_release true w)) in
          ap (λ z. truths_of z w x ++ map f (drop (i + 1) items)) more.2
          ∙ truths_more f trees more.0 items i c.clause-item.result w x c.loop-clause-test.true c.clause-item.is (truth w x h) (c.loop-clause.invariant.truth w x h);
    }
