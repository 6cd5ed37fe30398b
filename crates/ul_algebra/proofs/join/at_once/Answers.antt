use Rattle.std.proofs.Common.{sym}
use Rattle.ul_nodes.proofs.ForCallers.{same_true}
use Rattle.ul_algebra.specs.Joinings.{truth_of, FollowsSide, IsJoinAtOnce}
use Rattle.ul_algebra.specs.Spelled.{tree_of}
use Rattle.ul_algebra.specs.declared.questions.AtOnce.TheVariants.{First, Second}
use Rattle.ul_algebra.proofs.Joins.{answer_then, equal_known, first_known, second_known}
use Rattle.ul_algebra.proofs.join.at_once.Goals as goal

pub returns-in-Some : goal.returns-in-Some
returns-in-Some c =
    answer_then (λ k. FollowsSide c.truth.result c.truth-in-Some.result Second k) (λ k. IsJoinAtOnce c.args.op c.args.a.now c.args.b.now k) c.following.result
    (λ k f. first_known (truth_of c.args.op) (tree_of c.args.a.now) (tree_of c.args.b.now) c.truth.result c.truth-in-Some.result c.in-Some.value k c.in-Some.ensures c.requires.b.reduced c.truth.ensures c.truth-in-Some.ensures f)
    c.following.ensures

pub returns-in-Some-truth_value : goal.returns-in-Some-truth_value
returns-in-Some-truth_value c =
    answer_then (λ k. FollowsSide c.truth-in-Some-truth_value.result c.truth-in-Some-truth_value-2.result First k) (λ k. IsJoinAtOnce c.args.op c.args.a.now c.args.b.now k) c.following-in-Some-truth_value.result
    (λ k f. second_known (truth_of c.args.op) (tree_of c.args.a.now) (tree_of c.args.b.now) c.truth-in-Some-truth_value.result c.truth-in-Some-truth_value-2.result c.in-Some-truth_value.value k c.in-Some-truth_value.ensures c.requires.a.reduced
    c.truth-in-Some-truth_value.ensures c.truth-in-Some-truth_value-2.ensures f)
    c.following-in-Some-truth_value.ensures

pub returns-then-same : goal.returns-then-same
returns-then-same c =
    answer_then (λ k. FollowsSide c.truth-then-same.result c.truth-then-same-2.result First k) (λ k. IsJoinAtOnce c.args.op c.args.a.now c.args.b.now k) c.following-then-same.result
    (λ k f. equal_known (truth_of c.args.op) (tree_of c.args.a.now) (tree_of c.args.b.now) c.truth-then-same.result c.truth-then-same-2.result k (same_true (tree_of c.args.a.now) (tree_of c.args.b.now) (sym c.if-same.ensures.tree)) c.requires.a.reduced
    c.truth-then-same.ensures c.truth-then-same-2.ensures f)
    c.following-then-same.ensures
