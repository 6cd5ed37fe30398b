use Rattle.std.proofs.Common.{◌≤◌, ap, sym, ◌∙◌, subst, arith}
use Rattle.ul_interner.specs.Known.{Known}
use Rattle.ul_interner.proofs.ForCallers.{known_stays, knows_itself, knows_then}
use Rattle.ul_nodes.specs.Plain.{Plain}
use Rattle.ul_nodes.specs.Reduced.{IsReduced}
use Rattle.ul_nodes.specs.Keys.{key_view, branches_of, branch_count}
use Rattle.ul_tree.specs.Simplify.{union_in}
use Rattle.ul_nodes.proofs.ForCallers.{from_end, part_reduced, rest_reduced}
use Rattle.ul_tree.proofs.ForCallers.{union_step}
use Rattle.ul_algebra.specs.Spelled.{tree_of}
use Rattle.ul_algebra.proofs.simplify.union_anew.Goals as goal

pub loop-index-init : goal.loop-index-init
loop-index-init g c =
    let e = ap tree_of c.in_ok-made.ensures ∙ c.rest_of.ensures.part in
    record {
      knows = knows_itself c.args.algebra.now;
      diagram = record {
        known = subst (λ z. Known c.args.algebra.now z) (sym c.in_ok-made.ensures) (c.rest_of.ensures.known c.args.algebra.now c.requires.known);
        reduced = subst (λ (z : Plain). IsReduced z) (sym e) (rest_reduced (tree_of c.args.d.now) c.requires.reduced);
      };
      left = ap (union_in (branches_of (tree_of c.args.d.now))) e;
    }

pub united-requires-clause-part : goal.united-requires-clause-part
united-requires-clause-part g c = record {
  known = c.branch_at.ensures.known c.loop-index.algebra (known_stays c.args.algebra.now c.loop-index.algebra c.loop-index.invariant.knows c.args.d.now c.requires.known);
  reduced = part_reduced (tree_of c.args.d.now) _ _ _ c.loop-index.index c.requires.reduced c.branch_at.ensures.found;
}

pub returns-in_err-made-2-clause-knows : goal.returns-in_err-made-2-clause-knows
returns-in_err-made-2-clause-knows g c = knows_then _ _ _ c.loop-index.invariant.knows c.in_err-made-2.ensures.knows

pub loop-index-preserved : goal.loop-index-preserved
loop-index-preserved g c =
    let t = tree_of c.args.d.now in
    record {
      knows = knows_then _ _ _ c.loop-index.invariant.knows c.in_ok-made-2.ensures.knows;
      diagram = c.in_ok-made-2.ensures.diagram;
      left = union_step (branches_of t) c.loop-index.index (key_view c.branch_at.result.key) (tree_of c.branch_at.result.part.now) (tree_of c.loop-index.made) (tree_of c.in_ok-made-2.made) c.branch_at.ensures.found c.in_ok-made-2.ensures.tree
          ∙ c.loop-index.invariant.left;
    }

pub returns-clause-tree : goal.returns-clause-tree
returns-clause-tree g c =
    let t = tree_of c.args.d.now in
    let n : branch_count (branches_of t) ≤ c.loop-index.index = omega arith in
    sym (ap (λ z. union_in z (tree_of c.loop-index.made)) (from_end (branches_of t) c.loop-index.index n)) ∙ c.loop-index.invariant.left
