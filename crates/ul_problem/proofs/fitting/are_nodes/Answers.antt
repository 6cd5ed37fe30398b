use Rattle.std.proofs.Common.{refl, sym, ◌∙◌}
use Rattle.std.proofs.lemmas.Bool.{true≢false}
use Rattle.ul_problem.specs.Problems.{IsNodeOf}
use Rattle.ul_problem.proofs.Loops.{each_more, each_not, each_all}
use Rattle.ul_problem.proofs.fitting.are_nodes.Goals as goal

pub loop-facts-preserved : goal.loop-facts-preserved
loop-facts-preserved c = record {
  alike = each_more (IsNodeOf c.args.all.now) c.args.nodes.now c.loop-facts.facts-index c.facts-item.result _ c.loop-facts-test.true c.facts-item.is (c.in_ok-is_node_of.ensures.fits.0 c.if-not-branch.false) c.loop-facts.invariant.alike;
  clear = c.in_ok-is_node_of.ensures.clear c.if-not-branch.false;
}

pub returns-then-not-branch : goal.returns-then-not-branch
returns-then-not-branch c = (
  λ t. absurd (true≢false (sym t)),
  λ all. absurd (each_not (IsNodeOf c.args.all.now) c.args.nodes.now c.loop-facts.facts-index c.facts-item.result _ c.loop-facts-test.true c.facts-item.is
      (λ h. true≢false (sym (c.in_ok-is_node_of.ensures.fits.1 h) ∙ c.if-not-branch.true)) c.loop-facts.invariant.alike all),
)

pub returns : goal.returns
returns c = (λ _. each_all (IsNodeOf c.args.all.now) c.args.nodes.now c.loop-facts.facts-index _ c.loop-facts-test.false c.loop-facts.invariant.alike, λ _. refl)
