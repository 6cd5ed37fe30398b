use Rattle.ul_problem.proofs.Wholes.{all_within, right_within, says_whole, says_fits}
use Rattle.ul_problem.proofs.Soundness.{right_forbids}
use Rattle.ul_problem.proofs.laws.right_steps.Goals as goal

pub returns : goal.returns
returns c = record {
  within = λ p earlier s a r. right_within p earlier s (all_within p earlier a) r;
  says = λ p s wf h. (says_whole p s h, says_fits p s wf h);
  forbids = right_forbids;
}
