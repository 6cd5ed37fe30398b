use Rattle.ul_marker_text.specs.StepViews.{comparison_level}
use Rattle.ul_marker_text.proofs.StepFacts.{Counted}
use Rattle.ul_marker_text.proofs.steps.other_count.Given as goal

abbrev pub invariant-loop-index : goal.invariant-loop-index
invariant-loop-index l = Counted (comparison_level l.first) l.row l.index
