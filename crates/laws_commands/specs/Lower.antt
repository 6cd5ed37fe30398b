-- The laws of lower crates on which one answer rests.
use Rattle.ul_project.specs.Laws.{OneProject}
use Rattle.ul_load.specs.Laws.{TurnsAgree}
use Rattle.ul_lock_read.specs.Laws.{OneFault as OneLockFault, OneTextOneLock}
use Rattle.ul_reach.specs.Headline.{RowPromises}
use Rattle.ul_placing.specs.Laws.{EqualProblems}
use Rattle.ul_forks.specs.Headline.{ForkLaws}
use Rattle.ul_sound.specs.Headline.{MergePromises}
use Rattle.ul_blame.specs.Laws.{CoreIsOne}
use Rattle.ul_report_read.specs.Laws.{OneFault as OneProofFault, OneTextOneProof}
use Rattle.ul_report_judge.specs.Laws.{FaultIsOne, FaultRefuses}

-- each input, each outcome and each verdict is one
pub record LowerLaws : Type 0 where
  pub projects : OneProject
  pub turns : TurnsAgree
  pub locks : OneTextOneLock
  pub lock_faults : OneLockFault
  pub rows : RowPromises
  pub proofs : OneTextOneProof
  pub proof_faults : OneProofFault
  pub forks : ForkLaws
  pub merges : MergePromises
  pub cores : CoreIsOne
  pub problems : EqualProblems
  pub first_bad : FaultIsOne
  pub none_bad : FaultRefuses
