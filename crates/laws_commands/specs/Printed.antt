-- The laws on which what is printed of a lock rests.
use Rattle.ul_lock_read.specs.Laws.{TextIsLocks}
use Rattle.ul_verified.specs.Headline.{VerifiedPromises}
use Rattle.laws_given.specs.Given.{GivenBegins, GivenHasTexts, GivenIsResolution}
use Rattle.ul_commands.specs.Laws.{LocksAreOfLeaves, LocksArePrintable}
use Rattle.laws_commands.specs.WellFormed.{LocksAreWellFormed}

-- what files give is a resolution with texts, a lock of it is of leaves, well formed and printable, its text is read as the lock,
-- and what leaves merge into is verified
pub record PrintedLaws : Type 0 where
  pub resolution : GivenIsResolution
  pub begins : GivenBegins
  pub had : GivenHasTexts
  pub leaves : LocksAreOfLeaves
  pub formed : LocksAreWellFormed
  pub printable : LocksArePrintable
  pub texts : TextIsLocks
  pub verified : VerifiedPromises
