use Rattle.ul_index.proofs.ReleaseExamples.{eligible_releases, lower_bounds, preferences, prerelease_modes, usable_entries}
use Rattle.ul_index.proofs.laws.release_examples.Goals as goal

pub returns-clause-eligible : goal.returns-clause-eligible
returns-clause-eligible c = eligible_releases

pub returns-clause-modes : goal.returns-clause-modes
returns-clause-modes c = prerelease_modes

pub returns-clause-preference : goal.returns-clause-preference
returns-clause-preference c = preferences

pub returns-clause-fit : goal.returns-clause-fit
returns-clause-fit c = lower_bounds

pub returns-clause-usable : goal.returns-clause-usable
returns-clause-usable c = usable_entries
