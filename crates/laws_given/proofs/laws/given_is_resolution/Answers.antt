use Rattle.laws_given.proofs.Given.{given_begins, given_is_resolution}
use Rattle.laws_given.proofs.laws.given_is_resolution.Goals as goal

pub returns-clause-resolution : goal.returns-clause-resolution
returns-clause-resolution c = given_is_resolution c.loaded_begins.ensures c.said_is_project.ensures

pub returns-clause-begins : goal.returns-clause-begins
returns-clause-begins c = given_begins c.loaded_begins.ensures c.said_is_project.ensures
