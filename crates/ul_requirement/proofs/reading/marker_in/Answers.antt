use Rattle.ul_requirement.proofs.Runs.{inner-utf8}
use Rattle.ul_requirement.proofs.reading.marker_in.Goals as goal

pub returns-in_default-from_utf8-clause-marker : goal.returns-in_default-from_utf8-clause-marker
returns-in_default-from_utf8-clause-marker c =
    absurd (c.in_default-from_utf8.ensures.cases.0 (inner-utf8 c.in-Some.text.now (rw c.in-Some.is at c.requires)))
