use Rattle.laws_promises.proofs.OfExports.{exports_are_requirements, exports_are_right, verified_exports_are_right}
use Rattle.laws_promises.proofs.laws.exports_are_right.Goals as goal

pub returns-clause-printed : goal.returns-clause-printed
returns-clause-printed c =
    exports_are_right c.locks_within_limits.ensures (record {
      inputs = c.inputs_are_answered.ensures;
      printed = c.printed_laws.ensures;
      merged = c.merged_ask_theirs.ensures;
      extras = record { walks = c.walks_ask_theirs.ensures; asked = c.asked_have_no_extras.ensures };
      plain = c.given_has_no_extras.ensures;
      lines = c.lines_are_read.ensures;
    }) c.exports_are_right.ensures.printed

pub returns-clause-verified : goal.returns-clause-verified
returns-clause-verified c = verified_exports_are_right c.lines_are_read.ensures c.exports_are_right.ensures.verified

pub returns-clause-requirements : goal.returns-clause-requirements
returns-clause-requirements c = exports_are_requirements c.lines_are_read.ensures
