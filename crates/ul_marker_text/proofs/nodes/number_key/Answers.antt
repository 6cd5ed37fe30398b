use Rattle.ul_marker_text.proofs.PartFacts as facts
use Rattle.ul_marker_text.proofs.nodes.number_key.Goals as goal

pub returns-then-number-eq0 : goal.returns-then-number-eq0
returns-then-number-eq0 c = facts.no_zero c.args.number c.if-number-eq0.true

pub returns-then-number-lt-END : goal.returns-then-number-lt-END
returns-then-number-lt-END c = facts.number_key c.args.number c.if-number-eq0.false c.if-number-lt-END.true

pub returns : goal.returns
returns c = facts.no_high c.args.number c.if-number-lt-END.false
