use Rattle.std.proofs.Common.{refl}
use Rattle.ul_ranges.proofs.WordLaws.{bit_absent, bit_found}
use Rattle.ul_ranges.proofs.words.next_bit.Goals as goal

pub returns-then-rest-eq0 : goal.returns-then-rest-eq0
returns-then-rest-eq0 c = record { next = bit_absent c.args.word c.args.from c.ranges.word.fits c.requires c.if-rest-eq0.true; small = tt }

pub returns-else-rest-eq0 : goal.returns-else-rest-eq0
returns-else-rest-eq0 c =
    let r = bit_found c.args.word c.args.from _ c.ranges.word.fits c.requires c.if-rest-eq0.false refl in
    record { next = r.0; small = r.1 }
