use Rattle.std.proofs.Common.{◌≡◌, length, arith}
use Rattle.ul_region.proofs.RowFacts.{grows_push, put_known, put_there}
use Rattle.ul_region.proofs.rows.Truths.put.Goals as goal

pub returns-in_err-insert-clause-grows : goal.returns-in_err-insert-clause-grows
returns-in_err-insert-clause-grows c = grows_push c.args.self.now.marks.items c.push.new.self.items c.in_ok-mark.mark c.in_ok-push.ensures.items

pub returns-in_err-insert-clause-marks : goal.returns-in_err-insert-clause-marks
returns-in_err-insert-clause-marks c = put_known c.args.algebra.now c.args.self.now.marks.items c.push.new.self.items c.in_ok-mark.mark c.args.truth.now c.in_ok-push.ensures.items c.in_ok-mark.ensures c.requires.marks c.requires.truth

pub returns-clause-grows : goal.returns-clause-grows
returns-clause-grows c = grows_push c.args.self.now.marks.items c.push.new.self.items c.in_ok-mark.mark c.in_ok-push.ensures.items

pub returns-clause-marks : goal.returns-clause-marks
returns-clause-marks c = put_known c.args.algebra.now c.args.self.now.marks.items c.push.new.self.items c.in_ok-mark.mark c.args.truth.now c.in_ok-push.ensures.items c.in_ok-mark.ensures c.requires.marks c.requires.truth

pub returns-clause-there : goal.returns-clause-there
returns-clause-there c =
    let size : c.len-place.result ≡ length c.args.self.now.marks.items = omega (arith, c.len-place.ensures, c.args.self.now.marks.ok) in
    put_there c.args.self.now.marks.items c.push.new.self.items c.in_ok-mark.mark c.args.truth.now c.len-place.result c.in_ok-push.ensures.items size c.in_ok-mark.ensures
