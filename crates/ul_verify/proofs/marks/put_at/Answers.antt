use Rattle.std.proofs.Common.{refl}
use Rattle.ul_verify.proofs.MarkFacts.{put_none}
use Rattle.ul_verify.proofs.marks.put_at.Goals as goal

pub returns-else-place-marks : goal.returns-else-place-marks
returns-else-place-marks c = put_none c.args.marks.now _ _ c.args.place c.if-place-marks.false refl
