use Rattle.std.proofs.Common.{◌<◌, ◌∙◌}
use Rattle.ul_version.proofs.Cuts.{lowered-more, word-ascii}
use Rattle.ul_version.proofs.reading.lower_text.Goals as goal

pub loop-byte-preserved : goal.loop-byte-preserved
loop-byte-preserved c =
    let xs = c.args.piece.now in
    let k = c.loop-byte.byte-index in
    let is = c.from.ensures ∙ c.to_ascii_lowercase.ensures.value in
    let ascii : c.from.result < 128 = rw is (word-ascii xs k c.requires c.loop-byte-test.true) in
    rw (c.in_ok-push.ensures.bytes, c.in_ok-push.ensures.ascii ascii)
    (lowered-more xs _ k c.from.result c.loop-byte.invariant c.loop-byte-test.true is)
