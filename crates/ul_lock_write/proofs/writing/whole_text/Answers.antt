use Rattle.std.proofs.Common.{◌<◌, ◌+◌, length, arith}
use Rattle.std.proofs.lemmas.Grind.{common_steps}
use Rattle.ul_lock_write.specs.Written.{block_text, head_text}
use Rattle.ul_lock_write.proofs.Written.{flat_map_step, lock_done, longer}
use Rattle.ul_lock_write.proofs.writing.whole_text.Goals as goal

pub returns-then-len-gt-TEXT_BYTES : goal.returns-then-len-gt-TEXT_BYTES
returns-then-len-gt-TEXT_BYTES c =
    let long : 67108864 < length c.put_block.new.out.items = omega arith in
    longer 67108864 c.put_block.new.out.items c.args.lock.now (c.loop-block.block-index + 1)
    (flat_map_step block_text (head_text c.args.lock.now) c.loop-block.out.items c.put_block.new.out.items c.args.lock.now.packages c.loop-block.block-index c.block-item.result (grind (arith, common_steps)) (grind (arith, common_steps)) c.loop-block.invariant c.in_ok-put_block.ensures)
    long

pub returns-then-len-gt-TEXT_BYTES-2 : goal.returns-then-len-gt-TEXT_BYTES-2
returns-then-len-gt-TEXT_BYTES-2 c =
    let long : 67108864 < length c.loop-block.out.items = omega arith in
    longer 67108864 c.loop-block.out.items c.args.lock.now c.loop-block.block-index c.loop-block.invariant long

pub returns : goal.returns
returns c =
    let whole = lock_done c.loop-block.out.items c.args.lock.now c.loop-block.block-index (grind (arith, common_steps)) c.loop-block.invariant in
    (whole, omega arith)
