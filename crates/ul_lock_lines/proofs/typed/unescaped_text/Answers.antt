use Rattle.std.proofs.Common.{ℕ, Global, List, Vec, ◌+◌, ◌++◌, ◌∙◌, ap, drop, refl}
use Rattle.ul_lock_lines.specs.LineReading.{unescaped}
use Rattle.ul_lock_lines.proofs.Escapes.{backslash_left, other_kept, walked_all}
use Rattle.ul_lock_lines.proofs.typed.unescaped_text.Goals.{then-byte-ne92+in_ok-push, else-byte-ne92}
use Rattle.ul_lock_lines.proofs.typed.unescaped_text.Goals as goal

pub loop-byte-init : goal.loop-byte-init
loop-byte-init c = ap (λ (o : List ℕ). o ++ unescaped c.args.bytes.now) c.new-out.ensures.items

pub loop-byte-preserved : goal.loop-byte-preserved
loop-byte-preserved c = elim c.if-byte-ne92.branch [
  | then-byte-ne92+in_ok-push w ↦
      other_kept c.args.bytes.now c.loop-byte.out.items c.if-byte-ne92.out.items c.loop-byte.byte-index c.loop-byte-test.true w.if-byte-ne92.true
      (ap (λ (v : Vec ℕ Global). v.items) w.out-is ∙ w.in_ok-push.ensures.items) c.loop-byte.invariant
  | else-byte-ne92 w ↦
      ap (λ (v : Vec ℕ Global). v.items ++ unescaped (drop (c.loop-byte.byte-index + 1) c.args.bytes.now)) w.out-is
      ∙ backslash_left c.args.bytes.now c.loop-byte.out.items c.loop-byte.byte-index c.loop-byte-test.true w.if-byte-ne92.false c.loop-byte.invariant
]

pub returns : goal.returns
returns c = walked_all unescaped c.args.bytes.now c.loop-byte.out.items c.loop-byte.byte-index c.loop-byte-test.false refl c.loop-byte.invariant
