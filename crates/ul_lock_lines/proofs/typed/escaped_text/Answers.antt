use Rattle.std.proofs.Common.{ℕ, Global, List, Vec, [], ◌∷◌, ◌++◌, ◌∙◌, ap, get_or, refl}
use Rattle.ul_lock_lines.specs.Text.{escaped}
use Rattle.ul_lock_lines.proofs.Escapes.{other_written, quote_written, walked_all}
use Rattle.ul_lock_lines.proofs.typed.escaped_text.Goals.{then-byte-eq34+in_ok-push, else-byte-eq34}
use Rattle.ul_lock_lines.proofs.typed.escaped_text.Goals as goal

pub loop-byte-init : goal.loop-byte-init
loop-byte-init c = ap (λ (o : List ℕ). o ++ escaped c.args.bytes.now) c.new-out.ensures.items

pub loop-byte-preserved : goal.loop-byte-preserved
loop-byte-preserved c = elim c.if-byte-eq34.branch [
  | then-byte-eq34+in_ok-push w ↦
      quote_written c.args.bytes.now c.loop-byte.out.items c.if-byte-eq34.out.items c.push-in-loop-byte.new.self.items c.loop-byte.byte-index c.loop-byte-test.true w.if-byte-eq34.true
      (ap (λ (v : Vec ℕ Global). v.items) w.out-is ∙ w.in_ok-push.ensures.items) c.in_ok-push-2.ensures.items c.loop-byte.invariant
  | else-byte-eq34 w ↦
      other_written c.args.bytes.now c.loop-byte.out.items c.push-in-loop-byte.new.self.items c.loop-byte.byte-index c.loop-byte-test.true w.if-byte-eq34.false
      (c.in_ok-push-2.ensures.items ∙ ap (λ (v : Vec ℕ Global). v.items ++ get_or c.args.bytes.now c.loop-byte.byte-index 0 ∷ []) w.out-is) c.loop-byte.invariant
]

pub returns : goal.returns
returns c = walked_all escaped c.args.bytes.now c.loop-byte.out.items c.loop-byte.byte-index c.loop-byte-test.false refl c.loop-byte.invariant
