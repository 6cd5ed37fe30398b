use Rattle.std.proofs.Common.{ap, sym, ◌∙◌, map, false, Bool, ◌≡◌, IsTrue, arith, true}
use Rattle.ul_interner.specs.Marked.{id_of}
use Rattle.ul_interner.proofs.Grown.{label_in, parts_in}
use Rattle.ul_interner.proofs.marks.Mark.is_node.Goals as goal

is_true : (b : Bool) → b ≡ true → IsTrue b
is_true b e = grind arith

untrue : (b : Bool) → b ≡ false → IsTrue b → ⊥
untrue b e t = grind arith

pub returns-then-same : goal.returns-then-same
returns-then-same g c =
    let label = label_in _ _ _ _ _ _ c.self.view_is ∙ sym (ap (λ z. z.label) c.deref.ensures) in
    let parts = parts_in _ _ _ _ _ _ c.self.view_is ∙ sym (c.as_slice.ensures.value ∙ ap (λ z. z.parts.items) c.deref-then-same.ensures) in (
      (λ t. (label ∙ c.same.ensures.0 (is_true _ c.if-same.true), ap (map id_of) parts ∙ c.have_same_ids.ensures.0 t)),
      λ n. c.have_same_ids.ensures.1 (sym (ap (map id_of) parts) ∙ n.1),
    )

pub returns-else-same : goal.returns-else-same
returns-else-same g c =
    let label = label_in _ _ _ _ _ _ c.self.view_is ∙ sym (ap (λ z. z.label) c.deref.ensures) in (
      (λ t. absurd (untrue _ c.if-same.false t)),
      λ n. c.same.ensures.1 (sym label ∙ n.0),
    )
