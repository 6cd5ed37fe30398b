use Rattle.std.proofs.Common.{arith, ap, sym, ◌∙◌, length, refl}
use Rattle.std.proofs.lemmas.Option.{slice_get_read}
use Rattle.std.specs.List.{slice_get}
use Rattle.ul_interner.proofs.Grown.{parts_in}
use Rattle.ul_interner.proofs.marks.Mark.part.Goals as goal

pub index-requires : goal.index-requires
index-requires g c = let same = parts_in _ _ _ _ _ _ c.self.view_is in let here = ap (λ z. length z.parts.items) c.deref.ensures in let len = c.deref.result.now.parts.ok.0 in
    omega (arith, ap length same, here, len, c.requires)

pub returns : goal.returns
returns g c = let same = parts_in _ _ _ _ _ _ c.self.view_is in let here = ap (λ z. z.parts.items) c.deref.ensures in
    ap (λ xs. slice_get xs c.args.place) (same ∙ sym here) ∙ slice_get_read c.deref.result.now.parts.items (length c.deref.result.now.parts.items) c.args.place c.index.result.now refl (omega (arith, ap length same, ap length here, c.requires)) c.index.ensures
