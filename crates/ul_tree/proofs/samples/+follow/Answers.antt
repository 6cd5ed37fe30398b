use Rattle.std.proofs.Common.{◌≡◌, refl, ap, ◌∙◌, arith, true, false, subst, string_bytes}
use Rattle.ul_tree.specs.FirstParts.{is_false, first_branch}
use Rattle.ul_nodes.specs.Levels.{extra_level, python_level, text_level, atom_level}
use Rattle.ul_nodes.specs.Plain.{Plain}
use Rattle.ul_nodes.specs.Reduced.{Fits}
use Rattle.ul_tree.specs.Sample.{fresh, with_level}
use Rattle.ul_tree.specs.Views.{tree_view, points_view}
use Rattle.ul_nodes.specs.Closing.{python_of}
use Rattle.ul_tree.proofs.NextParts.{pieces_even}
use Rattle.ul_tree.proofs.Shapes.{view_extra, view_python, view_text, view_opaque}
use Rattle.ul_tree.proofs.Follow.{by_point, by_other, by_piece, by_yes, by_no, world_goes_on, if_ok_along}
use Rattle.ul_tree.proofs.samples.+follow.Goals as goal

pub follow-requires : goal.follow-requires
follow-requires t c =
    let e = ap tree_view c.in-Extra.is ∙ view_extra c.in-Extra.points c.in-Extra.other in
    let o = by_point _ c.requires.reduced.0 extra_level _ _ c.requires.reduced.1 e refl _ _ (c.in-Some.ensures ∙ ap (λ z. first_branch (points_view z)) c.deref.ensures.value) in
    let d = c.decreases in
    let s = o.smaller in
    (omega (arith, s, d), ((extra_level, o.fits), o.not_false))

pub first_piece-requires : goal.first_piece-requires
first_piece-requires t c =
    let e = ap tree_view c.in-Python.is ∙ view_python c.in-Python.starts c.in-Python.parts in
    let b = c.requires.reduced.0 in
    let f : Fits (python_of c.in-Python.starts.items _) b = subst (λ (z : Plain). Fits z b) e c.requires.reduced.1 in
    rw (c.deref-in-Python.ensures.value, c.deref-in-Python-2.ensures.value) (pieces_even c.in-Python.starts.items c.in-Python.parts.items b f)

pub follow-requires-in-Some-first_point : goal.follow-requires-in-Some-first_point
follow-requires-in-Some-first_point t c =
    let l = text_level c.in-Text.variable in
    let e = ap tree_view c.in-Text.is ∙ view_text c.in-Text.variable c.in-Text.points c.in-Text.other in
    let o = by_point _ c.requires.reduced.0 l _ _ c.requires.reduced.1 e refl _ _ (c.in-Some-first_point.ensures ∙ ap (λ z. first_branch (points_view z)) c.deref-in-Text.ensures.value) in
    let d = c.decreases in
    let s = o.smaller in
    (omega (arith, s, d), ((l, o.fits), o.not_false))

pub returns-in-Some : goal.returns-in-Some
returns-in-Some t c =
    let e = ap tree_view c.in-Extra.is ∙ view_extra c.in-Extra.points c.in-Extra.other in
    let o = by_point _ c.requires.reduced.0 extra_level _ _ c.requires.reduced.1 e refl _ _ (c.in-Some.ensures ∙ ap (λ z. first_branch (points_view z)) c.deref.ensures.value) in
    if_ok_along c.follow.result _ _ _ c.follow.ensures (world_goes_on _ extra_level _ _ o c.args.found.now c.args.found.now refl)

pub returns-in-None : goal.returns-in-None
returns-in-None t c =
    let e = ap tree_view c.in-Extra.is ∙ view_extra c.in-Extra.points c.in-Extra.other in
    let o = by_other _ c.requires.reduced.0 extra_level _ _ c.requires.reduced.1 e refl (c.in-None.ensures ∙ ap (λ z. first_branch (points_view z)) c.deref.ensures.value) in
    if_ok_along c.follow-in-None.result _ _ _ (rw c.deref-in-None.ensures at c.follow-in-None.ensures) (world_goes_on _ extra_level _ _ o c.args.found.now c.args.found.now refl)

pub returns-in-Some-first_piece : goal.returns-in-Some-first_piece
returns-in-Some-first_piece t c =
    let e = ap tree_view c.in-Python.is ∙ view_python c.in-Python.starts c.in-Python.parts in
    let o = by_piece _ c.requires.reduced.0 c.in-Python.starts.items c.in-Python.parts.items c.requires.reduced.1 e _ _
    (rw (c.deref-in-Python.ensures.value, c.deref-in-Python-2.ensures.value) at c.in-Some-first_piece.ensures) in
    if_ok_along c.follow-in-Some-first_piece.result _ _ _ c.follow-in-Some-first_piece.ensures (world_goes_on _ python_level _ _ o c.args.found.now c.set_number.new.self c.set_number.ensures)

pub returns-in_ok-text-in-Some-first_point : goal.returns-in_ok-text-in-Some-first_point
returns-in_ok-text-in-Some-first_point t c =
    let l = text_level c.in-Text.variable in
    let e = ap tree_view c.in-Text.is ∙ view_text c.in-Text.variable c.in-Text.points c.in-Text.other in
    let o = by_point _ c.requires.reduced.0 l _ _ c.requires.reduced.1 e refl _ _ (c.in-Some-first_point.ensures ∙ ap (λ z. first_branch (points_view z)) c.deref-in-Text.ensures.value) in
    let text : string_bytes c.in_ok-text-in-Some-first_point.text ≡ string_bytes c.in-Some-first_point.point.now.0 = cc (c.in_ok-text-in-Some-first_point.ensures.ok, c.as_str.ensures.value) in
    if_ok_along c.follow-in-Some-first_point.result _ _ _ c.follow-in-Some-first_point.ensures
    (world_goes_on _ l _ _ o c.args.found.now c.set_text.new.self (c.set_text.ensures ∙ ap (λ v. with_level l v c.args.found.now) text))

pub returns-in_ok-text-in-None-first_point : goal.returns-in_ok-text-in-None-first_point
returns-in_ok-text-in-None-first_point t c =
    let l = text_level c.in-Text.variable in
    let e = ap tree_view c.in-Text.is ∙ view_text c.in-Text.variable c.in-Text.points c.in-Text.other in
    let o = by_other _ c.requires.reduced.0 l _ _ c.requires.reduced.1 e refl (c.in-None-first_point.ensures ∙ ap (λ z. first_branch (points_view z)) c.deref-in-Text.ensures.value) in
    let text : string_bytes c.in_ok-text-in-None-first_point.text ≡ fresh (points_view c.in-Text.points.items) =
    c.in_ok-text-in-None-first_point.ensures ∙ ap (λ z. fresh (points_view z)) c.deref-in-None-first_point.ensures.value in
    if_ok_along c.follow-in-None-first_point.result _ _ _ (rw c.deref-in-None-first_point-2.ensures at c.follow-in-None-first_point.ensures)
    (world_goes_on _ l _ _ o c.args.found.now c.set_text-in-None-first_point.new.self (c.set_text-in-None-first_point.ensures ∙ ap (λ v. with_level l v c.args.found.now) text))

pub returns-in_ok-add-in-Opaque : goal.returns-in_ok-add-in-Opaque
returns-in_ok-add-in-Opaque t c =
    let l = atom_level c.in-Opaque.atom in
    let e = ap tree_view c.in-Opaque.is ∙ view_opaque c.in-Opaque.atom c.in-Opaque.yes c.in-Opaque.no in
    let not_false : is_false (tree_view c.in-Opaque.yes.value) ≡ false = cc (c.is_false.ensures, c.deref-in-Opaque.ensures, c.if-is_false.false) in
    let o = by_yes _ c.requires.reduced.0 c.in-Opaque.atom _ _ c.requires.reduced.1 e not_false in
    if_ok_along c.follow-in-Opaque.result _ _ _ (rw c.deref-in-Opaque-2.ensures at c.follow-in-Opaque.ensures)
    (world_goes_on _ l _ _ o c.args.found.now c.add.new.self c.in_ok-add-in-Opaque.ensures)

pub follow-requires-in-None : goal.follow-requires-in-None
follow-requires-in-None t c =
    let e = ap tree_view c.in-Extra.is ∙ view_extra c.in-Extra.points c.in-Extra.other in
    let o = by_other _ c.requires.reduced.0 extra_level _ _ c.requires.reduced.1 e refl (c.in-None.ensures ∙ ap (λ z. first_branch (points_view z)) c.deref.ensures.value) in
    let d = c.decreases in
    let s = o.smaller in
    rw c.deref-in-None.ensures (omega (arith, s, d), ((extra_level, o.fits), o.not_false))

pub follow-requires-in-Some-first_piece : goal.follow-requires-in-Some-first_piece
follow-requires-in-Some-first_piece t c =
    let e = ap tree_view c.in-Python.is ∙ view_python c.in-Python.starts c.in-Python.parts in
    let o = by_piece _ c.requires.reduced.0 c.in-Python.starts.items c.in-Python.parts.items c.requires.reduced.1 e _ _
    (rw (c.deref-in-Python.ensures.value, c.deref-in-Python-2.ensures.value) at c.in-Some-first_piece.ensures) in
    let d = c.decreases in
    let s = o.smaller in
    (omega (arith, s, d), ((python_level, o.fits), o.not_false))

pub follow-requires-in-None-first_point : goal.follow-requires-in-None-first_point
follow-requires-in-None-first_point t c =
    let l = text_level c.in-Text.variable in
    let e = ap tree_view c.in-Text.is ∙ view_text c.in-Text.variable c.in-Text.points c.in-Text.other in
    let o = by_other _ c.requires.reduced.0 l _ _ c.requires.reduced.1 e refl (c.in-None-first_point.ensures ∙ ap (λ z. first_branch (points_view z)) c.deref-in-Text.ensures.value) in
    let d = c.decreases in
    let s = o.smaller in
    rw c.deref-in-None-first_point-2.ensures (omega (arith, s, d), ((l, o.fits), o.not_false))

pub follow-requires-in-Opaque : goal.follow-requires-in-Opaque
follow-requires-in-Opaque t c =
    let l = atom_level c.in-Opaque.atom in
    let e = ap tree_view c.in-Opaque.is ∙ view_opaque c.in-Opaque.atom c.in-Opaque.yes c.in-Opaque.no in
    let not_false : is_false (tree_view c.in-Opaque.yes.value) ≡ false = cc (c.is_false.ensures, c.deref-in-Opaque.ensures, c.if-is_false.false) in
    let o = by_yes _ c.requires.reduced.0 c.in-Opaque.atom _ _ c.requires.reduced.1 e not_false in
    let d = c.decreases in
    let s = o.smaller in
    rw c.deref-in-Opaque-2.ensures (omega (arith, s, d), ((l, o.fits), o.not_false))

pub follow-requires-then-is_false : goal.follow-requires-then-is_false
follow-requires-then-is_false t c =
    let l = atom_level c.in-Opaque.atom in
    let e = ap tree_view c.in-Opaque.is ∙ view_opaque c.in-Opaque.atom c.in-Opaque.yes c.in-Opaque.no in
    let is : is_false (tree_view c.in-Opaque.yes.value) ≡ true = cc (c.is_false.ensures, c.deref-in-Opaque.ensures, c.if-is_false.true) in
    let o = by_no _ c.requires.reduced.0 c.in-Opaque.atom _ _ c.requires.reduced.1 e is in
    let d = c.decreases in
    let s = o.smaller in
    rw c.deref-then-is_false.ensures (omega (arith, s, d), ((l, o.fits), o.not_false))
