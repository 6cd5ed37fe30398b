use Rattle.std.proofs.Common.{◌≡◌, ◌<◌, ◌++◌, ◌∷◌, [], ap, sym, ◌∙◌, arith, length, subst, true}
use Rattle.std.specs.List.{All}
use Rattle.std.proofs.lemmas.Grind.{common_steps}
use Rattle.ul_nodes.specs.Plain.{node, carries}
use Rattle.ul_nodes.specs.Levels.{extra_level, text_level, python_level, atom_level}
use Rattle.ul_nodes.specs.Apply.{close}
use Rattle.ul_nodes.specs.Keys.{level_view, is_number_key, has_kind}
use Rattle.ul_nodes.specs.Rows.{made_view}
use Rattle.ul_nodes.specs.Closing.{level_parts, HasOneMark}
use Rattle.ul_nodes.specs.declared.level.Level.{Level}
use Rattle.ul_nodes.proofs.Closed.{keyed_is, even_is, pieces_is, mark_is, one_there, close_some, close_none, none_parts, extra_literals, text_literals, python_numbers}
use Rattle.ul_nodes.proofs.closing.closed_level.Goals as goal
use Rattle.ul_nodes.proofs.closing.closed_level.Goals.{Then-is_empty, Else-is_empty, In-Extra, In-Python, In-Text, In-Opaque}

-- no branch is there
none : (g : _) (c : Then-is_empty g) → length c.args.made.items ≡ 0
none g c = grind (arith, common_steps, c.is_empty.ensures, c.if-is_empty.true)

-- a branch is there
some : (g : _) (c : Else-is_empty g) → 0 < length c.args.made.items
some g c = grind (arith, common_steps, c.is_empty.ensures, c.if-is_empty.false)

pub returns-then-is_empty-clause-tree : goal.returns-then-is_empty-clause-tree
returns-then-is_empty-clause-tree g c = λ view. close_none view (level_view c.args.level) (view c.args.other) c.args.made.items (none g (goal.at.returns-then-is_empty-clause-tree g c).Then-is_empty)

pub returns-then-is_empty-clause-parts : goal.returns-then-is_empty-clause-parts
returns-then-is_empty-clause-parts g c = none_parts (carries (level_view c.args.level)) c.args.other c.args.made.items (none g (goal.at.returns-then-is_empty-clause-parts g c).Then-is_empty)

-- ---- the extra

pub points_of-requires : goal.points_of-requires
points_of-requires g c = extra_literals c.args.made.items (subst (λ (z : Level). All (λ x. has_kind (level_view z) x.0 ≡ true) c.args.made.items) c.in-Extra.is c.requires.kinds)

pub returns-in_ok-texts-in-Extra-clause-tree : goal.returns-in_ok-texts-in-Extra-clause-tree
returns-in_ok-texts-in-Extra-clause-tree g c = λ view.
    ap (node extra_level (view c.args.other)) (keyed_is view c.args.made.items _ c.in_ok-texts-in-Extra.parts.items c.in_ok-texts-in-Extra.ensures.texts c.in_ok-texts-in-Extra.ensures.parts)
    ∙ sym (ap (λ l. close (level_view l) (view c.args.other) (made_view view c.args.made.items)) c.in-Extra.is ∙ close_some view extra_level (view c.args.other) c.args.made.items (some g (goal.at.returns-in_ok-texts-in-Extra-clause-tree g c).Else-is_empty))

pub returns-in_ok-texts-in-Extra-clause-parts : goal.returns-in_ok-texts-in-Extra-clause-parts
returns-in_ok-texts-in-Extra-clause-parts g c =
    ap (λ z. z ++ (c.args.other ∷ [])) c.in_ok-texts-in-Extra.ensures.parts ∙ sym (ap (λ l. level_parts (carries (level_view l)) c.args.other c.args.made.items) c.in-Extra.is)

pub returns-in_ok-texts-in-Extra-clause-even : goal.returns-in_ok-texts-in-Extra-clause-even
returns-in_ok-texts-in-Extra-clause-even g c = even_is c.args.made.items c.in_ok-texts-in-Extra.texts.items c.in_ok-texts-in-Extra.parts.items c.in_ok-texts-in-Extra.ensures.texts c.in_ok-texts-in-Extra.ensures.parts

-- ---- a text variable

pub points_of-requires-in-Text : goal.points_of-requires-in-Text
points_of-requires-in-Text g c = text_literals c.in-Text.variable c.args.made.items (subst (λ (z : Level). All (λ x. has_kind (level_view z) x.0 ≡ true) c.args.made.items) c.in-Text.is c.requires.kinds)

pub returns-in_ok-texts-in-Text-clause-tree : goal.returns-in_ok-texts-in-Text-clause-tree
returns-in_ok-texts-in-Text-clause-tree g c = λ view.
    let l = text_level c.in-Text.variable in
    ap (node l (view c.args.other)) (keyed_is view c.args.made.items _ c.in_ok-texts-in-Text.parts.items c.in_ok-texts-in-Text.ensures.texts c.in_ok-texts-in-Text.ensures.parts)
    ∙ sym (ap (λ l. close (level_view l) (view c.args.other) (made_view view c.args.made.items)) c.in-Text.is ∙ close_some view l (view c.args.other) c.args.made.items (some g (goal.at.returns-in_ok-texts-in-Text-clause-tree g c).Else-is_empty))

pub returns-in_ok-texts-in-Text-clause-parts : goal.returns-in_ok-texts-in-Text-clause-parts
returns-in_ok-texts-in-Text-clause-parts g c =
    ap (λ z. z ++ (c.args.other ∷ [])) c.in_ok-texts-in-Text.ensures.parts ∙ sym (ap (λ l. level_parts (carries (level_view l)) c.args.other c.args.made.items) c.in-Text.is)

pub returns-in_ok-texts-in-Text-clause-even : goal.returns-in_ok-texts-in-Text-clause-even
returns-in_ok-texts-in-Text-clause-even g c = even_is c.args.made.items c.in_ok-texts-in-Text.texts.items c.in_ok-texts-in-Text.parts.items c.in_ok-texts-in-Text.ensures.texts c.in_ok-texts-in-Text.ensures.parts

-- ---- the interpreter

numbers : (g : _) (c : In-Python g) → All (λ e. is_number_key e.0 ≡ true) c.args.made.items
numbers g c = python_numbers c.args.made.items (subst (λ (z : Level). All (λ x. has_kind (level_view z) x.0 ≡ true) c.args.made.items) c.in-Python.is c.requires.kinds)

pub pieces_of-requires : goal.pieces_of-requires
pieces_of-requires g c = numbers g (goal.at.pieces_of-requires g c).In-Python

pub returns-in_ok-starts-in-Python-clause-tree : goal.returns-in_ok-starts-in-Python-clause-tree
returns-in_ok-starts-in-Python-clause-tree g c = λ view.
    pieces_is view c.args.other c.args.made.items c.in_ok-starts-in-Python.starts.items c.in_ok-starts-in-Python.parts.items (numbers g (goal.at.returns-in_ok-starts-in-Python-clause-tree g c).In-Python)
    c.in_ok-starts-in-Python.ensures.starts c.in_ok-starts-in-Python.ensures.parts
    ∙ sym (ap (λ l. close (level_view l) (view c.args.other) (made_view view c.args.made.items)) c.in-Python.is ∙ close_some view python_level (view c.args.other) c.args.made.items (some g (goal.at.returns-in_ok-starts-in-Python-clause-tree g c).Else-is_empty))

pub returns-in_ok-starts-in-Python-clause-parts : goal.returns-in_ok-starts-in-Python-clause-parts
returns-in_ok-starts-in-Python-clause-parts g c =
    c.in_ok-starts-in-Python.ensures.parts ∙ sym (ap (λ l. level_parts (carries (level_view l)) c.args.other c.args.made.items) c.in-Python.is)

-- ---- an opaque comparison

pub only_part-holds-requires : goal.only_part-holds-requires
only_part-holds-requires g c = one_there c.in-Opaque.atom.now c.args.made.items (subst (λ (z : Level). HasOneMark (level_view z) c.args.made.items) c.in-Opaque.is c.requires.one) (some g (goal.at.only_part-holds-requires g c).Else-is_empty)

pub returns-in-Opaque-clause-tree : goal.returns-in-Opaque-clause-tree
returns-in-Opaque-clause-tree g c = λ view.
    let l = atom_level c.in-Opaque.atom.now in
    ap (node l (view c.args.other)) (sym (mark_is view c.in-Opaque.atom.now c.args.made.items c.only_part-holds.result (subst (λ (z : Level). All (λ x. has_kind (level_view z) x.0 ≡ true) c.args.made.items) c.in-Opaque.is c.requires.kinds) c.only_part-holds.ensures))
    ∙ sym (ap (λ l. close (level_view l) (view c.args.other) (made_view view c.args.made.items)) c.in-Opaque.is ∙ close_some view l (view c.args.other) c.args.made.items (some g (goal.at.returns-in-Opaque-clause-tree g c).Else-is_empty))

pub returns-in-Opaque-clause-parts : goal.returns-in-Opaque-clause-parts
returns-in-Opaque-clause-parts g c =
    ap (λ z. z ++ (c.args.other ∷ [])) (sym c.only_part-holds.ensures) ∙ sym (ap (λ l. level_parts (carries (level_view l)) c.args.other c.args.made.items) c.in-Opaque.is)
