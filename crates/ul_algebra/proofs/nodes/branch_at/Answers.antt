use Rattle.std.specs.List.{slice_get}
use Rattle.ul_nodes.specs.declared.level.Key.TheVariants.{Literal, Number, Holds}
use Rattle.std.proofs.Common.{◌≡◌, ◌<◌, suc, ap, sym, ◌∙◌, arith, length, map, get_or, add-one, ◌∷◌, []}
use Rattle.ul_nodes.specs.Plain.{branch}
use Rattle.ul_nodes.specs.Levels.{extra_level, text_level, atom_level}
use Rattle.ul_nodes.specs.Keys.{branches_of, branch_count, branches_from, is_key_of}
use Rattle.ul_nodes.specs.Closing.{python_of}
use Rattle.ul_interner.specs.Marked.{parts_of}
use Rattle.ul_interner.proofs.ForCallers.{known_part}
use Rattle.ul_algebra.specs.Spelled.{tree_of}
use Rattle.ul_algebra.specs.declared.labels.DiagramLabel.TheVariants.{Extra, Python, Text, Opaque}
use Rattle.ul_algebra.proofs.Levels.{tree_as, reduced_as, truth_is, keyed_count, keyed_parts, keyed_from, python_shape, python_from, python_key}
use Rattle.ul_algebra.proofs.nodes.branch_at.Goals as goal

pub unreachable-requires : goal.unreachable-requires
unreachable-requires c = let e = ap (λ t. branch_count (branches_of t)) (truth_is c.args.d.now c.in-Truth.field-0 (sym c.in-Truth.is ∙ c.label.ensures) c.requires.reduced) in omega (arith, e, c.requires.within)

pub get-requires : goal.get-requires
get-requires c = let n = ap (λ t. branch_count (branches_of t)) (tree_as c.args.d.now (Extra c.in-Extra.points) (sym c.in-Extra.is ∙ c.label.ensures)) ∙ keyed_count extra_level c.in-Extra.points (map tree_of (parts_of c.args.d.now)) (reduced_as c.args.d.now (Extra c.in-Extra.points) (sym c.in-Extra.is ∙ c.label.ensures) c.requires.reduced) in omega (arith, n, c.requires.within)

pub part-requires : goal.part-requires
part-requires c = let n = ap (λ t. branch_count (branches_of t)) (tree_as c.args.d.now (Extra c.in-Extra.points) (sym c.in-Extra.is ∙ c.label.ensures)) ∙ keyed_count extra_level c.in-Extra.points (map tree_of (parts_of c.args.d.now)) (reduced_as c.args.d.now (Extra c.in-Extra.points) (sym c.in-Extra.is ∙ c.label.ensures) c.requires.reduced) in let p = keyed_parts extra_level c.in-Extra.points (parts_of c.args.d.now) (reduced_as c.args.d.now (Extra c.in-Extra.points) (sym c.in-Extra.is ∙ c.label.ensures) c.requires.reduced) in omega (arith, n, p, c.requires.within)

pub returns-in-Extra-clause-found : goal.returns-in-Extra-clause-found
returns-in-Extra-clause-found c = let n = ap (λ t. branch_count (branches_of t)) (tree_as c.args.d.now (Extra c.in-Extra.points) (sym c.in-Extra.is ∙ c.label.ensures)) ∙ keyed_count extra_level c.in-Extra.points (map tree_of (parts_of c.args.d.now)) (reduced_as c.args.d.now (Extra c.in-Extra.points) (sym c.in-Extra.is ∙ c.label.ensures) c.requires.reduced) in let less : c.args.index < length c.in-Extra.points = omega (arith, n, c.requires.within) in let bs = branches_from (suc c.args.index) (branches_of (tree_of c.args.d.now)) in ap (λ t. branches_from c.args.index (branches_of t)) (tree_as c.args.d.now (Extra c.in-Extra.points) (sym c.in-Extra.is ∙ c.label.ensures)) ∙ keyed_from c.in-Extra.points (parts_of c.args.d.now) c.args.index c.part.result.now less c.part.ensures ∙ (λ i. branch (sym c.get.ensures i) (tree_of c.part.result.now) (branches_from (suc c.args.index) (branches_of (sym (tree_as c.args.d.now (Extra c.in-Extra.points) (sym c.in-Extra.is ∙ c.label.ensures)) i))))

pub returns-in-Extra-clause-kind : goal.returns-in-Extra-clause-kind
returns-in-Extra-clause-kind c = ap (λ t. is_key_of t (Literal c.get.result)) (tree_as c.args.d.now (Extra c.in-Extra.points) (sym c.in-Extra.is ∙ c.label.ensures))

pub returns-in-Extra-clause-known : goal.returns-in-Extra-clause-known
returns-in-Extra-clause-known c = λ h k. known_part h c.args.d.now _ c.part.result.now k c.part.ensures

pub get-requires-in-Text : goal.get-requires-in-Text
get-requires-in-Text c = let n = ap (λ t. branch_count (branches_of t)) (tree_as c.args.d.now (Text c.in-Text.variable c.in-Text.points) (sym c.in-Text.is ∙ c.label.ensures)) ∙ keyed_count (text_level c.in-Text.variable) c.in-Text.points (map tree_of (parts_of c.args.d.now)) (reduced_as c.args.d.now (Text c.in-Text.variable c.in-Text.points) (sym c.in-Text.is ∙ c.label.ensures) c.requires.reduced) in omega (arith, n, c.requires.within)

pub part-requires-in-Text : goal.part-requires-in-Text
part-requires-in-Text c = let n = ap (λ t. branch_count (branches_of t)) (tree_as c.args.d.now (Text c.in-Text.variable c.in-Text.points) (sym c.in-Text.is ∙ c.label.ensures)) ∙ keyed_count (text_level c.in-Text.variable) c.in-Text.points (map tree_of (parts_of c.args.d.now)) (reduced_as c.args.d.now (Text c.in-Text.variable c.in-Text.points) (sym c.in-Text.is ∙ c.label.ensures) c.requires.reduced) in let p = keyed_parts (text_level c.in-Text.variable) c.in-Text.points (parts_of c.args.d.now) (reduced_as c.args.d.now (Text c.in-Text.variable c.in-Text.points) (sym c.in-Text.is ∙ c.label.ensures) c.requires.reduced) in omega (arith, n, p, c.requires.within)

pub returns-in-Text-clause-found : goal.returns-in-Text-clause-found
returns-in-Text-clause-found c = let n = ap (λ t. branch_count (branches_of t)) (tree_as c.args.d.now (Text c.in-Text.variable c.in-Text.points) (sym c.in-Text.is ∙ c.label.ensures)) ∙ keyed_count (text_level c.in-Text.variable) c.in-Text.points (map tree_of (parts_of c.args.d.now)) (reduced_as c.args.d.now (Text c.in-Text.variable c.in-Text.points) (sym c.in-Text.is ∙ c.label.ensures) c.requires.reduced) in let less : c.args.index < length c.in-Text.points = omega (arith, n, c.requires.within) in let bs = branches_from (suc c.args.index) (branches_of (tree_of c.args.d.now)) in ap (λ t. branches_from c.args.index (branches_of t)) (tree_as c.args.d.now (Text c.in-Text.variable c.in-Text.points) (sym c.in-Text.is ∙ c.label.ensures)) ∙ keyed_from c.in-Text.points (parts_of c.args.d.now) c.args.index c.part-in-Text.result.now less c.part-in-Text.ensures ∙ (λ i. branch (sym c.get-in-Text.ensures i) (tree_of c.part-in-Text.result.now) (branches_from (suc c.args.index) (branches_of (sym (tree_as c.args.d.now (Text c.in-Text.variable c.in-Text.points) (sym c.in-Text.is ∙ c.label.ensures)) i))))

pub returns-in-Text-clause-kind : goal.returns-in-Text-clause-kind
returns-in-Text-clause-kind c = ap (λ t. is_key_of t (Literal c.get-in-Text.result)) (tree_as c.args.d.now (Text c.in-Text.variable c.in-Text.points) (sym c.in-Text.is ∙ c.label.ensures))

pub returns-in-Text-clause-known : goal.returns-in-Text-clause-known
returns-in-Text-clause-known c = λ h k. known_part h c.args.d.now _ c.part-in-Text.result.now k c.part-in-Text.ensures

pub part-requires-in-Opaque : goal.part-requires-in-Opaque
part-requires-in-Opaque c = let p = keyed_parts (atom_level c.in-Opaque.atom) ((1 ∷ []) ∷ []) (parts_of c.args.d.now) (reduced_as c.args.d.now (Opaque c.in-Opaque.atom) (sym c.in-Opaque.is ∙ c.label.ensures) c.requires.reduced) in omega (arith, p)

pub returns-in-Opaque-clause-found : goal.returns-in-Opaque-clause-found
returns-in-Opaque-clause-found c =
    let n = ap (λ t. branch_count (branches_of t)) (tree_as c.args.d.now (Opaque c.in-Opaque.atom) (sym c.in-Opaque.is ∙ c.label.ensures)) ∙ keyed_count (atom_level c.in-Opaque.atom) ((1 ∷ []) ∷ []) (map tree_of (parts_of c.args.d.now)) (reduced_as c.args.d.now (Opaque c.in-Opaque.atom) (sym c.in-Opaque.is ∙ c.label.ensures) c.requires.reduced) in
    let zero_is : c.args.index ≡ 0 = omega (arith, n, c.requires.within) in
    let less : 0 < 1 = omega arith in
    (λ i. branches_from (zero_is i) (branches_of (tree_as c.args.d.now (Opaque c.in-Opaque.atom) (sym c.in-Opaque.is ∙ c.label.ensures) i)))
    ∙ keyed_from ((1 ∷ []) ∷ []) (parts_of c.args.d.now) 0 c.part-in-Opaque.result.now less c.part-in-Opaque.ensures
    ∙ (λ i. branch (1 ∷ []) (tree_of c.part-in-Opaque.result.now) (branches_from (suc (sym zero_is i)) (branches_of (sym (tree_as c.args.d.now (Opaque c.in-Opaque.atom) (sym c.in-Opaque.is ∙ c.label.ensures)) i))))

pub returns-in-Opaque-clause-kind : goal.returns-in-Opaque-clause-kind
returns-in-Opaque-clause-kind c = ap (λ t. is_key_of t (Holds)) (tree_as c.args.d.now (Opaque c.in-Opaque.atom) (sym c.in-Opaque.is ∙ c.label.ensures))

pub returns-in-Opaque-clause-known : goal.returns-in-Opaque-clause-known
returns-in-Opaque-clause-known c = λ h k. known_part h c.args.d.now _ c.part-in-Opaque.result.now k c.part-in-Opaque.ensures

pub after-number-requires : goal.after-number-requires
after-number-requires c = let s = python_shape c.in-Python.starts (parts_of c.args.d.now) (reduced_as c.args.d.now (Python c.in-Python.starts) (sym c.in-Python.is ∙ c.label.ensures) c.requires.reduced) in let n = ap (λ t. branch_count (branches_of t)) (tree_as c.args.d.now (Python c.in-Python.starts) (sym c.in-Python.is ∙ c.label.ensures)) in omega (arith, s.count, n, c.requires.within)

pub part-requires-in-Python : goal.part-requires-in-Python
part-requires-in-Python c = let s = python_shape c.in-Python.starts (parts_of c.args.d.now) (reduced_as c.args.d.now (Python c.in-Python.starts) (sym c.in-Python.is ∙ c.label.ensures) c.requires.reduced) in let n = ap (λ t. branch_count (branches_of t)) (tree_as c.args.d.now (Python c.in-Python.starts) (sym c.in-Python.is ∙ c.label.ensures)) in omega (arith, s.count, s.even, n, c.requires.within, c.after-number.ensures.place)

pub returns-in-Python-clause-found : goal.returns-in-Python-clause-found
returns-in-Python-clause-found c =
    let at = c.after-number.ensures.place in
    let s = python_shape c.in-Python.starts (parts_of c.args.d.now) (reduced_as c.args.d.now (Python c.in-Python.starts) (sym c.in-Python.is ∙ c.label.ensures) c.requires.reduced) in
    let n = ap (λ t. branch_count (branches_of t)) (tree_as c.args.d.now (Python c.in-Python.starts) (sym c.in-Python.is ∙ c.label.ensures)) in
    let less : suc c.args.index < length c.in-Python.starts = omega (arith, s.count, n, c.requires.within) in
    let r = c.part-in-Python.result.now in
    ap (λ t. branches_from c.args.index (branches_of t)) (tree_as c.args.d.now (Python c.in-Python.starts) (sym c.in-Python.is ∙ c.label.ensures))
    ∙ python_from c.in-Python.starts (parts_of c.args.d.now) c.args.index r (reduced_as c.args.d.now (Python c.in-Python.starts) (sym c.in-Python.is ∙ c.label.ensures) c.requires.reduced) less (ap (slice_get (parts_of c.args.d.now)) (sym (add-one c.args.index) ∙ sym at) ∙ c.part-in-Python.ensures)
    ∙ ap (λ j. branch (get_or c.in-Python.starts j 0 ∷ []) (tree_of r) (branches_from (suc c.args.index) (branches_of (python_of c.in-Python.starts (map tree_of (parts_of c.args.d.now)))))) (sym (add-one c.args.index))
    ∙ (λ i. branch (sym c.after-number.ensures.number i ∷ []) (tree_of r) (branches_from (suc c.args.index) (branches_of (sym (tree_as c.args.d.now (Python c.in-Python.starts) (sym c.in-Python.is ∙ c.label.ensures)) i))))

pub returns-in-Python-clause-kind : goal.returns-in-Python-clause-kind
returns-in-Python-clause-kind c = ap (λ t. is_key_of t (Number c.after-number.result.0)) (tree_as c.args.d.now (Python c.in-Python.starts) (sym c.in-Python.is ∙ c.label.ensures)) ∙ python_key c.in-Python.starts (map tree_of (parts_of c.args.d.now)) c.after-number.result.0

pub returns-in-Python-clause-known : goal.returns-in-Python-clause-known
returns-in-Python-clause-known c = λ h k. known_part h c.args.d.now _ c.part-in-Python.result.now k c.part-in-Python.ensures
