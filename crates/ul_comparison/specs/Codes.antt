-- The code of a formula, by which a proof tells its values apart: its parts in postfix order, read back by a stack.
use Rattle.std.specs.Prelude.{◌≡◌, ◌⊎◌, ℕ, List, [], ◌∷◌, ◌++◌, Bool, true, refl}
use Rattle.std.proofs.Common.{sym, ap, ◌∙◌, append_assoc, append-nil, inl, inr}
use Rattle.std.specs.Coded.{Coded, code_by, codes, coded_list}
use Rattle.ul_version.specs.Fields.{Fields}
use Rattle.ul_specifier.specs.Clauses.{ClauseFields}
use Rattle.ul_comparison.specs.Atoms.{AtomFields}
use Rattle.ul_comparison.specs.Formulas.{Formula, extra, python, python_list, text, opaque, all, any, Formulas, none, more}
use Rattle.ul_comparison.specs.declared.variable.Variable.{Variable}

-- what stands on the stack: formulas, and lists of them
abbrev Item : Type 0
Item = Formula ⊎ Formulas

-- a part of a formula: a comparison, or that what stands before it is joined
pub data Mark : Type 0 where
  extra_mark : List ℕ → Bool → Mark
  python_mark : Bool → ClauseFields → Mark
  list_mark : Bool → List Fields → Bool → Mark
  text_mark : Variable → List ℕ → Bool → Mark
  opaque_mark : AtomFields → Bool → Mark
  all_mark : Mark
  any_mark : Mark
  none_mark : Mark
  more_mark : Mark

-- the parts of a formula in postfix order
abbrev mutual
  marks_of : Formula → List Mark
  marks_of (extra l e) = extra_mark l e ∷ []
  marks_of (python f c) = python_mark f c ∷ []
  marks_of (python_list f vs w) = list_mark f vs w ∷ []
  marks_of (text v l e) = text_mark v l e ∷ []
  marks_of (opaque a p) = opaque_mark a p ∷ []
  marks_of (all fs) = marks_in fs ++ all_mark ∷ []
  marks_of (any fs) = marks_in fs ++ any_mark ∷ []

  marks_in : Formulas → List Mark
  marks_in none = none_mark ∷ []
  marks_in (more f fs) = marks_of f ++ (marks_in fs ++ more_mark ∷ [])

-- the stack after the list on it is joined by `and`
abbrev joined_all : List Item → List Item
joined_all (inr fs ∷ st) = inl (all fs) ∷ st
joined_all st = st

-- the stack after the list on it is joined by `or`
abbrev joined_any : List Item → List Item
joined_any (inr fs ∷ st) = inl (any fs) ∷ st
joined_any st = st

-- the stack after the list on it has the formula below it in front
abbrev joined_more : List Item → List Item
joined_more (inr fs ∷ inl f ∷ st) = inr (more f fs) ∷ st
joined_more st = st

-- the stack after one part
abbrev stepped : List Item → Mark → List Item
stepped st (extra_mark l e) = inl (extra l e) ∷ st
stepped st (python_mark f c) = inl (python f c) ∷ st
stepped st (list_mark f vs w) = inl (python_list f vs w) ∷ st
stepped st (text_mark v l e) = inl (text v l e) ∷ st
stepped st (opaque_mark a p) = inl (opaque a p) ∷ st
stepped st all_mark = joined_all st
stepped st any_mark = joined_any st
stepped st none_mark = inr none ∷ st
stepped st more_mark = joined_more st

-- the stack after all parts
abbrev run : List Item → List Mark → List Item
run st [] = st
run st (m ∷ ms) = run (stepped st m) ms

-- the formula on top of a stack
abbrev top : List Item → Formula
top [] = extra [] true
top (inl f ∷ st) = f
top (inr fs ∷ st) = all fs

mutual
  run_of : (f : Formula) (st : List Item) (ms : List Mark) → run st (marks_of f ++ ms) ≡ run (inl f ∷ st) ms
  run_of (extra l e) st ms = refl
  run_of (python f c) st ms = refl
  run_of (python_list f vs w) st ms = refl
  run_of (text v l e) st ms = refl
  run_of (opaque a p) st ms = refl
  run_of (all fs) st ms = ap (run st) (append_assoc (marks_in fs) (all_mark ∷ []) ms) ∙ run_in fs st (all_mark ∷ ms)
  run_of (any fs) st ms = ap (run st) (append_assoc (marks_in fs) (any_mark ∷ []) ms) ∙ run_in fs st (any_mark ∷ ms)

  run_in : (fs : Formulas) (st : List Item) (ms : List Mark) → run st (marks_in fs ++ ms) ≡ run (inr fs ∷ st) ms
  run_in none st ms = refl
  run_in (more f fs) st ms = ap (run st) (append_assoc (marks_of f) (marks_in fs ++ more_mark ∷ []) ms) ∙ run_of f st ((marks_in fs ++ more_mark ∷ []) ++ ms)
      ∙ ap (run (inl f ∷ st)) (append_assoc (marks_in fs) (more_mark ∷ []) ms) ∙ run_in fs (inl f ∷ st) (more_mark ∷ ms)

-- the formula whose parts in postfix order these are
abbrev read_back : List Mark → Formula
read_back ms = top (run [] ms)

back : (f : Formula) → read_back (marks_of f) ≡ f
back f = ap (λ ms. top (run [] ms)) (sym (append-nil (marks_of f))) ∙ ap top (run_of f [] [])

-- the code of a part
pub mark_code : Coded Mark
mark_code = hlevel codes

-- the code of a formula, for the `Model` of a type that holds a marker
pub formula_code : Coded Formula
formula_code = code_by (List Mark) (coded_list mark_code) marks_of read_back back
