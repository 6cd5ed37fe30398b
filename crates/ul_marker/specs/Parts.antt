-- What stands in a marker's text: its opaque comparisons, and whether it asks for an extra, by `extra` or by `extras`.
-- All are asked of the formula as it was written, even where its truth doesn't depend on them.
use Rattle.std.specs.Prelude.{◌||◌, ◌++◌, Bool, true, false, List, [], ◌∷◌}
use Rattle.std.specs.List.{list_any}
use Rattle.ul_comparison.specs.Atoms.{AtomFields, is_extras}
use Rattle.ul_comparison.specs.Formulas.{Formula, extra, python, python_list, text, opaque, all, any, Formulas, none, more}

abbrev mutual
  -- the opaque comparisons of a formula, in the order of its text, each as often as it stands there
  pub atoms_of : Formula → List AtomFields
  atoms_of (extra literal equal) = []
  atoms_of (python full clause) = []
  atoms_of (python_list full versions within) = []
  atoms_of (text variable literal equal) = []
  atoms_of (opaque atom positive) = atom ∷ []
  atoms_of (all fs) = atoms_in fs
  atoms_of (any fs) = atoms_in fs

  pub atoms_in : Formulas → List AtomFields
  atoms_in none = []
  atoms_in (more f fs) = atoms_of f ++ atoms_in fs

abbrev mutual
  -- whether a comparison with `extra` stands in a formula
  pub asks_extra : Formula → Bool
  asks_extra (extra literal equal) = true
  asks_extra (python full clause) = false
  asks_extra (python_list full versions within) = false
  asks_extra (text variable literal equal) = false
  asks_extra (opaque atom positive) = false
  asks_extra (all fs) = some_asks_extra fs
  asks_extra (any fs) = some_asks_extra fs

  pub some_asks_extra : Formulas → Bool
  some_asks_extra none = false
  some_asks_extra (more f fs) = asks_extra f || some_asks_extra fs

-- whether a comparison with `extras` stands in a formula
abbrev pub asks_extras : Formula → Bool
asks_extras f = list_any (λ atom. is_extras atom.variable) (atoms_of f)
