-- The tree whose text this is, where it is one that a marker or a fork of a lock may have: neither true nor false
-- everywhere, asking for no extra, and with few enough nodes on each path. The text is read as a marker, and its tree
-- is the one if it has this text.
use Rattle.std.specs.Prelude.{◌≡◌, ◌==◌, ◌||◌, ◌&&◌, ◌^◌, ℕ, List, [], ◌∷◌, Bool, true, false, not, nat_le, nat_lt, Option, Some, None, slice_index, if◌then◌else◌}
use Rattle.std.specs.Str.{bytes_eq}
use Rattle.ul_base.specs.Names.{is_name}
use Rattle.ul_version.specs.Reading.{◌>>=◌}
use Rattle.ul_specifier.specs.declared.clause.Op.{Op}
use Rattle.ul_specifier.specs.declared.clause.Op.TheVariants.{AtLeast, Less}
use Rattle.ul_comparison.specs.Formulas.{Formula, Formulas, extra, python, python_list, text, opaque, all, any, none, more}
use Rattle.ul_marker.specs.Reading.{printed_marker_of}
use Rattle.ul_comparison.specs.Truth.{is_empty}
use Rattle.ul_tree.specs.Laws.{and_of, or_of}
use Rattle.ul_tree.specs.Leaves.{point_tree}
use Rattle.ul_tree.specs.Paths.{levels_of}
use Rattle.ul_nodes.specs.Levels.{extra_level, python_level, text_level, atom_level}
use Rattle.ul_tree.specs.Pieces.{packed_number}
use Rattle.ul_nodes.specs.Plain.{Plain, truth, node}
use Rattle.ul_tree.specs.Sample.{asks_extra}
use Rattle.ul_marker_text.specs.MarkerText.{marker_text}

-- the interpreters from a number on, or those below it
abbrev pub bound_tree : Bool → ℕ → Plain
bound_tree lower number =
    if number == 0 then truth lower else (if nat_lt number (2 ^ 96) then point_tree python_level (number ∷ []) lower else truth (not lower))

-- the interpreters that meet a clause of three numbers, by `>=` or by `<`; no text of a tree has another clause
abbrev pub clause_tree : Op → List ℕ → Plain
clause_tree AtLeast release = bound_tree true (packed_number (slice_index release 0) (slice_index release 1) (slice_index release 2))
clause_tree Less release = bound_tree false (packed_number (slice_index release 0) (slice_index release 1) (slice_index release 2))
clause_tree other release = truth false

-- the extras that equal a literal, or don't: a literal that is neither empty nor a name equals none
abbrev pub extra_tree : List ℕ → Bool → Plain
extra_tree literal equal = if is_empty literal || is_name literal then point_tree extra_level literal equal else truth (not equal)

-- the tree of a marker with such clauses; no text of a tree has a list of versions
abbrev mutual
  pub formula_tree : Formula → Plain
  formula_tree (extra literal equal) = extra_tree literal equal
  formula_tree (python full clause) = clause_tree clause.op clause.version.release
  formula_tree (python_list full versions within) = truth false
  formula_tree (text variable literal equal) = point_tree (text_level variable) literal equal
  formula_tree (opaque atom positive) = point_tree (atom_level atom) (1 ∷ []) positive
  formula_tree (all fs) = tree_of_all fs
  formula_tree (any fs) = tree_of_any fs

  -- the tree that is true where all are
  pub tree_of_all : Formulas → Plain
  tree_of_all none = truth true
  tree_of_all (more f fs) = and_of (formula_tree f) (tree_of_all fs)

  -- the tree that is true where some is
  pub tree_of_any : Formulas → Plain
  tree_of_any none = truth false
  tree_of_any (more f fs) = or_of (formula_tree f) (tree_of_any fs)

-- whether a tree is neither true nor false everywhere, and asks for no extra
abbrev pub is_region : Plain → Bool
is_region (truth b) = false
is_region (node l d bs) = not (asks_extra (node l d bs))

-- whether the text of a tree is read: none of its paths has more than 512 nodes
unfoldable pub is_readable : Plain → Bool
is_readable t = nat_le (levels_of t) 512

-- a tree, if it is such a tree and has this text
abbrev pub tree_with_text : List ℕ → Plain → Option Plain
tree_with_text spelled t = if is_region t && is_readable t then (if bytes_eq (marker_text t) spelled then Some t else None) else None

-- the tree of a text
unfoldable pub marker_of_text : List ℕ → Option Plain
marker_of_text spelled = printed_marker_of spelled >>= λ f. tree_with_text spelled (formula_tree f)

-- a tree that is read of its text
abbrev pub IsMarker : Plain → Type 0
IsMarker t = marker_of_text (marker_text t) ≡ Some t
