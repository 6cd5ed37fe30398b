-- A row of a lock that compares no `extras` compares none.
use Rattle.std.proofs.Common.{◌≡◌, ◌∙◌, ◌++◌, ◌||◌, ℕ, List, [], ◌∷◌, Bool, true, false, refl, ap}
use Rattle.std.specs.Prelude.{Contains}
use Rattle.std.specs.Ordering.{is_eq}
use Rattle.std.proofs.lemmas.List.Folds.{list_any-append}
use Rattle.ul_comparison.specs.Atoms.{AtomFields, atom_cmp, has_atom, is_extras}
use Rattle.ul_nodes.specs.Levels.{atom_level}
use Rattle.ul_nodes.specs.Plain.{Plain, truth, node, Branches, done, branch}
use Rattle.ul_nodes.proofs.ForCallers.{cmp_itself}
use Rattle.ul_tree.specs.Sample.{atom_of}
use Rattle.ul_filter.specs.Comparisons.{HasAll, branch_atoms, level_atoms, lock_atoms, tree_atoms}
use Rattle.ul_lock.specs.declared.parts.Lock.{Lock}
use Rattle.ul_lock.specs.WellFormed.{IsWellFormed}
use Rattle.ul_reach.specs.Rows.{AreRows, row_key}
use Rattle.ul_reach.specs.declared.rows.Reached.{Reached}
use Rattle.ul_inputs.specs.Resolutions.{ResolutionFields}
use Rattle.laws_comparisons.specs.Comparisons.{AskedHaveNoExtras, HaveNoExtras, WalksAskTheirs, asked_atoms}
use Rattle.laws_existence.specs.Inputs.{HasNoExtras}
use Rattle.laws_exports.specs.Lines.{compares_extras, is_extras_level, some_compare_extras}

-- ---- trees

has_first : (a : AtomFields) (ts : List AtomFields) → has_atom (a ∷ ts) a ≡ true
has_first a ts = ap (λ o. is_eq o || has_atom ts a) (cmp_itself (atom_level a))

true_either : (b : Bool) → (b || true) ≡ true
true_either true = refl
true_either false = refl

front : (ts us : List AtomFields) → HaveNoExtras (ts ++ us) → HaveNoExtras ts
front ts us h a e =
    h a (list_any-append (λ b. is_eq (atom_cmp b a)) ts us ∙ ap (λ x. x || has_atom us a) e)

back : (ts us : List AtomFields) → HaveNoExtras (ts ++ us) → HaveNoExtras us
back ts us h a e =
    h a (list_any-append (λ b. is_eq (atom_cmp b a)) ts us ∙ (ap (λ x. has_atom ts a || x) e ∙ true_either (has_atom ts a)))

both_false : (a b : Bool) → a ≡ false → b ≡ false → (a || b) ≡ false
both_false false b h k = k
both_false true b h k = absurd (cc h)

level_silent : (l : List ℕ) → HaveNoExtras (level_atoms l) → is_extras_level l ≡ false
level_silent [] h = refl
level_silent (a ∷ []) h = refl
level_silent (a ∷ b ∷ rest) h = h (atom_of (a ∷ b ∷ rest)) (has_first (atom_of (a ∷ b ∷ rest)) [])

-- a tree without a comparison with `extras` compares none
mutual
  tree_silent : (t : Plain) → HaveNoExtras (tree_atoms t) → compares_extras t ≡ false
  tree_silent (truth b) h = refl
  tree_silent (node l d bs) h =
      let parts = back (level_atoms l) (tree_atoms d ++ branch_atoms bs) h in
      both_false (is_extras_level l) (compares_extras d || some_compare_extras bs)
      (level_silent l (front (level_atoms l) (tree_atoms d ++ branch_atoms bs) h))
      (both_false (compares_extras d) (some_compare_extras bs)
      (tree_silent d (front (tree_atoms d) (branch_atoms bs) parts))
      (branches_silent bs (back (tree_atoms d) (branch_atoms bs) parts)))

  branches_silent : (bs : Branches) → HaveNoExtras (branch_atoms bs) → some_compare_extras bs ≡ false
  branches_silent done h = refl
  branches_silent (branch k c rest) h =
      both_false (compares_extras c) (some_compare_extras rest)
      (tree_silent c (front (tree_atoms c) (branch_atoms rest) h))
      (branches_silent rest (back (tree_atoms c) (branch_atoms rest) h))

-- ---- rows

-- the laws on which it rests that rows compare no `extras`
pub record ExtrasLaws : Type 0 where
  pub walks : WalksAskTheirs
  pub asked : AskedHaveNoExtras

-- a row of a lock that asks what a project and its documents ask, whose markers compare no `extras`
pub rows_silent : ExtrasLaws → (r : ResolutionFields) (l : Lock) (xs : List (List ℕ)) (rows : List Reached)
    → HasNoExtras r → HasAll (asked_atoms r.project r.catalog) (lock_atoms l) → IsWellFormed l → AreRows l xs rows
    → (row : Reached) → Contains rows row → compares_extras row.marker ≡ false
rows_silent laws r l xs rows plain asks well are row at =
    let others = laws.asked r.project r.catalog plain.environments plain.requirements in
    let own = laws.walks l xs (row_key row) row.marker well (are.right row at) in
    tree_silent row.marker (λ a e. others a (asks a (own a e)))
