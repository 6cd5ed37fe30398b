-- No comparison with `extras`, which PEP 508 doesn't have, stands in the markers of what files give.
use Rattle.std.proofs.Common.{◌≡◌, ◌∙◌, ◌++◌, ◌||◌, ℕ, List, [], ◌∷◌, Bool, true, false, Option, Some, None, refl, ap, sym}
use Rattle.std.specs.Prelude.{IfSome}
use Rattle.std.specs.List.{AllByRecursion, list_any}
use Rattle.std.proofs.lemmas.List.Folds.{list_any-append}
use Rattle.ul_version.specs.Fields.{Fields}
use Rattle.ul_specifier.specs.declared.clause.Op.{Op}
use Rattle.ul_specifier.specs.declared.clause.Op.TheVariants.{Equal, Unequal, AtLeast, AtMost, More, Less, Compatible, Distinct}
use Rattle.ul_comparison.specs.Atoms.{AtomFields, is_extras}
use Rattle.ul_comparison.specs.Formulas.{Formula, Formulas, extra, python, python_list, text, opaque, all, any, none, more, formulas_of}
use Rattle.ul_marker.specs.Parts.{asks_extras, atoms_in, atoms_of}
use Rattle.ul_marker.proofs.ForCallers.{dialects_agree}
use Rattle.ul_project.specs.Extras.{extra_marker, joined_markers}
use Rattle.ul_groups.specs.Negated.{each_negated, negated, negated_clause}
use Rattle.laws_given.proofs.ForCallers.{AreMarkers, HasMarker, IsOfFiles, given_all, given_environments, read_has}
use Rattle.laws_existence.specs.Inputs.{GivenHasNoExtras}

abbrev NoExtras : Formula → Type 0
NoExtras f = asks_extras f ≡ false

abbrev is_one : AtomFields → Bool
is_one a = is_extras a.variable

-- a document reads no marker with such a comparison
reads_none : AreMarkers NoExtras
reads_none input f e = ((dialects_agree.document input f).0 e).1

-- ---- negations

clause_atoms : (full : Bool) (op : Op) (V : Fields) (prefix : Bool) → atoms_of (negated_clause full op V prefix) ≡ []
clause_atoms full Equal V prefix = refl
clause_atoms full Unequal V prefix = refl
clause_atoms full AtLeast V prefix = refl
clause_atoms full AtMost V prefix = refl
clause_atoms full More V prefix = refl
clause_atoms full Less V prefix = refl
clause_atoms full Compatible V prefix = refl
clause_atoms full Distinct V prefix = refl

-- a negation asks the comparisons of the formula
mutual
  negated_atoms : (f : Formula) → atoms_of (negated f) ≡ atoms_of f
  negated_atoms (extra literal equal) = refl
  negated_atoms (python full clause) = clause_atoms full clause.op clause.version clause.prefix
  negated_atoms (python_list full versions within) = refl
  negated_atoms (text variable literal equal) = refl
  negated_atoms (opaque atom positive) = refl
  negated_atoms (all fs) = each_atoms fs
  negated_atoms (any fs) = each_atoms fs

  each_atoms : (fs : Formulas) → atoms_in (each_negated fs) ≡ atoms_in fs
  each_atoms none = refl
  each_atoms (more f fs) =
      ap (λ xs. xs ++ atoms_in (each_negated fs)) (negated_atoms f) ∙ ap (λ xs. atoms_of f ++ xs) (each_atoms fs)

-- ---- joined markers

both_false : (a b : Bool) → a ≡ false → b ≡ false → (a || b) ≡ false
both_false false b h k = k
both_false true b h k = absurd (cc h)

some_none : (fs : List Formula) → AllByRecursion NoExtras fs → list_any is_one (atoms_in (formulas_of fs)) ≡ false
some_none [] h = refl
some_none (f ∷ fs) h =
    list_any-append is_one (atoms_of f) (atoms_in (formulas_of fs))
    ∙ both_false (asks_extras f) (list_any is_one (atoms_in (formulas_of fs))) h.0 (some_none fs h.1)

joined_none : (a b : Option Formula) → IfSome a NoExtras → IfSome b NoExtras → IfSome (joined_markers a b) NoExtras
joined_none None b h k = k
joined_none (Some a) None h k = h
joined_none (Some a) (Some b) h k = some_none (a ∷ b ∷ []) (h, (k, tt))

-- ---- what files give

of_files : IsOfFiles (HasMarker NoExtras) NoExtras
of_files = record {
  read = read_has NoExtras reads_none;
  extra = λ name q named h. joined_none q.marker (extra_marker name) h refl;
  bounds = record {
    overridden = λ q o h k. joined_none q.marker o.marker h k;
    constrained = λ q c h k. joined_none q.marker c.marker h k;
  };
  markers = reads_none;
  conditions = record {
    each = λ name clauses marker h. h;
    none = λ conditions h. ap (list_any is_one) (each_atoms (formulas_of conditions)) ∙ some_none conditions h;
  };
}

pub given_has_no_extras : GivenHasNoExtras
given_has_no_extras project folder old m r gave = record {
  environments = given_environments NoExtras reads_none project folder old m r gave;
  requirements = given_all (HasMarker NoExtras) NoExtras of_files project folder old m r gave;
}
