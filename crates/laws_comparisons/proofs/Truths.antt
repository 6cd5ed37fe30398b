-- Which opaque comparisons truths look at: a marker, a requirement and a list of environments at those that stand in
-- them, a Python bound at none.
use Rattle.std.proofs.Common.{◌≡◌, ◌∙◌, ◌&&◌, ◌||◌, ℕ, List, [], ◌∷◌, flat_map, Option, Some, None, refl, ap}
use Rattle.std.specs.Prelude.{not}
use Rattle.std.specs.List.{list_any}
use Rattle.ul_base.proofs.ForCallers.{contains_first}
use Rattle.ul_base.specs.declared.node.Node.{Node}
use Rattle.ul_comparison.specs.Atoms.{AtomFields}
use Rattle.ul_comparison.specs.Formulas.{Formula, Formulas, extra, python, python_list, text, opaque, all, any, none, more}
use Rattle.ul_comparison.specs.Truth.{all_hold, any_holds, as_asked, marker_holds}
use Rattle.ul_comparison.specs.Worlds.{WorldFields}
use Rattle.ul_marker.specs.Parts.{atoms_of, atoms_in as formulas_atoms}
use Rattle.ul_requirement.specs.Fields.{ReleaseFields, RequirementFields}
use Rattle.ul_requirement.specs.Truth.{applies_at, atoms_in, atoms_of_requirement, may_hold, true_with}
use Rattle.ul_specifier.specs.Clauses.{ClauseFields}
use Rattle.ul_index.specs.Catalogs.{is_release_fit}
use Rattle.ul_project.specs.Region.{holds_bare, in_environments, is_supported, meets_python}
use Rattle.laws_comparisons.specs.Comparisons.{HaveAlike, LooksAt, with_truths}
use Rattle.laws_comparisons.proofs.Asked.{AreAsked, back, front}

module _ (asked : List AtomFields) (w : WorldFields) (ts : List AtomFields) (alike : HaveAlike asked w.truths ts) where
  mutual
    formula_alike : (f : Formula) (x : List ℕ) → AreAsked asked (atoms_of f) → marker_holds f w x ≡ marker_holds f (with_truths w ts) x
    formula_alike (extra literal equal) x h = refl
    formula_alike (python full clause) x h = refl
    formula_alike (python_list full versions within) x h = refl
    formula_alike (text variable literal equal) x h = refl
    formula_alike (opaque atom positive) x h = ap (as_asked positive) (alike atom (h atom (contains_first atom [])))
    formula_alike (all fs) x h = all_alike fs x h
    formula_alike (any fs) x h = any_alike fs x h

    all_alike : (fs : Formulas) (x : List ℕ) → AreAsked asked (formulas_atoms fs) → all_hold fs w x ≡ all_hold fs (with_truths w ts) x
    all_alike none x h = refl
    all_alike (more f fs) x h =
        ap (λ b. b && all_hold fs w x) (formula_alike f x (front asked (atoms_of f) (formulas_atoms fs) h))
        ∙ ap (λ b. marker_holds f (with_truths w ts) x && b) (all_alike fs x (back asked (atoms_of f) (formulas_atoms fs) h))

    any_alike : (fs : Formulas) (x : List ℕ) → AreAsked asked (formulas_atoms fs) → any_holds fs w x ≡ any_holds fs (with_truths w ts) x
    any_alike none x h = refl
    any_alike (more f fs) x h =
        ap (λ b. b || any_holds fs w x) (formula_alike f x (front asked (atoms_of f) (formulas_atoms fs) h))
        ∙ ap (λ b. marker_holds f (with_truths w ts) x || b) (any_alike fs x (back asked (atoms_of f) (formulas_atoms fs) h))

  marker_alike : (m : Option Formula) (x : List ℕ) → AreAsked asked (atoms_in m) → may_hold m w x ≡ may_hold m (with_truths w ts) x
  marker_alike None x h = refl
  marker_alike (Some m) x h = formula_alike m x h

  true_alike : (q : RequirementFields) (e : Option (List ℕ)) → AreAsked asked (atoms_of_requirement q)
      → true_with q e w ≡ true_with q e (with_truths w ts)
  true_alike q None h = marker_alike q.marker [] h
  true_alike q (Some x) h =
      ap (λ b. b && not (may_hold q.marker w [])) (marker_alike q.marker x h)
      ∙ ap (λ b. may_hold q.marker (with_truths w ts) x && not b) (marker_alike q.marker [] h)

  some_alike : (ms : List Formula) → AreAsked asked (flat_map atoms_of ms) → list_any (holds_bare w) ms ≡ list_any (holds_bare (with_truths w ts)) ms
  some_alike [] h = refl
  some_alike (m ∷ ms) h =
      ap (λ b. b || list_any (holds_bare w) ms) (formula_alike m [] (front asked (atoms_of m) (flat_map atoms_of ms) h))
      ∙ ap (λ b. holds_bare (with_truths w ts) m || b) (some_alike ms (back asked (atoms_of m) (flat_map atoms_of ms) h))

  environments_alike : (ms : List Formula) → AreAsked asked (flat_map atoms_of ms) → in_environments ms w ≡ in_environments ms (with_truths w ts)
  environments_alike [] h = refl
  environments_alike (m ∷ ms) h = some_alike (m ∷ ms) h

-- a requirement at a node
pub requirement_looks : (asked : List AtomFields) (q : RequirementFields) (n : Node) → AreAsked asked (atoms_of_requirement q)
    → LooksAt asked (applies_at q n)
requirement_looks asked q n h w ts world other alike = true_alike asked w ts alike q n.extra h

-- the worlds that a project supports
pub supported_looks : (asked : List AtomFields) (clauses : List ClauseFields) (environments : List Formula)
    → AreAsked asked (flat_map atoms_of environments) → LooksAt asked (is_supported clauses environments)
supported_looks asked clauses environments h w ts world other alike =
    ap (λ b. meets_python clauses w && b) (environments_alike asked w ts alike environments h)

-- a release's Python bound
pub fit_looks : (asked : List AtomFields) (r : ReleaseFields) → LooksAt asked (is_release_fit r)
fit_looks asked r w ts world other alike = refl
