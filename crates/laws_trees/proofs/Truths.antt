-- Requirements at a node, Python bounds of releases and the worlds that a project supports have trees.
use Rattle.std.proofs.Common.{ℕ, List, [], ◌∷◌, Bool, true, false, Option, Some, None, refl, ◌∙◌}
use Rattle.std.specs.Prelude.{not, ◌&&◌, ◌||◌}
use Rattle.ul_version.specs.Fields.{Fields, plain}
use Rattle.ul_specifier.specs.Clauses.{ClauseFields}
use Rattle.ul_specifier.specs.Meaning.{lower_list, meets_clause, meets_list}
use Rattle.ul_comparison.specs.Formulas.{AreFormulas, Formula, IsFormula, formulas_of}
use Rattle.ul_comparison.specs.Truth.{marker_holds, python_release}
use Rattle.ul_comparison.specs.Worlds.{WorldFields}
use Rattle.ul_requirement.specs.Fields.{MayBeFormula, ReleaseFields, RequirementFields}
use Rattle.ul_requirement.specs.Truth.{may_hold, true_with}
use Rattle.ul_nodes.specs.Plain.{truth}
use Rattle.ul_tree.specs.Laws.{at_extra_of}
use Rattle.ul_index.specs.Catalogs.{Packages, is_fit, is_fit_in, is_release_fit, release_of}
use Rattle.ul_project.specs.Region.{holds_bare, in_environments, is_supported, meets_python, some_holds}
use Rattle.laws_trees.specs.Trees.{HasTree, TruthTrees}
use Rattle.ul_tree.proofs.ForCallers.{operations}
use Rattle.laws_trees.proofs.MarkerTrees.{TreeOf, and_tree, clause_tree, marker_tree, not_tree, or_tree}

-- ---- truths that are joined

pub always_has : (b : Bool) → HasTree (λ w. b)
always_has b = (truth b, record { reduced = tt; truth = λ w x is. refl })

-- a tree whose truth is the same at each extra
at_extras : (p : WorldFields → Bool) → HasTree p → TreeOf (λ w x. p w)
at_extras p (t, h) = record { tree = t; reduced = h.reduced; truth = h.truth }

at_none : (p : WorldFields → Bool) → TreeOf (λ w x. p w) → HasTree p
at_none p t = (t.tree, record { reduced = t.reduced; truth = t.truth })

pub both_have : (p q : WorldFields → Bool) → HasTree p → HasTree q → HasTree (λ w. p w && q w)
both_have p q g h =
    at_none (λ w. p w && q w) (and_tree (λ w x. p w) (λ w x. q w) (at_extras p g) (at_extras q h))

pub negated_has : (p : WorldFields → Bool) → HasTree p → HasTree (λ w. not (p w))
negated_has p h = at_none (λ w. not (p w)) (not_tree (λ w x. p w) (at_extras p h))

pub one_has : (p q : WorldFields → Bool) → HasTree p → HasTree q → HasTree (λ w. p w || q w)
one_has p q g h = at_none (λ w. p w || q w) (or_tree (λ w x. p w) (λ w x. q w) (at_extras p g) (at_extras q h))

-- ---- markers and requirements

at_an_extra : (p : WorldFields → List ℕ → Bool) (x : List ℕ) → TreeOf p → HasTree (λ w. p w x)
at_an_extra p x t = (
  at_extra_of t.tree x,
  record {
    reduced = operations.extra_reduced t.tree x t.reduced;
    truth = λ w y is. operations.extra_truth t.tree x t.reduced w y ∙ t.truth w x is;
  },
)

marker_has : (m : Formula) (x : List ℕ) → IsFormula m → HasTree (λ w. marker_holds m w x)
marker_has m x is = at_an_extra (λ w y. marker_holds m w y) x (marker_tree m is)

may_have : (o : Option Formula) (x : List ℕ) → MayBeFormula o → HasTree (λ w. may_hold o w x)
may_have None x is = always_has true
may_have (Some m) x is = marker_has m x is

with_has : (q : RequirementFields) (x : Option (List ℕ)) → MayBeFormula q.marker → HasTree (λ w. true_with q x w)
with_has q None is = may_have q.marker [] is
with_has q (Some x) is =
    both_have (λ w. may_hold q.marker w x) (λ w. not (may_hold q.marker w [])) (may_have q.marker x is)
    (negated_has (λ w. may_hold q.marker w []) (may_have q.marker [] is))

-- ---- the interpreter

clause_has : (clause : ClauseFields) → HasTree (λ w. meets_clause clause (plain (python_release true w)))
clause_has clause =
    at_an_extra (λ w y. meets_clause clause (plain (python_release true w))) [] (clause_tree clause true)

clauses_have : (clauses : List ClauseFields) → HasTree (λ w. meets_list clauses (plain (python_release true w)))
clauses_have [] = always_has true
clauses_have (s ∷ clauses) =
    both_have (λ w. meets_clause s (plain (python_release true w)))
    (λ w. meets_list clauses (plain (python_release true w))) (clause_has s) (clauses_have clauses)

release_has : (r : ReleaseFields) → HasTree (is_release_fit r)
release_has r = clauses_have (lower_list r.python)

fit_in_has : (o : Option ReleaseFields) → HasTree (λ w. is_fit_in o w)
fit_in_has None = always_has false
fit_in_has (Some r) = release_has r

fit_has : (c : Packages) (n : List ℕ) (v : Fields) → HasTree (is_fit c n v)
unfolding is_fit
fit_has c n v = fit_in_has (release_of c n v)

-- ---- the worlds that a project supports

some_have : (environments : List Formula) → AreFormulas (formulas_of environments)
    → HasTree (λ w. some_holds environments w)
some_have [] is = always_has false
some_have (m ∷ ms) is = one_has (λ w. holds_bare w m) (λ w. some_holds ms w) (marker_has m [] is.0) (some_have ms is.1)

environments_have : (environments : List Formula) → AreFormulas (formulas_of environments)
    → HasTree (λ w. in_environments environments w)
environments_have [] is = always_has true
environments_have (m ∷ ms) is = some_have (m ∷ ms) is

supported_has : (python : List ClauseFields) (environments : List Formula) → AreFormulas (formulas_of environments)
    → HasTree (is_supported python environments)
supported_has python environments is =
    both_have (meets_python python) (in_environments environments) (clauses_have python)
    (environments_have environments is)

pub truth_trees : TruthTrees
truth_trees = record {
  both = both_have;
  negated = negated_has;
  marker = marker_has;
  applied = λ q n is. with_has q n.extra is.marker;
  release = release_has;
  fit = fit_has;
  supported = supported_has;
}
