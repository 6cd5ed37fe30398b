-- Each marker has a reduced tree, whose truth at each world and extra is the marker's.
use Rattle.std.proofs.Common.{◌≡◌, ℕ, List, [], ◌∷◌, Bool, true, false, refl, ap₂, ◌∙◌}
use Rattle.std.specs.Prelude.{not, ◌&&◌, ◌||◌}
use Rattle.ul_base.specs.Names.{is_name}
use Rattle.ul_version.specs.Fields.{Fields, plain}
use Rattle.ul_specifier.specs.Clauses.{ClauseFields}
use Rattle.ul_specifier.specs.Meaning.{meets_clause}
use Rattle.ul_comparison.specs.Formulas.{Formula, extra, python, python_list, text, opaque, all, any, Formulas, none, more, IsFormula, AreFormulas, IsExtraLiteral}
use Rattle.ul_comparison.specs.Truth.{as_asked, equals_extra, equal_to, is_empty, is_listed, python_release, marker_holds, all_hold, any_holds}
use Rattle.ul_comparison.specs.Worlds.{WorldFields, IsWorld}
use Rattle.ul_nodes.specs.Apply.{both, either}
use Rattle.ul_nodes.specs.Levels.{extra_level, text_level, atom_level}
use Rattle.ul_nodes.specs.Plain.{Plain, truth}
use Rattle.ul_nodes.specs.Reduced.{IsReduced}
use Rattle.ul_tree.specs.Laws.{joined_by}
use Rattle.ul_tree.specs.Leaves.{point_tree}
use Rattle.ul_tree.specs.Pieces.{meets_at, starts_of, stepped_of}
use Rattle.ul_tree.specs.Values.{tree_holds}
use Rattle.ul_tree.proofs.Changes.{starts-climb}
use Rattle.ul_tree.proofs.ForCallers.{both_and, operations, extra_reduced, text_reduced, opaque_reduced, stepped_fits}
use Rattle.ul_tree.proofs.Leaves.{extra_holds, extra_key, opaque_holds, text_holds}
use Rattle.ul_tree.proofs.Stepped.{clause_holds}

-- some reduced tree has this truth at each world and extra
pub record TreeOf (p : WorldFields → List ℕ → Bool) : Type 0 where
  pub tree : Plain
  pub reduced : IsReduced tree
  pub truth : (w : WorldFields) (x : List ℕ) → IsWorld w → tree_holds tree w x ≡ p w x

-- ---- trees that are joined

always_tree : (b : Bool) → TreeOf (λ w x. b)
always_tree b = record { tree = truth b; reduced = tt; truth = λ w x is. refl }

-- trees are joined as their truths are
joined : (op : Bool → Bool → Bool) (p q r : WorldFields → List ℕ → Bool)
    → ((w : WorldFields) (x : List ℕ) → op (p w x) (q w x) ≡ r w x) → TreeOf p → TreeOf q → TreeOf r
joined op p q r same a b = record {
  tree = joined_by op a.tree b.tree;
  reduced = operations.join_reduced op a.tree b.tree a.reduced b.reduced;
  truth = λ w x is.
      operations.join_truth op a.tree b.tree a.reduced b.reduced w x
      ∙ ap₂ op (a.truth w x is) (b.truth w x is)
      ∙ same w x;
}

pub and_tree : (p q : WorldFields → List ℕ → Bool) → TreeOf p → TreeOf q → TreeOf (λ w x. p w x && q w x)
and_tree p q a b = joined both p q (λ w x. p w x && q w x) (λ w x. both_and (p w x) (q w x)) a b

either_or : (a b : Bool) → either a b ≡ (a || b)
either_or true b = refl
either_or false b = refl

pub or_tree : (p q : WorldFields → List ℕ → Bool) → TreeOf p → TreeOf q → TreeOf (λ w x. p w x || q w x)
or_tree p q a b = joined either p q (λ w x. p w x || q w x) (λ w x. either_or (p w x) (q w x)) a b

pub not_tree : (p : WorldFields → List ℕ → Bool) → TreeOf p → TreeOf (λ w x. not (p w x))
not_tree p a = joined (λ x y. not x) p (λ w x. false) (λ w x. not (p w x)) (λ w x. refl) a (always_tree false)

asked_tree : (asked : Bool) (p : WorldFields → List ℕ → Bool) → TreeOf p → TreeOf (λ w x. as_asked asked (p w x))
asked_tree true p a = a
asked_tree false p a = not_tree p a

-- ---- trees of comparisons

no_extra_equals : (literal x : List ℕ) (equal : Bool) → (is_empty literal || is_name literal) ≡ false
    → not equal ≡ as_asked equal (equals_extra literal x)
no_extra_equals literal x true h = rw h refl
no_extra_equals literal x false h = rw h refl

extra_tree : (literal : List ℕ) (equal : Bool) → IsExtraLiteral literal
    → TreeOf (λ w x. as_asked equal (equals_extra literal x))
extra_tree literal equal is = at (is_empty literal || is_name literal) refl
  where
    at : (b : Bool) → (is_empty literal || is_name literal) ≡ b
        → TreeOf (λ w x. as_asked equal (equals_extra literal x))
    at true may = record {
      tree = point_tree extra_level literal equal;
      reduced = extra_reduced literal equal (extra_key literal is may);
      truth = λ w x world. extra_holds literal equal w x may;
    }
    at false may = record {
      tree = truth (not equal);
      reduced = tt;
      truth = λ w x world. no_extra_equals literal x equal may;
    }

-- the interpreter's version meets a clause
pub clause_tree : (clause : ClauseFields) (full : Bool)
    → TreeOf (λ w x. meets_clause clause (plain (python_release full w)))
clause_tree clause full = record {
  tree = stepped_of (meets_at clause full 0) (starts_of clause full);
  reduced = stepped_fits (meets_at clause full 0) (starts_of clause full) (starts-climb clause full);
  truth = λ w x is. clause_holds clause full w x is;
}

listed_tree : (versions : List Fields) (full : Bool) → TreeOf (λ w x. is_listed versions (python_release full w))
listed_tree [] full = always_tree false
listed_tree (V ∷ versions) full =
    or_tree (λ w x. meets_clause (equal_to V) (plain (python_release full w)))
    (λ w x. is_listed versions (python_release full w)) (clause_tree (equal_to V) full) (listed_tree versions full)

-- ---- trees of markers

mutual
  pub marker_tree : (m : Formula) → IsFormula m → TreeOf (λ w x. marker_holds m w x)
  marker_tree (extra literal equal) is = extra_tree literal equal is
  marker_tree (python full clause) is = clause_tree clause full
  marker_tree (python_list full versions within) is =
      asked_tree within (λ w x. is_listed versions (python_release full w)) (listed_tree versions full)
  marker_tree (text variable literal equal) is = record {
    tree = point_tree (text_level variable) literal equal;
    reduced = text_reduced variable literal equal is.0 is.1;
    truth = λ w x world. text_holds variable literal equal w x;
  }
  marker_tree (opaque atom positive) is = record {
    tree = point_tree (atom_level atom) (1 ∷ []) positive;
    reduced = opaque_reduced atom positive is;
    truth = λ w x world. opaque_holds atom positive w x;
  }
  marker_tree (all fs) is = all_tree fs is
  marker_tree (any fs) is = any_tree fs is

  all_tree : (fs : Formulas) → AreFormulas fs → TreeOf (λ w x. all_hold fs w x)
  all_tree none is = always_tree true
  all_tree (more f fs) is =
      and_tree (λ w x. marker_holds f w x) (λ w x. all_hold fs w x) (marker_tree f is.0) (all_tree fs is.1)

  any_tree : (fs : Formulas) → AreFormulas fs → TreeOf (λ w x. any_holds fs w x)
  any_tree none is = always_tree false
  any_tree (more f fs) is =
      or_tree (λ w x. marker_holds f w x) (λ w x. any_holds fs w x) (marker_tree f is.0) (any_tree fs is.1)
