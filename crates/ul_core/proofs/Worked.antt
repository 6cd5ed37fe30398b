-- The worked run, step by step.
use Rattle.std.proofs.Common.{◌≡◌, ℕ, zero, suc, ◌%◌, ◌<◌, [], ◌∷◌, Some, None, sym, refl, ap, ◌∙◌, subst, arith, lit<}
use Rattle.std.specs.List.{slice_get}
use Rattle.ul_core.specs.declared.trees.Tree.{Tree}
use Rattle.ul_core.specs.Trees.{Has}
use Rattle.ul_core.specs.Core.{Core, first_core, log_of, shard_of, Stands, IsPart}
use Rattle.ul_core.specs.Steps.{MayPublish, Runs}
use Rattle.ul_core.specs.Vectors.{leaf, pair, hash, itself, worked_events, worked_answers, worked_core}
use Rattle.ul_core.proofs.TreeParts.{hash-tree_with, label_same, parts_of_tree_with}

none_not : (t : Tree ℕ) → None ≡ Some t → ⊥
none_not t e = cc

some_is : (s t : Tree ℕ) → Some s ≡ Some t → s ≡ t
some_is s t e = cc

has_none : (t : Tree ℕ) → Has [] t → ⊥
has_none t h = got_none h.0 h.1
  where
    got_none : (i : ℕ) → slice_get [] i ≡ Some t → ⊥
    got_none zero e = none_not t e
    got_none (suc i) e = none_not t e

has_one : (x t : Tree ℕ) → Has (x ∷ []) t → x ≡ t
has_one x t h = got_one h.0 h.1
  where
    got_one : (i : ℕ) → slice_get (x ∷ []) i ≡ Some t → x ≡ t
    got_one zero e = some_is x t e
    got_one (suc i) e = absurd (has_none t (i, e))

-- a tree of two shards stands where its hash says
stands_in : (s : Core ℕ) (t : Tree ℕ) (k : ℕ) → shard_of itself s t ≡ k → Has (log_of s k) t → Stands itself s t
stands_in s t k e h = subst (λ j. Has (log_of s j) t) (sym e) h

stands_out : (s : Core ℕ) (t : Tree ℕ) (k : ℕ) → shard_of itself s t ≡ k → Stands itself s t → Has (log_of s k) t
stands_out s t k e h = subst (λ j. Has (log_of s j) t) e h

leaf_hash : (n : ℕ) → hash (leaf n) ≡ n
leaf_hash n = hash-tree_with itself n []

pair_hash : hash pair ≡ 6364136223846793014
pair_hash = simp hash-tree_with

no_part : (n : ℕ) (p : Tree ℕ) → IsPart p (leaf n) → ⊥
no_part n p h = has_none p (subst (λ ps. Has ps p) (parts_of_tree_with n []) h)

pair_part : (p : Tree ℕ) → IsPart p pair → leaf 8 ≡ p
pair_part p h = has_one (leaf 8) p (subst (λ ps. Has ps p) (parts_of_tree_with 1 (leaf 8 ∷ [])) h)

pair_has : IsPart (leaf 8) pair
pair_has = subst (λ ps. Has ps (leaf 8)) (sym (parts_of_tree_with 1 (leaf 8 ∷ []))) (0, refl)

-- the cores after the first tree, the first claim, and the part
abbrev core_1 : Core ℕ
core_1 = record { logs = [] ∷ (leaf 7 ∷ []) ∷ []; claims = 0 }

abbrev core_2 : Core ℕ
core_2 = record { logs = [] ∷ (leaf 7 ∷ []) ∷ []; claims = 1 }

abbrev core_3 : Core ℕ
core_3 = record { logs = (leaf 8 ∷ []) ∷ (leaf 7 ∷ []) ∷ []; claims = 1 }

abbrev core_4 : Core ℕ
core_4 = record { logs = (leaf 8 ∷ pair ∷ []) ∷ (leaf 7 ∷ []) ∷ []; claims = 1 }

halved : (m n : ℕ) → m ≡ n → m % 2 ≡ n % 2
halved m n e = ap (λ z. z % 2) e

publish_7 : MayPublish itself (first_core 2) 1 (leaf 7)
publish_7 = record {
  own = sym (halved _ 7 (leaf_hash 7));
  fresh = λ h. has_none _ (stands_out (first_core 2) (leaf 7) 1 (halved _ 7 (leaf_hash 7)) h);
  parts = λ p h. absurd (no_part 7 p h);
}

publish_8 : MayPublish itself core_2 0 (leaf 8)
publish_8 = record {
  own = sym (halved _ 8 (leaf_hash 8));
  fresh = λ h. has_none _ (stands_out core_2 (leaf 8) 0 (halved _ 8 (leaf_hash 8)) h);
  parts = λ p h. absurd (no_part 8 p h);
}

differ : (m n : ℕ) → n < m → m ≡ n → ⊥
differ m n l e = omega arith

publish_pair : MayPublish itself core_3 0 pair
publish_pair = record {
  own = sym (halved _ 6364136223846793014 pair_hash);
  fresh = λ h. differ 8 1 (lit< tt) (label_same 8 1 [] (leaf 8 ∷ []) _ _ refl refl (has_one (leaf 8) pair (stands_out core_3 pair 0 (halved _ 6364136223846793014 pair_hash) h)));
  parts = λ p h. subst (Stands itself core_3) (pair_part p h) (stands_in core_3 (leaf 8) 0 (halved _ 8 (leaf_hash 8)) (0, refl));
}

pub worked : Runs itself (first_core 2) worked_events worked_answers worked_core
worked = (
  core_1,
  (publish_7, refl, refl),
  (
    core_1,
    ((sym (halved _ 7 (leaf_hash 7)), stands_in core_1 (leaf 7) 1 (halved _ 7 (leaf_hash 7)) (0, refl)), refl),
    (
      core_1,
      ((λ e. differ 1 0 (lit< tt) (sym (e ∙ halved _ 9 (leaf_hash 9)))), refl),
      (
        core_2,
        (lit< tt, refl, refl),
        (
          core_2,
          (
            (
              sym (halved _ 6364136223846793014 pair_hash),
              (λ h. has_none _ (stands_out core_2 pair 0 (halved _ 6364136223846793014 pair_hash) h)),
              (leaf 8, pair_has, λ h. has_none _ (stands_out core_2 (leaf 8) 0 (halved _ 8 (leaf_hash 8)) h)),
            ),
            refl,
          ),
          (
            core_3,
            (publish_8, refl, refl),
            (
              core_4,
              (publish_pair, refl, refl),
              (worked_core, (lit< tt, refl, refl), refl),
            ),
          ),
        ),
      ),
    ),
  ),
)
