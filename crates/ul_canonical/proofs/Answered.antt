-- The bytes of a file have one answer.
use Rattle.std.proofs.Common.{◌≡◌, ◌∙◌, ◌∷◌, ℕ, suc, List, [], Bool, true, false, arith, refl, sym, ap, Result, Ok, Err}
use Rattle.ul_comparison.specs.Formulas.{Formula, IsFormula}
use Rattle.ul_lines.specs.Lines.{lines_of}
use Rattle.ul_load.specs.Counted.{has_too_many}
use Rattle.ul_nodes.specs.Plain.{Plain}
use Rattle.ul_tree.specs.Regions.{HasTruth}
use Rattle.ul_canonical.specs.Answers.{ByCount, ByLines, IsCanonical, IsPrinted, Refusal, many_comparisons, printed_trees, unread}
use Rattle.ul_canonical.specs.Lines.{ArePlain, formulas_of}
use Rattle.ul_canonical.specs.Trees.{AreTreesOf, formula_truth}
use Rattle.ul_canonical.proofs.TreeTexts.{truth_tree}
use Rattle.ul_canonical.proofs.Plain.{all_plain}

-- ---- at most one

trees_once : (fs : List Formula) (ts us : List Plain) → AreTreesOf fs ts → AreTreesOf fs us → ts ≡ us
trees_once [] [] [] a b = refl
trees_once [] [] (u ∷ us) a b = absurd b
trees_once [] (t ∷ ts) us a b = absurd a
trees_once (f ∷ fs) [] us a b = absurd a
trees_once (f ∷ fs) (t ∷ ts) [] a b = absurd b
trees_once (f ∷ fs) (t ∷ ts) (u ∷ us) a b =
    ap (λ z. z ∷ ts) (truth_tree f f t u a.0 b.0 (λ w is. refl)) ∙ ap (λ zs. u ∷ zs) (trees_once fs ts us a.1 b.1)

printed_once : (fs : List Formula) (r s : Result (List ℕ) Refusal) → IsPrinted fs r → IsPrinted fs s → r ≡ s
printed_once fs r s g h = g.is ∙ (ap printed_trees (trees_once fs g.trees h.trees g.are h.are) ∙ sym h.is)

count_once : (b : Bool) (fs : List Formula) (r s : Result (List ℕ) Refusal) → ByCount b fs r → ByCount b fs s → r ≡ s
count_once true fs r s g h = g ∙ sym h
count_once false fs r s g h = printed_once fs r s g h

lines_once : (o : Result (List Formula) ℕ) (r s : Result (List ℕ) Refusal) → ByLines o r → ByLines o s → r ≡ s
lines_once (Ok fs) r s g h = count_once (has_too_many fs) fs r s g h
lines_once (Err n) r s g h = g ∙ sym h

-- the bytes of a file have one answer at most
pub canonical_once : (bytes : List ℕ) (r s : Result (List ℕ) Refusal) → IsCanonical bytes r → IsCanonical bytes s → r ≡ s
canonical_once bytes r s g h = lines_once (formulas_of bytes) r s g h

-- ---- at least one

-- each formula that a text can spell has a tree
abbrev pub HaveTrees : Type 0
HaveTrees = (f : Formula) → IsFormula f → (t : Plain) × HasTruth t (formula_truth f)

trees_exist : HaveTrees → (fs : List Formula) → ArePlain fs → (ts : List Plain) × AreTreesOf fs ts
trees_exist trees [] a = ([], tt)
trees_exist trees (f ∷ fs) a =
    let first = trees f (a 0 f (omega arith)).spelled in
    let others = trees_exist trees fs (λ k d lt. a (suc k) d (omega arith)) in
    (first.0 ∷ others.0, (first.1, others.1))

by_count : HaveTrees → (b : Bool) (fs : List Formula) → ArePlain fs → (r : Result (List ℕ) Refusal) × ByCount b fs r
by_count trees true fs a = (Err many_comparisons, refl)
by_count trees false fs a = let found = trees_exist trees fs a in (printed_trees found.0, record { trees = found.0; are = found.1; is = refl })

by_lines : HaveTrees → (o : Result (List Formula) ℕ) → ((fs : List Formula) → o ≡ Ok fs → ArePlain fs) → (r : Result (List ℕ) Refusal) × ByLines o r
by_lines trees (Ok fs) plain = by_count trees (has_too_many fs) fs (plain fs refl)
by_lines trees (Err n) plain = (Err (unread n), refl)

-- the bytes of a file have an answer
pub canonical_exists : HaveTrees → (bytes : List ℕ) → (r : Result (List ℕ) Refusal) × IsCanonical bytes r
canonical_exists trees bytes = by_lines trees (formulas_of bytes) (all_plain 1 (lines_of bytes))
