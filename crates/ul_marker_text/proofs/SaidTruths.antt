-- A tree's text, read as a marker, has the tree's truth.
use Rattle.std.proofs.Common.{◌≡◌, ℕ, zero, suc, ◌<◌, ◌^◌, List, [], ◌∷◌, map, Bool, true, false, not, ◌&&◌, ◌||◌, refl, ap, sym, ◌∙◌, subst, arith, Less, Equal, Greater, Ordering, Some, inl, inr}
use Rattle.std.specs.Prelude.{slice_index_or}
use Rattle.std.specs.List.{list_all}
use Rattle.std.specs.Ordering.{nat_cmp, is_lt, ordering_then}
use Rattle.std.specs.Str.{bytes_eq}
use Rattle.std.proofs.lemmas.Bool.{cases_order}
use Rattle.std.proofs.lemmas.Cmp.{nat_cmp_total, tied_itself}
use Rattle.std.proofs.lemmas.Map.Text.{is_eq-slice_cmp}
use Rattle.ul_base.specs.Names.{is_name}
use Rattle.ul_base.proofs.ForCallers.{name-is_name}
use Rattle.ul_version.specs.Fields.{plain}
use Rattle.ul_version.specs.Order.{padded_release, release_cmp, version_cmp}
use Rattle.ul_specifier.specs.Meaning.{meets_clause}
use Rattle.ul_comparison.specs.Atoms.{has_atom}
use Rattle.ul_comparison.specs.Formulas.{formulas_of}
use Rattle.ul_comparison.specs.Printed.{comparison_formula}
use Rattle.ul_marker.specs.PrintedPaths.{path_formula, paths_formula, paths_text}
use Rattle.ul_marker.specs.Reading.{printed_marker_of}
use Rattle.ul_comparison.specs.Truth.{marker_holds, all_hold, any_holds, as_asked, is_empty}
use Rattle.ul_comparison.specs.Worlds.{WorldFields, IsWorld}
use Rattle.ul_marker.proofs.ForCallers.{dialects_agree, paths-read}
use Rattle.ul_tree.specs.Comparisons.{Comparison, at_least, below, equals, differs, path_comparisons}
use Rattle.ul_nodes.specs.Levels.{IsKey, IsExtra, IsAtomLevel}
use Rattle.ul_tree.specs.PathList.{Step, paths_to_true}
use Rattle.ul_tree.specs.PathTruth.{is_before, comparison_holds, path_holds, some_path_holds}
use Rattle.ul_tree.specs.Pieces.{packed_number, major_of, minor_of, patch_of}
use Rattle.ul_nodes.specs.Plain.{Plain, truth, node, Branches, text_cmp, carries}
use Rattle.ul_nodes.specs.Reduced.{IsReduced}
use Rattle.ul_tree.specs.Sample.{atom_of}
use Rattle.ul_tree.specs.Values.{value_of, number_of, has_level, mark_of}
use Rattle.ul_nodes.proofs.ForCallers.{cmp_less, cmp_more}
use Rattle.ul_tree.proofs.ForCallers.{Each, number_back, level_back, turned, mark_eq, paths_truth}
use Rattle.ul_marker_text.specs.Headline.{IsNoTruth, ReadsAs}
use Rattle.ul_marker_text.specs.MarkerText.{marker_text, key_comparison, printed_form, printed_path, printed_paths}
use Rattle.ul_marker_text.proofs.Placed.{GoodComparison, variable_place}
use Rattle.ul_marker_text.proofs.StepsBack.{GoodRow}
use Rattle.ul_marker_text.proofs.TreeTexts.{node_paths, printed_all, paths_some}

-- ---- bounds of the interpreter

-- versions with a release alone are in the order of their releases
plain_cmp : (xs ys : List ℕ) → version_cmp (plain xs) (plain ys) ≡ release_cmp xs ys
unfolding version_cmp
plain_cmp xs ys = go (release_cmp xs ys)
  where
    go : (o : Ordering) → ordering_then o Equal ≡ o
    go Less = refl
    go Equal = refl
    go Greater = refl

numbers_order : (a b c d e f : ℕ) → b < 2 ^ 32 → c < 2 ^ 32 → e < 2 ^ 32 → f < 2 ^ 32
    → ordering_then (nat_cmp a d) (ordering_then (nat_cmp b e) (ordering_then (nat_cmp c f) Equal)) ≡ nat_cmp (packed_number a b c) (packed_number d e f)
numbers_order a b c d e f hb hc he hf = elim (cases_order a d) [
  | inl p ↦ subst (λ (z : ℕ). ordering_then (nat_cmp a z) (ordering_then (nat_cmp b e) (ordering_then (nat_cmp c f) Equal)) ≡ nat_cmp (packed_number a b c) (packed_number z e f)) p
      (ap (λ o. ordering_then o (ordering_then (nat_cmp b e) (ordering_then (nat_cmp c f) Equal))) (tied_itself nat_cmp_total a) ∙ second)
  | inr (inl p) ↦ ap (λ o. ordering_then o (ordering_then (nat_cmp b e) (ordering_then (nat_cmp c f) Equal))) (cmp_less a d p) ∙ sym (cmp_less (packed_number a b c) (packed_number d e f) (omega arith))
  | inr (inr p) ↦ ap (λ o. ordering_then o (ordering_then (nat_cmp b e) (ordering_then (nat_cmp c f) Equal))) (cmp_more a d p) ∙ sym (cmp_more (packed_number a b c) (packed_number d e f) (omega arith))
]
  where
    third : ordering_then (nat_cmp c f) Equal ≡ nat_cmp (packed_number a b c) (packed_number a b f)
    third = elim (cases_order c f) [
      | inl p ↦ subst (λ (z : ℕ). ordering_then (nat_cmp c z) Equal ≡ nat_cmp (packed_number a b c) (packed_number a b z)) p
          (ap (λ o. ordering_then o Equal) (tied_itself nat_cmp_total c) ∙ sym (tied_itself nat_cmp_total (packed_number a b c)))
      | inr (inl p) ↦ ap (λ o. ordering_then o Equal) (cmp_less c f p) ∙ sym (cmp_less (packed_number a b c) (packed_number a b f) (omega arith))
      | inr (inr p) ↦ ap (λ o. ordering_then o Equal) (cmp_more c f p) ∙ sym (cmp_more (packed_number a b c) (packed_number a b f) (omega arith))
    ]

    second : ordering_then (nat_cmp b e) (ordering_then (nat_cmp c f) Equal) ≡ nat_cmp (packed_number a b c) (packed_number a e f)
    second = elim (cases_order b e) [
      | inl p ↦ subst (λ (z : ℕ). ordering_then (nat_cmp b z) (ordering_then (nat_cmp c f) Equal) ≡ nat_cmp (packed_number a b c) (packed_number a z f)) p
          (ap (λ o. ordering_then o (ordering_then (nat_cmp c f) Equal)) (tied_itself nat_cmp_total b) ∙ third)
      | inr (inl p) ↦ ap (λ o. ordering_then o (ordering_then (nat_cmp c f) Equal)) (cmp_less b e p) ∙ sym (cmp_less (packed_number a b c) (packed_number a e f) (omega arith))
      | inr (inr p) ↦ ap (λ o. ordering_then o (ordering_then (nat_cmp c f) Equal)) (cmp_more b e p) ∙ sym (cmp_more (packed_number a b c) (packed_number a e f) (omega arith))
    ]

three_cmp : (a b c d e f : ℕ) → b < 2 ^ 32 → c < 2 ^ 32 → e < 2 ^ 32 → f < 2 ^ 32 → release_cmp (a ∷ b ∷ c ∷ []) (d ∷ e ∷ f ∷ []) ≡ nat_cmp (packed_number a b c) (packed_number d e f)
unfolding release_cmp padded_release
three_cmp a b c d e f hb hc he hf = numbers_order a b c d e f hb hc he hf

before_lt : (o : Ordering) → is_before (ordering_then o Equal) ≡ is_lt o
before_lt Less = refl
before_lt Equal = refl
before_lt Greater = refl

and_true : (b : Bool) → (b && true) ≡ b
and_true true = refl
and_true false = refl

or_false : (b : Bool) → (b || false) ≡ b
or_false true = refl
or_false false = refl

-- an interpreter is before a number
python_before : (w : WorldFields) (n : ℕ) → IsWorld w → n < 2 ^ 96 → is_lt (version_cmp (plain (w.major ∷ w.minor ∷ w.patch ∷ [])) (plain (major_of n ∷ minor_of n ∷ patch_of n ∷ []))) ≡ is_before (text_cmp (number_of w ∷ []) (n ∷ []))
python_before w n h low =
    ap is_lt (plain_cmp _ _ ∙ three_cmp w.major w.minor w.patch (major_of n) (minor_of n) (patch_of n) h.minor h.patch (omega arith) (omega arith) ∙ ap (nat_cmp (number_of w)) (number_back n low))
    ∙ sym (before_lt (nat_cmp (number_of w) n))

lower_said : (w : WorldFields) (x : List ℕ) (n : ℕ) → IsWorld w → n < 2 ^ 96 → marker_holds (comparison_formula (printed_form (at_least n))) w x ≡ comparison_holds (value_of w x) (at_least n)
unfolding meets_clause
lower_said w x n h low = ap not (python_before w n h low)

upper_said : (w : WorldFields) (x : List ℕ) (n : ℕ) → IsWorld w → n < 2 ^ 96 → marker_holds (comparison_formula (printed_form (below n))) w x ≡ comparison_holds (value_of w x) (below n)
unfolding meets_clause
upper_said w x n h low = and_true _ ∙ python_before w n h low

-- ---- keys

bytes_turned : (a b : List ℕ) → bytes_eq a b ≡ bytes_eq b a
bytes_turned a b = sym (is_eq-slice_cmp a b) ∙ turned a b ∙ is_eq-slice_cmp b a

pub extra_may : (k : List ℕ) → IsExtra k → (is_empty k || is_name k) ≡ true
extra_may [] h = refl
extra_may (b ∷ k) (inl e) = absurd cc
extra_may (b ∷ k) (inr e) = name-is_name (b ∷ k) (b ∷ k) e

-- what is said of a key, by whether it is the level's
abbrev key_said : WorldFields → List ℕ → List ℕ → List ℕ → Bool → Type 0
key_said w x l k equal = marker_holds (comparison_formula (key_comparison equal l k)) w x ≡ as_asked equal (bytes_eq (value_of w x l) k)

atom_said : (w : WorldFields) (l : List ℕ) → IsAtomLevel l → has_atom w.truths (atom_of l) ≡ bytes_eq (mark_of (has_level w.truths l)) (1 ∷ [])
atom_said w l h =
    ap (has_level w.truths) (level_back l h) ∙ sym (mark_eq (has_level w.truths l)) ∙ is_eq-slice_cmp (mark_of (has_level w.truths l)) (1 ∷ [])

key_truth : (w : WorldFields) (x l k : List ℕ) (equal : Bool) → carries l ≡ false → IsKey l k → key_said w x l k equal
key_truth w x [] k equal m h = absurd h
key_truth w x (zero ∷ []) k equal m h = ap (as_asked equal) (ap (λ b. b && bytes_eq k x) (extra_may k h) ∙ bytes_turned k x)
key_truth w x (suc zero ∷ []) k equal m h = let q : true ≡ false = m in absurd cc
key_truth w x (suc (suc i) ∷ []) k equal m h = ap (λ n. as_asked equal (bytes_eq (slice_index_or w.texts n []) k)) (variable_place i h.0)
key_truth w x (a ∷ b ∷ rest) k equal m h =
    ap (as_asked equal) (atom_said w (a ∷ b ∷ rest) h.0 ∙ ap (bytes_eq (mark_of (has_level w.truths (a ∷ b ∷ rest)))) (sym h.1))

-- what a printed comparison says holds where the comparison does
pub said_truth : (w : WorldFields) (x : List ℕ) (c : Comparison) → IsWorld w → GoodComparison c → marker_holds (comparison_formula (printed_form c)) w x ≡ comparison_holds (value_of w x) c
said_truth w x (at_least n) h g = lower_said w x n h g.1
said_truth w x (below n) h g = upper_said w x n h g.1
said_truth w x (equals l k) h g = key_truth w x l k true g.0 g.1
said_truth w x (differs l k) h g = key_truth w x l k false g.0 g.1

-- ---- paths

row_all : (w : WorldFields) (x : List ℕ) (cs : List Comparison) → IsWorld w → Each GoodComparison cs → all_hold (formulas_of (map comparison_formula (map printed_form cs))) w x ≡ list_all (comparison_holds (value_of w x)) cs
row_all w x [] h g = refl
row_all w x (c ∷ cs) h g =
    ap (λ b. b && all_hold (formulas_of (map comparison_formula (map printed_form cs))) w x) (said_truth w x c h g.0)
    ∙ ap (λ b. comparison_holds (value_of w x) c && b) (row_all w x cs h g.1)

row_truth : (w : WorldFields) (x : List ℕ) (cs : List Comparison) → IsWorld w → Each GoodComparison cs → marker_holds (path_formula (map printed_form cs)) w x ≡ list_all (comparison_holds (value_of w x)) cs
row_truth w x [] h g = refl
row_truth w x (c ∷ []) h g = said_truth w x c h g.0 ∙ sym (and_true (comparison_holds (value_of w x) c))
row_truth w x (c ∷ d ∷ cs) h g = row_all w x (c ∷ d ∷ cs) h g

rows_any : (w : WorldFields) (x : List ℕ) (ps : List (List Step)) → IsWorld w → Each (λ p. GoodRow (path_comparisons p)) ps → any_holds (formulas_of (map path_formula (map printed_path ps))) w x ≡ some_path_holds (value_of w x) ps
rows_any w x [] h g = refl
rows_any w x (p ∷ ps) h g =
    ap (λ b. b || any_holds (formulas_of (map path_formula (map printed_path ps))) w x) (row_truth w x (path_comparisons p) h (g.0).1)
    ∙ ap (λ b. path_holds (value_of w x) p || b) (rows_any w x ps h g.1)

-- what printed paths say holds where some path does
pub rows_truth : (w : WorldFields) (x : List ℕ) (ps : List (List Step)) → IsWorld w → Each (λ p. GoodRow (path_comparisons p)) ps → marker_holds (paths_formula (map printed_path ps)) w x ≡ some_path_holds (value_of w x) ps
rows_truth w x [] h g = refl
rows_truth w x (p ∷ []) h g = row_truth w x (path_comparisons p) h ((g.0).1) ∙ sym (or_false (path_holds (value_of w x) p))
rows_truth w x (p ∷ q ∷ ps) h g = rows_any w x (p ∷ q ∷ ps) h g

-- ---- the text

node_text : (l : List ℕ) (d : Plain) (bs : Branches) → marker_text (node l d bs) ≡ paths_text (printed_paths (node l d bs))
unfolding marker_text
node_text l d bs = refl

-- a node's text is read as what its paths say
pub node_reads : (l : List ℕ) (d : Plain) (bs : Branches) → IsReduced (node l d bs) → printed_marker_of (marker_text (node l d bs)) ≡ Some (paths_formula (printed_paths (node l d bs)))
node_reads l d bs h =
    let n = node_paths l d bs h in
    let ps = paths_to_true (node l d bs) in
    ap printed_marker_of (node_text l d bs) ∙ paths-read (map printed_path ps) (paths_some ps n.some) (printed_all ps n.rows)

-- with the tree's truth
pub text_reads : (t : Plain) → IsReduced t → IsNoTruth t → ReadsAs (marker_text t) t
text_reads (truth b) h n = absurd (n b refl)
text_reads (node l d bs) h n = record {
  formula = paths_formula (printed_paths (node l d bs));
  read = node_reads l d bs h;
  document = λ n. (dialects_agree.document (marker_text (node l d bs)) (paths_formula (printed_paths (node l d bs)))).1 (node_reads l d bs h, n);
  truth = λ w x i. rows_truth w x (paths_to_true (node l d bs)) i (node_paths l d bs h).rows ∙ sym (paths_truth (node l d bs) h w x);
}
