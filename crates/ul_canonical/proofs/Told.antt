-- What is answered.
use Rattle.std.proofs.Common.{◌≡◌, ◌<◌, ◌≤◌, ◌+◌, ◌∷◌, ◌++◌, ◌∙◌, ℕ, List, [], true, false, Global, Vec, get_or, length, map, take, drop, refl, sym, ap, subst, arith, append-nil, length-append, Result, Ok, Err}
use Rattle.std.specs.Prelude.{nat_le}
use Rattle.std.specs.List.{list_all}
use Rattle.std.proofs.lemmas.Bool.Decides.{nat_tests}
use Rattle.std.proofs.lemmas.Grind.{flat_map-append}
use Rattle.std.proofs.lemmas.List.{map-append, take_all, take_more, take-append-drop}
use Rattle.std.proofs.lemmas.List.Folds.{list_all-map}
use Rattle.ul_algebra.specs.Spelled.{tree_of}
use Rattle.ul_comparison.specs.Formulas.{Formula}
use Rattle.ul_load.specs.Counted.{has_too_many}
use Rattle.ul_lock_write.specs.TextLimit.{text_bytes}
use Rattle.ul_region.specs.Truths.{DiagramMark}
use Rattle.ul_tree.specs.Paths.{is_printable}
use Rattle.ul_canonical.specs.Answers.{ByCount, ByLines, IsCanonical, IsPrinted, Refusal, Tells, long_text, many_comparisons, many_paths, printed_trees, short_text, unread}
use Rattle.ul_canonical.specs.Lines.{formulas_of}
use Rattle.ul_canonical.specs.Reading.{ReadsLines}
use Rattle.ul_canonical.specs.Trees.{tree_line, trees_text}
use Rattle.ul_canonical.specs.declared.fault.CanonicalFault.{CanonicalFault}
use Rattle.ul_canonical.specs.declared.fault.CanonicalFault.TheVariants.{Line, TooManyComparisons, TooManyPaths, TooLong, NoMemory}

-- what is told by a weaker word
pub Tells-weaker : (A B : Result (List ℕ) Refusal → Type 0) → ((r : Result (List ℕ) Refusal) → A r → B r) → (x : Result (Vec ℕ Global) CanonicalFault) → Tells A x → Tells B x
Tells-weaker A B w (Ok v) a = w (Ok v.items) a
Tells-weaker A B w (Err (Line n)) a = w (Err (unread n)) a
Tells-weaker A B w (Err TooManyComparisons) a = w (Err many_comparisons) a
Tells-weaker A B w (Err TooManyPaths) a = w (Err many_paths) a
Tells-weaker A B w (Err TooLong) a = w (Err long_text) a
Tells-weaker A B w (Err NoMemory) a = tt

-- ---- lines that are written

-- the lines of diagrams
abbrev pub marks_text : List DiagramMark → List ℕ
marks_text ms = trees_text (map tree_of ms)

marks_append : (ms ns : List DiagramMark) → marks_text (ms ++ ns) ≡ marks_text ms ++ marks_text ns
marks_append ms ns = ap trees_text (map-append tree_of ms ns) ∙ flat_map-append tree_line (map tree_of ms) (map tree_of ns)

-- one line more
pub line_more : (ms : List DiagramMark) (i : ℕ) (m : DiagramMark) (before after : List ℕ) → i < length ms → m ≡ get_or ms i m → before ≡ marks_text (take i ms) → after ≡ before ++ tree_line (tree_of m) → after ≡ marks_text (take (i + 1) ms)
line_more ms i m before after lt is so_far more =
    let one : marks_text (take (i + 1) ms) ≡ marks_text (take i ms) ++ tree_line (tree_of m) =
    ap marks_text (take_more ms i m lt ∙ ap (λ (z : DiagramMark). take i ms ++ z ∷ []) (sym is)) ∙ (marks_append (take i ms) (m ∷ []) ∙ ap (λ z. marks_text (take i ms) ++ z) (append-nil (tree_line (tree_of m)))) in
    more ∙ (ap (λ z. z ++ tree_line (tree_of m)) so_far ∙ sym one)

short_is : (text : List ℕ) → length text ≤ text_bytes → Ok text ≡ short_text text
short_is text short = let yes : nat_le (length text) text_bytes ≡ true = grind (arith, nat_tests) in rw yes refl

long_is : (text : List ℕ) → text_bytes < length text → Err long_text ≡ short_text text
long_is text long = let no : nat_le (length text) text_bytes ≡ false = grind (arith, nat_tests) in rw no refl

-- all lines
pub lines_all : (ms : List DiagramMark) (i : ℕ) (text : List ℕ) → length ms ≤ i → text ≡ marks_text (take i ms) → length text ≤ text_bytes → Ok text ≡ short_text (marks_text ms)
lines_all ms i text past so_far short =
    let whole : text ≡ marks_text ms = so_far ∙ ap marks_text (take_all i ms past) in
    short_is text short ∙ ap short_text whole

-- the whole is no shorter than its front
pub lines_longer : (ms : List DiagramMark) (i : ℕ) (text : List ℕ) → text ≡ marks_text (take i ms) → text_bytes < length text → Err long_text ≡ short_text (marks_text ms)
lines_longer ms i text so_far long =
    let whole : marks_text ms ≡ marks_text (take i ms) ++ marks_text (drop i ms) = ap marks_text (sym (take-append-drop i ms)) ∙ marks_append (take i ms) (drop i ms) in
    long_is (marks_text ms) (omega (arith, long, ap length so_far, ap length whole, length-append (marks_text (take i ms)) (marks_text (drop i ms))))

-- a marker that isn't printed
pub not_printed : (ms : List DiagramMark) → list_all (λ m. is_printable (tree_of m)) ms ≡ false → Err many_paths ≡ printed_trees (map tree_of ms)
not_printed ms e = let no : list_all is_printable (map tree_of ms) ≡ false = list_all-map is_printable tree_of ms ∙ e in rw no refl

-- each marker is printed
pub all_printed : (ms : List DiagramMark) → list_all (λ m. is_printable (tree_of m)) ms ≡ true → (r : Result (List ℕ) Refusal) → r ≡ short_text (marks_text ms) → r ≡ printed_trees (map tree_of ms)
all_printed ms e r is = let yes : list_all is_printable (map tree_of ms) ≡ true = list_all-map is_printable tree_of ms ∙ e in rw yes is

-- ---- what is told of a file

-- a line that says nothing
pub fault_told : (bytes : List ℕ) (e : CanonicalFault) → ReadsLines bytes (Err e) → Tells (IsCanonical bytes) (Err e)
fault_told bytes (Line n) h = subst (λ r. ByLines r (Err (unread n))) (sym h) refl
fault_told bytes TooManyComparisons h = absurd h
fault_told bytes TooManyPaths h = absurd h
fault_told bytes TooLong h = absurd h
fault_told bytes NoMemory h = tt

-- too many comparisons
pub many_told : (bytes : List ℕ) (fs : List Formula) → formulas_of bytes ≡ Ok fs → has_too_many fs ≡ true → IsCanonical bytes (Err many_comparisons)
many_told bytes fs e many = subst (λ r. ByLines r (Err many_comparisons)) (sym e) (subst (λ b. ByCount b fs (Err many_comparisons)) (sym many) refl)

-- the text of what is read
pub text_told : (bytes : List ℕ) (fs : List Formula) → formulas_of bytes ≡ Ok fs → has_too_many fs ≡ false → (r : Result (List ℕ) Refusal) → IsPrinted fs r → IsCanonical bytes r
text_told bytes fs e few r is = subst (λ o. ByLines o r) (sym e) (subst (λ b. ByCount b fs r) (sym few) is)
