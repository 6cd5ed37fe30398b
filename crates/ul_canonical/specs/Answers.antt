-- The canonical texts of a file's markers, or why they aren't told.
use Rattle.std.specs.Prelude.{◌≡◌, ℕ, List, Bool, true, false, length, nat_le, Result, Ok, Err, Vec, if◌then◌else◌}
use Rattle.std.specs.List.{list_all}
use Rattle.std.specs.declared.alloc.Global.{Global}
use Rattle.ul_comparison.specs.Formulas.{Formula}
use Rattle.ul_load.specs.Counted.{has_too_many}
use Rattle.ul_lock_write.specs.TextLimit.{text_bytes}
use Rattle.ul_nodes.specs.Plain.{Plain}
use Rattle.ul_tree.specs.Paths.{is_printable}
use Rattle.ul_canonical.specs.Lines.{formulas_of}
use Rattle.ul_canonical.specs.Trees.{AreTreesOf, trees_text}
use Rattle.ul_canonical.specs.declared.fault.CanonicalFault.{CanonicalFault}
use Rattle.ul_canonical.specs.declared.fault.CanonicalFault.TheVariants.{Line, TooManyComparisons, TooManyPaths, TooLong, NoMemory}

-- why there is no text: a line, from 1, that says nothing; the file's different opaque comparisons are too many; a
-- marker isn't printed, with too many paths to true or too many nodes on one; or the text is too long
pub data Refusal : Type 0 where
  unread : (line : ℕ) → Refusal
  many_comparisons : Refusal
  many_paths : Refusal
  long_text : Refusal

-- a text within the limit
abbrev pub short_text : List ℕ → Result (List ℕ) Refusal
short_text text = if nat_le (length text) text_bytes then Ok text else Err long_text

-- the lines of trees, where each is printed and they aren't too long
abbrev pub printed_trees : List Plain → Result (List ℕ) Refusal
printed_trees ts = if list_all is_printable ts then short_text (trees_text ts) else Err many_paths

-- what is printed for the trees of formulas
pub record IsPrinted (fs : List Formula) (r : Result (List ℕ) Refusal) : Type 0 where
  pub trees : List Plain
  pub are : AreTreesOf fs trees
  pub is : r ≡ printed_trees trees

-- the answer to formulas, by whether their comparisons are too many
abbrev pub ByCount : Bool → List Formula → Result (List ℕ) Refusal → Type 0
ByCount true fs r = r ≡ Err many_comparisons
ByCount false fs r = IsPrinted fs r

-- the answer to what lines say
abbrev pub ByLines : Result (List Formula) ℕ → Result (List ℕ) Refusal → Type 0
ByLines (Ok fs) r = ByCount (has_too_many fs) fs r
ByLines (Err n) r = r ≡ Err (unread n)

-- the canonical texts of a file's markers, line by line, or why they aren't told
abbrev pub IsCanonical : List ℕ → Result (List ℕ) Refusal → Type 0
IsCanonical bytes r = ByLines (formulas_of bytes) r

-- what the code answers is such, unless memory ran out
abbrev pub Tells : (Result (List ℕ) Refusal → Type 0) → Result (Vec ℕ Global) CanonicalFault → Type 0
Tells Is (Ok v) = Is (Ok v.items)
Tells Is (Err (Line n)) = Is (Err (unread n))
Tells Is (Err TooManyComparisons) = Is (Err many_comparisons)
Tells Is (Err TooManyPaths) = Is (Err many_paths)
Tells Is (Err TooLong) = Is (Err long_text)
Tells Is (Err NoMemory) = Unit {0}
