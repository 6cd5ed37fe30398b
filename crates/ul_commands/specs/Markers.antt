-- What `marker` answers: the canonical texts of a file's markers.
use Rattle.std.specs.Prelude.{◌≡◌, ℕ, List, ◌++◌, codes, Option, Some, None, Result, Ok, Err}
use Rattle.std.specs.Fmt.{decimal}
use Rattle.ul_load.specs.Loading.{most_comparisons}
use Rattle.ul_canonical.specs.Answers.{IsCanonical, Refusal, unread, many_comparisons, many_paths, long_text}
use Rattle.ul_canonical.specs.declared.fault.CanonicalFault.{CanonicalFault}
use Rattle.ul_canonical.specs.declared.fault.CanonicalFault.TheVariants.{Line, TooManyComparisons, TooManyPaths, TooLong, NoMemory}
use Rattle.ul_inputs.specs.Inputs.{Input, ◌>>=◌, answer, small_file}
use Rattle.ul_inputs.specs.Refused.{Refused, malformed, limit}
use Rattle.ul_answers.specs.Answer as answers
use Rattle.ul_answers.specs.Limits.{Limit, marker_paths, printed_bytes}

-- the input passes a limit
abbrev pub passes : Limit → Refused
passes l = limit l.0 l.1

-- how many different opaque comparisons a file of markers has
abbrev pub comparisons : Limit
comparisons = (codes "comparisons", most_comparisons)

-- why a file of markers is refused
abbrev pub refused_for : (path : List ℕ) → Refusal → Refused
refused_for path (unread n) = malformed path (codes "line " ++ decimal n)
refused_for path many_comparisons = passes comparisons
refused_for path many_paths = passes marker_paths
refused_for path long_text = passes printed_bytes

-- what a fault of the code says, if it isn't want of memory
abbrev pub refused_fault : (path : List ℕ) → CanonicalFault → Option Refused
refused_fault path (Line n) = Some (refused_for path (unread n))
refused_fault path TooManyComparisons = Some (refused_for path many_comparisons)
refused_fault path TooManyPaths = Some (refused_for path many_paths)
refused_fault path TooLong = Some (refused_for path long_text)
refused_fault path NoMemory = None

-- the answer that tells the texts, or why there are none
abbrev pub answer_of : (path : List ℕ) → Result (List ℕ) Refusal → Result answers.Answer Refused
answer_of path (Ok text) = Ok (answers.canonical text)
answer_of path (Err e) = Err (refused_for path e)

-- the answer of `marker` to the bytes of the file at a path
pub record IsMarkerAnswer (path bytes : List ℕ) (a : Result answers.Answer Refused) : Type 0 where
  pub texts : Result (List ℕ) Refusal
  pub canonical : IsCanonical bytes texts
  pub is : a ≡ answer_of path texts

-- the answer of `marker` to the file at a path
abbrev pub markers_at : List ℕ → Input answers.Answer
markers_at path = small_file path >>= λ bytes. answer (IsMarkerAnswer path bytes)
