-- What the lines of a file of markers say, which are markers as those of locks (PEP 751).
use Rattle.std.specs.Prelude.{◌≡◌, ℕ, ◌+◌, List, [], ◌∷◌, All, codes, false, option_and_then, Option, Some, None, Result, Ok, Err, if◌then◌else◌}
use Rattle.std.specs.Str.{bytes_eq, is_utf8}
use Rattle.ul_comparison.specs.Formulas.{Formula, IsFormula, all, any, none}
use Rattle.ul_lines.specs.Lines.{lines_of}
use Rattle.ul_lines.specs.Pieces.{cut_end}
use Rattle.ul_marker.specs.Parts.{asks_extra}
use Rattle.ul_marker.specs.Reading.{locked_marker_of}

-- the marker that bytes spell, as one of a lock; bytes that are no text spell none
abbrev pub marker_of_bytes : List ℕ → Option Formula
marker_of_bytes bytes = if is_utf8 bytes then locked_marker_of bytes else None

-- what a text says: `*` is true everywhere, `never` nowhere, and any other text is that of a marker
unfoldable pub formula_of_text : List ℕ → Option Formula
formula_of_text text =
    if bytes_eq text (codes "*") then Some (all none)
    else (if bytes_eq text (codes "never") then Some (any none) else marker_of_bytes text)

-- what a line says, which ends in LF
abbrev pub formula_of_line : List ℕ → Option Formula
formula_of_line line = option_and_then formula_of_text (cut_end (codes "\n") line)

-- a formula before others, if those are there
abbrev pub onto_formulas : Formula → Result (List Formula) ℕ → Result (List Formula) ℕ
onto_formulas f (Ok fs) = Ok (f ∷ fs)
onto_formulas f (Err n) = Err n

-- the formula of line n before those of the lines behind it, or the number of the first line that says nothing
abbrev pub with_line : ℕ → Option Formula → Result (List Formula) ℕ → Result (List Formula) ℕ
with_line n None more = Err n
with_line n (Some f) more = onto_formulas f more

-- what lines say, of which the first is line n, or the number of the first that says nothing
unfoldable pub formulas_from : ℕ → List (List ℕ) → Result (List Formula) ℕ
formulas_from n [] = Ok []
formulas_from n (l ∷ ls) = with_line n (formula_of_line l) (formulas_from (n + 1) ls)

-- what the lines of a file say, or the number of the first that says nothing, from 1
abbrev pub formulas_of : List ℕ → Result (List Formula) ℕ
formulas_of bytes = formulas_from 1 (lines_of bytes)

-- a formula that a text can spell, and that asks for no extra
pub record IsPlain (f : Formula) : Type 0 where
  pub spelled : IsFormula f
  pub plain : asks_extra f ≡ false

-- each is such
abbrev pub ArePlain : List Formula → Type 0
ArePlain fs = All IsPlain fs
