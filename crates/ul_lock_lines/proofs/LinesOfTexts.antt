-- The line of a raw line is made of the values of its texts.
use Rattle.std.proofs.Common.{Option, Some, None, Result, IfOk, ◌≡◌, ◌∙◌, ap, sym, subst}
use Rattle.std.specs.Prelude.{option_map}
use Rattle.ul_lock_lines.specs.declared.lines.Line.{Line}
use Rattle.ul_lock_lines.specs.declared.lines.RawLine.{RawLine}
use Rattle.ul_lock_lines.specs.LineReading.{typed}

-- a text without a value makes no line
pub no_line : {A : Type 0} (line : A → Line) (raw spelt : RawLine) (found meant : Option A) → raw ≡ spelt → typed spelt ≡ option_map line meant → found ≡ None → found ≡ meant → None ≡ typed raw
no_line line raw spelt found meant is values none e = ap (option_map line) (sym none ∙ e) ∙ sym values ∙ sym (ap typed is)

-- a text with a value makes the line of the value
pub one_line : {A : Type 0} (line : A → Line) (raw spelt : RawLine) (found meant : Option A) (value : A) → raw ≡ spelt → typed spelt ≡ option_map line meant → found ≡ Some value → found ≡ meant → Some (line value) ≡ typed raw
one_line line raw spelt found meant value is values some e = ap (option_map line) (sym some ∙ e) ∙ sym values ∙ sym (ap typed is)

-- what is made of a raw line that is known
pub line_of_known : {E : Type 0} (raw spelt : RawLine) (made : Result (Option Line) E) → raw ≡ spelt → IfOk made (λ found. found ≡ typed spelt) → IfOk made (λ found. found ≡ typed raw)
line_of_known raw spelt made is p = subst (λ (r : RawLine). IfOk made (λ found. found ≡ typed r)) (sym is) p
