-- Worked examples of pieces and lines.
use Rattle.std.specs.Prelude.{◌≡◌, [], ◌∷◌, ◌++◌, codes, Some, None}
use Rattle.ul_lines.specs.Pieces.{strip, until, inside, inner_and_rest, optional_part}
use Rattle.ul_lines.specs.Lines.{lines_of}

-- a front, a byte and an end are found where they stand
pub record PieceExamples : Type 0 where
  pub front : strip (codes "= ") (codes "= [") ≡ Some (codes "[")
  pub other_front : strip (codes "= ") (codes "=[") ≡ None
  pub stop : until 32 (codes "key = 1") ≡ Some (codes "key", codes "= 1")
  pub no_stop : until 32 (codes "key=1") ≡ None
  pub between : inside (codes "(") (codes ")") (codes "(a)b)") ≡ Some (codes "a)b")
  pub nothing_between : inside (codes "(") (codes ")") (codes "()") ≡ Some []
  pub too_short : inside (codes "ab") (codes "bc") (codes "abc") ≡ None
  pub first_stop : inner_and_rest (codes "'") 39 (codes "'a'b'") ≡ Some (codes "a", codes "b'")
  pub part : optional_part (codes ",") 59 (codes ",a;b") ≡ Some (Some (codes "a"), codes "b")
  pub no_part : optional_part (codes ",") 59 (codes "a;b") ≡ Some (None, codes "a;b")
  pub open_part : optional_part (codes ",") 59 (codes ",a") ≡ None

-- each line has its LF, and the last may have none
pub record LineExamples : Type 0 where
  pub none : lines_of [] ≡ []
  pub empty_line : lines_of (10 ∷ []) ≡ (10 ∷ []) ∷ []
  pub ended : lines_of (codes "a" ++ 10 ∷ 10 ∷ codes "bc" ++ 10 ∷ []) ≡ (codes "a" ++ 10 ∷ []) ∷ (10 ∷ []) ∷ (codes "bc" ++ 10 ∷ []) ∷ []
  pub not_ended : lines_of (codes "a" ++ 10 ∷ codes "b") ≡ (codes "a" ++ 10 ∷ []) ∷ codes "b" ∷ []
