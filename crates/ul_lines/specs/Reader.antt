-- Reading a text line by line: a state goes on with each line, and says at the end what was read.
use Rattle.std.specs.Prelude.{◌≡◌, ℕ, ◌+◌, List, [], ◌∷◌, ◌++◌, map, flat_map, true, Option, Some, None, Result, Ok, Err, option_and_then}
use Rattle.ul_lines.specs.Lines.{lines_of, ends_line}

-- how a text is read: S are the states, L the lines, W what a text says
pub record Reader (S L W : Type 0) : Type 0 where
  pub start : S
  pub step : S → L → Option S
  pub final : S → Option W
  -- the line that stands in a text, and its bytes
  pub line_of : List ℕ → Option L
  pub spell : L → List ℕ

-- the state behind lines
abbrev pub run : {S L W : Type 0} → Reader S L W → S → List L → Option S
run r s [] = Some s
run r s (l ∷ ls) = option_and_then (λ t. run r t ls) (r.step s l)

-- the state behind a line that stands in a text
abbrev pub step_text : {S L W : Type 0} → Reader S L W → S → List ℕ → Option S
step_text r s text = option_and_then (r.step s) (r.line_of text)

-- the value, or the number of the line at which there is none
abbrev pub or_fault : {W : Type 0} → ℕ → Option W → Result W ℕ
or_fault n None = Err n
or_fault n (Some x) = Ok x

-- what is read behind a line
abbrev pub then_read : {S W : Type 0} → (S → Result W ℕ) → ℕ → Option S → Result W ℕ
then_read more n None = Err n
then_read more n (Some s) = more s

-- what lines say from a state on, of which the first is line n
unfoldable pub read_lines : {S L W : Type 0} → Reader S L W → ℕ → S → List (List ℕ) → Result W ℕ
read_lines r n s [] = or_fault n (r.final s)
read_lines r n s (l ∷ ls) = then_read (λ t. read_lines r (n + 1) t ls) n (step_text r s l)

-- what a text says, or the number of the first line that is wrong
unfoldable pub read_text : {S L W : Type 0} → Reader S L W → List ℕ → Result W ℕ
read_text r text = read_lines r 1 r.start (lines_of text)

-- each of them
abbrev pub Each : {A : Type 0} → (A → Type 0) → List A → Type 0
Each P [] = Unit {0}
Each P (x ∷ xs) = P x × Each P xs

-- these lines begin the lines of something that is shaped
pub record Begins {L W : Type 0} (Fit : L → Type 0) (lines : W → List L) (IsShaped : W → Type 0) (ls : List L) : Type 0 where
  pub more : List L
  pub whole : W
  pub shaped : IsShaped whole
  pub same : lines whole ≡ ls ++ more
  pub fit : Each Fit (lines whole)

-- the reader goes over these lines, and says this
pub record Accepts {S L W : Type 0} (r : Reader S L W) (ls : List L) (x : W) : Type 0 where
  pub last : S
  pub runs : run r r.start ls ≡ Some last
  pub ended : r.final last ≡ Some x

-- the reader reads exactly the lines of what is shaped: a line that fits is read from its bytes alone; what the
-- reader goes over begins something shaped; and where it ends, that is what was read
pub record IsReader {S L W : Type 0} (r : Reader S L W) (Fit : L → Type 0) (lines : W → List L) (IsShaped : W → Type 0) : Type 0 where
  pub takes : (text : List ℕ) (l : L) → r.line_of text ≡ Some l → (r.spell l ≡ text) × Fit l
  pub again : (l : L) → Fit l → r.line_of (r.spell l) ≡ Some l
  pub ends : (l : L) → Fit l → ends_line (r.spell l) ≡ true
  pub shaped : (ls : List L) (s : S) (x : W) → run r r.start ls ≡ Some s → r.final s ≡ Some x → IsShaped x × (lines x ≡ ls)
  pub begins : (ls : List L) (s : S) → Each Fit ls → run r r.start ls ≡ Some s → Begins Fit lines IsShaped ls
  pub accepts : (x : W) → IsShaped x → Accepts r (lines x) x

-- something shaped, whose lines can be spelled
pub record HasText {L W : Type 0} (Fit : L → Type 0) (lines : W → List L) (IsShaped : W → Type 0) (x : W) : Type 0 where
  pub shaped : IsShaped x
  pub fit : Each Fit (lines x)

-- its text
abbrev pub text_by : {L W : Type 0} → (L → List ℕ) → (W → List L) → W → List ℕ
text_by spell lines x = flat_map spell (lines x)

-- these are the lines of something that is right
abbrev pub AreLines : {L W : Type 0} → (L → List ℕ) → (W → List L) → (W → Type 0) → List (List ℕ) → Type 0
AreLines {W} spell lines IsRight ls = (x : W) × IsRight x × (map spell (lines x) ≡ ls)
