-- Reading whole texts: what is read, and which line is wrong.
use Rattle.std.proofs.Common.{◌≡◌, ℕ, suc, ◌+◌, length, List, [], ◌∷◌, ◌++◌, map, refl, sym, ap, subst, ◌∙◌, append_assoc, arith, Option, Some, None, Result, Ok, Err}
use Rattle.std.specs.Prelude.{option_and_then, flat_map}
use Rattle.std.proofs.lemmas.List.{append-nil, map-append, length-append}
use Rattle.ul_lines.specs.Lines.{lines_of}
use Rattle.ul_lines.specs.Faults.{IsFront, IsFault}
use Rattle.ul_lines.specs.Reader.{Reader, run, step_text, or_fault, then_read, read_lines, read_text, Each, IsReader, HasText, text_by, AreLines}
use Rattle.ul_lines.proofs.LinePieces.{some_is}
use Rattle.ul_lines.proofs.TextLines.{lines_cut, lines_nil, joined, joined_lines, joined_spelt}

-- ---- lists of which each element has a property

pub Each-join : {A : Type 0} (P : A → Type 0) (xs ys : List A) → Each P xs → Each P ys → Each P (xs ++ ys)
Each-join P [] ys h k = k
Each-join P (x ∷ xs) ys h k = (h.0, Each-join P xs ys h.1 k)

pub Each-snoc : {A : Type 0} (P : A → Type 0) (xs : List A) (y : A) → Each P xs → P y → Each P (xs ++ y ∷ [])
Each-snoc P [] y r t = (t, tt)
Each-snoc P (x ∷ xs) y r t = (r.0, Each-snoc P xs y r.1 t)

pub Each-left : {A : Type 0} (P : A → Type 0) (xs ys : List A) → Each P (xs ++ ys) → Each P xs
Each-left P [] ys h = tt
Each-left P (x ∷ xs) ys h = (h.0, Each-left P xs ys h.1)

pub Each-right : {A : Type 0} (P : A → Type 0) (xs ys : List A) → Each P (xs ++ ys) → Each P ys
Each-right P [] ys h = h
Each-right P (x ∷ xs) ys h = Each-right P xs ys h.1

pub Each-weaker : {A : Type 0} (P Q : A → Type 0) → ((x : A) → P x → Q x) → (xs : List A) → Each P xs → Each Q xs
Each-weaker P Q w [] h = tt
Each-weaker P Q w (x ∷ xs) h = (w x h.0, Each-weaker P Q w xs h.1)

-- ---- answers of a step

or_fault_ok : {W : Type 0} (n : ℕ) (o : Option W) (x : W) → or_fault n o ≡ Ok x → o ≡ Some x
or_fault_ok n None x e = absurd cc
or_fault_ok n (Some y) x e = let q : y ≡ x = cc in ap (λ z. Some z) q

or_fault_err : {W : Type 0} (n k : ℕ) (o : Option W) → or_fault n o ≡ Err k → (o ≡ None) × (n ≡ k)
or_fault_err n k None e = let q : n ≡ k = cc in (refl, q)
or_fault_err n k (Some y) e = absurd cc

then_ok : {S W : Type 0} (more : S → Result W ℕ) (n : ℕ) (o : Option S) (x : W) → then_read more n o ≡ Ok x → (u : S) × (o ≡ Some u) × (more u ≡ Ok x)
then_ok more n None x e = absurd cc
then_ok more n (Some u) x e = (u, refl, e)

abbrev ok : {W : Type 0} → W → Result W ℕ
ok x = Ok x

ok_is : {W : Type 0} (x y : W) → ok x ≡ ok y → x ≡ y
ok_is x y e = cc

no_ok : {W : Type 0} (n : ℕ) (x : W) → Err n ≡ Ok x → ⊥
no_ok n x e = cc

-- ---- running over lines

append_by : {S L W : Type 0} (r : Reader S L W) (xs ys : List L) → ((t : S) → run r t (xs ++ ys) ≡ option_and_then (λ u. run r u ys) (run r t xs)) → (o : Option S)
    → option_and_then (λ t. run r t (xs ++ ys)) o ≡ option_and_then (λ t. run r t ys) (option_and_then (λ t. run r t xs) o)
append_by r xs ys again None = refl
append_by r xs ys again (Some t) = again t

pub run_append : {S L W : Type 0} (r : Reader S L W) (s : S) (xs ys : List L) → run r s (xs ++ ys) ≡ option_and_then (λ t. run r t ys) (run r s xs)
run_append r s [] ys = refl
run_append r s (l ∷ xs) ys = append_by r xs ys (λ t. run_append r t xs ys) (r.step s l)

pub run_then : {S L W : Type 0} (r : Reader S L W) (s : S) (xs ys : List L) (t u : S) → run r s xs ≡ Some t → run r t ys ≡ Some u → run r s (xs ++ ys) ≡ Some u
run_then r s xs ys t u e f = run_append r s xs ys ∙ (ap (λ o. option_and_then (λ w. run r w ys) o) e ∙ f)

pub run_one : {S L W : Type 0} (r : Reader S L W) (s : S) (l : L) (ls : List L) (t u : S) → r.step s l ≡ Some t → run r t ls ≡ Some u → run r s (l ∷ ls) ≡ Some u
run_one r s l ls t u e f = ap (λ o. option_and_then (λ w. run r w ls) o) e ∙ f

run_end : {S L W : Type 0} (r : Reader S L W) (ls : List L) (s u : S) (l : L) → run r r.start ls ≡ Some s → r.step s l ≡ Some u → run r r.start (ls ++ l ∷ []) ≡ Some u
run_end r ls s u l e f = run_then r r.start ls (l ∷ []) s u e (run_one r s l [] u u f refl)

-- ---- as a program goes over a text

pub reads_on : {S L W : Type 0} (r : Reader S L W) (n : ℕ) (s t : S) (rest text after : List ℕ) (all : Result W ℕ) → lines_of rest ≡ text ∷ lines_of after → Some t ≡ step_text r s text → read_lines r n s (lines_of rest) ≡ all → read_lines r (n + 1) t (lines_of after) ≡ all
unfolding read_lines
reads_on r n s t rest text after all e f g = ap (then_read (λ u. read_lines r (n + 1) u (lines_of after)) n) f ∙ (ap (read_lines r n s) (sym e) ∙ g)

pub reads_wrong : {S L W : Type 0} (r : Reader S L W) (n : ℕ) (s : S) (rest text after : List ℕ) (all : Result W ℕ) → lines_of rest ≡ text ∷ lines_of after → None ≡ step_text r s text → read_lines r n s (lines_of rest) ≡ all → all ≡ Err n
unfolding read_lines
reads_wrong r n s rest text after all e f g = sym g ∙ (ap (read_lines r n s) e ∙ ap (then_read (λ u. read_lines r (n + 1) u (lines_of after)) n) (sym f))

pub reads_end : {S L W : Type 0} (r : Reader S L W) (n : ℕ) (s : S) (rest : List ℕ) (all : Result W ℕ) → length rest ≡ 0 → read_lines r n s (lines_of rest) ≡ all → all ≡ or_fault n (r.final s)
unfolding read_lines lines_of
reads_end r n s [] all h g = sym g
reads_end r n s (x ∷ rest) all h g = absurd (omega arith)

pub read_start : {S L W : Type 0} (r : Reader S L W) (bytes : List ℕ) → read_lines r 1 r.start (lines_of bytes) ≡ read_text r bytes
unfolding read_text
read_start r bytes = refl

-- ---- exactly the lines of what is shaped

-- the lines of a shaped text
abbrev pub Right : {S L W : Type 0} → Reader S L W → (L → Type 0) → (W → List L) → (W → Type 0) → List (List ℕ) → Type 0
Right r Fit lines IsShaped ls = AreLines r.spell lines (HasText Fit lines IsShaped) ls

-- lines that a reader went over to an end
record Ran {S L W : Type 0} (r : Reader S L W) (Fit : L → Type 0) (s : S) (ls : List (List ℕ)) (x : W) : Type 0 where
  lines : List L
  last : S
  fit : Each Fit lines
  runs : run r s lines ≡ Some last
  ended : r.final last ≡ Some x
  spelt : map r.spell lines ≡ ls

-- a line with which the state goes on
record Stepped {S L W : Type 0} (r : Reader S L W) (Fit : L → Type 0) (s : S) (l : List ℕ) (u : S) : Type 0 where
  line : L
  fit : Fit line
  spelt : r.spell line ≡ l
  steps : r.step s line ≡ Some u

module _ {S L W : Type 0} (r : Reader S L W) (Fit : L → Type 0) (lines : W → List L) (IsShaped : W → Type 0) (laws : IsReader r Fit lines IsShaped) where
  read_by : (n : ℕ) (o : Option S) (ls : List L) (rest : List (List ℕ)) (t : S)
      → ((u : S) → run r u ls ≡ Some t → read_lines r (n + 1) u (map r.spell ls ++ rest) ≡ read_lines r (n + 1 + length ls) t rest)
      → option_and_then (λ u. run r u ls) o ≡ Some t
      → then_read (λ u. read_lines r (n + 1) u (map r.spell ls ++ rest)) n o ≡ read_lines r (n + 1 + length ls) t rest
  read_by n None ls rest t again e = absurd cc
  read_by n (Some u) ls rest t again e = again u e

  -- lines that are gone over are read
  read_runs : (n : ℕ) (s : S) (ls : List L) (rest : List (List ℕ)) (t : S) → Each Fit ls → run r s ls ≡ Some t
      → read_lines r n s (map r.spell ls ++ rest) ≡ read_lines r (n + length ls) t rest
  unfolding read_lines
  read_runs n s [] rest t k e =
      let q : s ≡ t = some_is s t e in
      let z : n ≡ n + 0 = omega arith in
      ap (λ u. read_lines r n u rest) q ∙ ap (λ m. read_lines r m t rest) z
  read_runs n s (l ∷ ls) rest t k e =
      let z : n + 1 + length ls ≡ n + suc (length ls) = omega arith in
      ap (λ o. then_read (λ u. read_lines r (n + 1) u (map r.spell ls ++ rest)) n (option_and_then (r.step s) o)) (laws.again l k.0)
      ∙ (read_by n (r.step s l) ls rest t (λ u f. read_runs (n + 1) u ls rest t k.1 f) e
      ∙ ap (λ m. read_lines r m t rest) z)

  stepped_by : (s : S) (l : List ℕ) (o : Option L) (u : S) → r.line_of l ≡ o → option_and_then (r.step s) o ≡ Some u → Stepped r Fit s l u
  stepped_by s l None u q e = absurd cc
  stepped_by s l (Some t) u q e = let k = laws.takes l t q in record { line = t; fit = k.1; spelt = k.0; steps = e }

  stepped : (s : S) (l : List ℕ) (u : S) → step_text r s l ≡ Some u → Stepped r Fit s l u
  stepped s l u e = stepped_by s l (r.line_of l) u refl e

  ran : (n : ℕ) (s : S) (ls : List (List ℕ)) (x : W) → read_lines r n s ls ≡ Ok x → Ran r Fit s ls x
  unfolding read_lines
  ran n s [] x e = record { lines = []; last = s; fit = tt; runs = refl; ended = or_fault_ok n (r.final s) x e; spelt = refl }
  ran n s (l ∷ ls) x e =
      let a = then_ok (λ t. read_lines r (n + 1) t ls) n (step_text r s l) x e in
      let b = stepped s l a.0 a.1 in
      let m = ran (n + 1) a.0 ls x a.2 in
      record { lines = b.line ∷ m.lines; last = m.last; fit = (b.fit, m.fit); runs = run_one r s b.line m.lines a.0 m.last b.steps m.runs; ended = m.ended; spelt = ap (λ z. z ∷ map r.spell m.lines) b.spelt ∙ ap (λ z. l ∷ z) m.spelt }

  lines_taken : (n : ℕ) (ls : List (List ℕ)) (x : W) → read_lines r n r.start ls ≡ Ok x → HasText Fit lines IsShaped x × (map r.spell (lines x) ≡ ls)
  lines_taken n ls x e =
      let m = ran n r.start ls x e in
      let k = laws.shaped m.lines m.last x m.runs m.ended in
      (record { shaped = k.0; fit = subst (λ z. Each Fit z) (sym k.1) m.fit }, ap (map r.spell) k.1 ∙ m.spelt)

  lines_again : (x : W) → HasText Fit lines IsShaped x → read_lines r 1 r.start (map r.spell (lines x)) ≡ Ok x
  unfolding read_lines
  lines_again x k =
      let a = laws.accepts x k.shaped in
      ap (read_lines r 1 r.start) (sym (append-nil (map r.spell (lines x))))
      ∙ (read_runs 1 r.start (lines x) [] a.last k.fit a.runs ∙ ap (or_fault (1 + length (lines x))) a.ended)

  -- ---- the first line that is wrong

  begun_front : (ls : List L) (s : S) → Each Fit ls → run r r.start ls ≡ Some s → IsFront (Right r Fit lines IsShaped) (map r.spell ls)
  begun_front ls s k e =
      let b = laws.begins ls s k e in
      (map r.spell b.more, (b.whole, record { shaped = b.shaped; fit = b.fit }, ap (map r.spell) b.same ∙ map-append r.spell ls b.more))

  read_front : (ls : List L) (s : S) (rest : List (List ℕ)) (x : W) → Each Fit ls → run r r.start ls ≡ Some s → HasText Fit lines IsShaped x → map r.spell (lines x) ≡ map r.spell ls ++ rest → read_lines r (1 + length ls) s rest ≡ Ok x
  read_front ls s rest x k e text q = sym (read_runs 1 r.start ls rest s k e) ∙ (ap (read_lines r 1 r.start) (sym q) ∙ lines_again x text)

  wrong_end : (ls : List L) (s : S) → Each Fit ls → run r r.start ls ≡ Some s → r.final s ≡ None → ¬ Right r Fit lines IsShaped (map r.spell ls)
  unfolding read_lines
  wrong_end ls s k e f a =
      let m = read_front ls s [] a.0 k e a.1 (a.2 ∙ sym (append-nil (map r.spell ls))) in
      no_ok (1 + length ls) a.0 (ap (or_fault (1 + length ls)) (sym f) ∙ m)

  wrong_line : (ls : List L) (s : S) (l : List ℕ) → Each Fit ls → run r r.start ls ≡ Some s → step_text r s l ≡ None → ¬ IsFront (Right r Fit lines IsShaped) (map r.spell ls ++ l ∷ [])
  unfolding read_lines
  wrong_line ls s l k e f a =
      let m = read_front ls s (l ∷ a.0) a.1.0 k e a.1.1 (a.1.2 ∙ append_assoc (map r.spell ls) (l ∷ []) a.0) in
      no_ok (1 + length ls) a.1.0 (ap (then_read (λ t. read_lines r (1 + length ls + 1) t a.0) (1 + length ls)) (sym f) ∙ m)

  fault_by : (n k : ℕ) (s : S) (before : List L) (l : List ℕ) (ls : List (List ℕ)) → Each Fit before → run r r.start before ≡ Some s → n ≡ length (map r.spell before) + 1
      → ((u : S) → step_text r s l ≡ Some u → read_lines r (n + 1) u ls ≡ Err k → IsFault (Right r Fit lines IsShaped) (map r.spell before ++ l ∷ ls) k)
      → (o : Option S) → step_text r s l ≡ o → then_read (λ t. read_lines r (n + 1) t ls) n o ≡ Err k → IsFault (Right r Fit lines IsShaped) (map r.spell before ++ l ∷ ls) k
  fault_by n k s before l ls fit e c again None q f =
      let h : n ≡ k = cc in
      record { before = map r.spell before; rest = l ∷ ls; whole = refl; count = sym h ∙ c; good = begun_front before s fit e; wrong = wrong_line before s l fit e q }
  fault_by n k s before l ls fit e c again (Some u) q f = again u q f

  fault : (n k : ℕ) (s : S) (before : List L) (rest : List (List ℕ)) → Each Fit before → run r r.start before ≡ Some s → n ≡ length (map r.spell before) + 1 → read_lines r n s rest ≡ Err k → IsFault (Right r Fit lines IsShaped) (map r.spell before ++ rest) k
  unfolding read_lines
  fault n k s before [] fit e c f =
      let a = or_fault_err n k (r.final s) f in
      record { before = map r.spell before; rest = []; whole = refl; count = sym a.1 ∙ c; good = begun_front before s fit e; wrong = wrong_end before s fit e a.0 }
  fault n k s before (l ∷ ls) fit e c f =
      fault_by n k s before l ls fit e c
      (λ u q g.
      let b = stepped s l u q in
      let split : map r.spell (before ++ b.line ∷ []) ≡ map r.spell before ++ l ∷ [] = map-append r.spell before (b.line ∷ []) ∙ ap (λ z. map r.spell before ++ z ∷ []) b.spelt in
      let count : n + 1 ≡ length (map r.spell (before ++ b.line ∷ [])) + 1 = ap (λ z. z + 1) (c ∙ (sym (length-append (map r.spell before) (l ∷ [])) ∙ ap length (sym split))) in
      let m = fault (n + 1) k u (before ++ b.line ∷ []) ls (Each-join Fit before (b.line ∷ []) fit (b.fit, tt)) (run_end r before s u b.line e b.steps) count g in
      let regrouped : map r.spell (before ++ b.line ∷ []) ++ ls ≡ map r.spell before ++ l ∷ ls = ap (λ z. z ++ ls) split ∙ append_assoc (map r.spell before) (l ∷ []) ls in
      subst (λ z. IsFault (Right r Fit lines IsShaped) z k) regrouped m)
      (step_text r s l) refl f

  lines_spelt : (ls : List L) → Each Fit ls → lines_of (flat_map r.spell ls) ≡ map r.spell ls
  lines_spelt [] k = lines_nil
  lines_spelt (l ∷ ls) k = lines_cut (r.spell l) (flat_map r.spell ls) (laws.ends l k.0) ∙ ap (λ z. r.spell l ∷ z) (lines_spelt ls k.1)

  -- ---- the laws

  -- what is read is shaped, and this is its text
  pub text_taken : (bytes : List ℕ) (x : W) → read_text r bytes ≡ Ok x → HasText Fit lines IsShaped x × (text_by r.spell lines x ≡ bytes)
  unfolding read_text
  text_taken bytes x e =
      let k = lines_taken 1 (lines_of bytes) x e in
      (k.0, sym (joined_spelt r.spell (lines x)) ∙ (ap joined k.1 ∙ joined_lines bytes))

  -- a shaped text is read
  pub text_again : (x : W) → HasText Fit lines IsShaped x → read_text r (text_by r.spell lines x) ≡ Ok x
  unfolding read_text
  text_again x k = ap (read_lines r 1 r.start) (lines_spelt (lines x) k.fit) ∙ lines_again x k

  -- the line of a fault is the first that is wrong
  pub text_fault : (bytes : List ℕ) (n : ℕ) → read_text r bytes ≡ Err n → IsFault (Right r Fit lines IsShaped) (lines_of bytes) n
  unfolding read_text
  text_fault bytes n e = fault 1 n r.start [] (lines_of bytes) tt refl refl e

  -- one text says one thing
  pub one_text : (x y : W) → HasText Fit lines IsShaped x → HasText Fit lines IsShaped y → text_by r.spell lines x ≡ text_by r.spell lines y → x ≡ y
  one_text x y h k e = ok_is x y (sym (text_again x h) ∙ (ap (read_text r) e ∙ text_again y k))
