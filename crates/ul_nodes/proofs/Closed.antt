-- The lists that a closed level is made of, and the tree of them.
use Rattle.std.proofs.Common.{arith, ◌≡◌, ℕ, suc, ◌<◌, List, [], ◌∷◌, ◌++◌, map, length, get_or, append-nil, Bool, true, false, refl, ap, sym, ◌∙◌, Less, Equal, Global, String, string_bytes}
use Rattle.std.specs.List.{All}
use Rattle.std.proofs.lemmas.List.{length-map}
use Rattle.ul_comparison.specs.Atoms.{AtomFields}
use Rattle.ul_nodes.specs.Plain.{Plain, node, done, branch, text_cmp}
use Rattle.ul_comparison.specs.declared.variable.Variable.{Variable}
use Rattle.ul_nodes.specs.Levels.{extra_level, python_level, text_level, atom_level}
use Rattle.ul_nodes.specs.Reduced.{IsReduced}
use Rattle.ul_nodes.specs.Apply.{close}
use Rattle.ul_nodes.specs.Keys.{key_view, has_kind, is_literal_key, is_number_key, KeysOf}
use Rattle.ul_nodes.specs.Rows.{made_view}
use Rattle.ul_nodes.specs.Closing.{keyed_branches, pieces_of, python_of, number_of, branch_parts, level_parts, HasOneMark}
use Rattle.ul_nodes.specs.declared.level.Key.{Key}
use Rattle.ul_nodes.specs.declared.level.Key.TheVariants.{Literal, Number, Holds}
use Rattle.ul_nodes.proofs.Order.{cmp_itself}

-- ---- lists that grow by the next branch

-- one more, of what the next branch gives
pub row_step : {A C : Type 0} (give : Key × A → C) (xs next : List C) (x : C) (e : Key × A) (left rest : List (Key × A)) (whole : List C) → next ≡ xs ++ x ∷ [] → x ≡ give e → left ≡ e ∷ rest
    → xs ++ map give left ≡ whole → next ++ map give rest ≡ whole
row_step {A} {C} give xs next x e left rest whole n q s h =
    ap (λ z. z ++ map give rest) n ∙ go xs ∙ ap (λ z. xs ++ (z ∷ map give rest)) q ∙ ap (λ z. xs ++ map give z) (sym s) ∙ h
  where
    go : (ys : List C) → (ys ++ x ∷ []) ++ map give rest ≡ ys ++ (x ∷ map give rest)
    go [] = refl
    go (y ∷ ys) = ap (λ z. y ∷ z) (go ys)

map_push : {B C : Type 0} (f : B → C) (xs : List B) (x : B) → map f (xs ++ x ∷ []) ≡ map f xs ++ (f x ∷ [])
map_push f [] x = refl
map_push f (y ∷ xs) x = ap (λ z. f y ∷ z) (map_push f xs x)

-- the same of what each stands for
pub view_step : {A B C : Type 0} (f : B → C) (give : Key × A → C) (xs next : List B) (x : B) (e : Key × A) (left rest : List (Key × A)) (whole : List C) → next ≡ xs ++ x ∷ [] → f x ≡ give e → left ≡ e ∷ rest
    → map f xs ++ map give left ≡ whole → map f next ++ map give rest ≡ whole
view_step f give xs next x e left rest whole n q s h = row_step give (map f xs) (map f next) (f x) e left rest whole (ap (map f) n ∙ map_push f xs x) q s h

pub no_rows : {A : Type 0} (left : List A) → length left ≡ 0 → left ≡ []
no_rows [] e = refl
no_rows (x ∷ left) e = absurd (omega arith)

pub rows_end : {A C : Type 0} (give : Key × A → C) (xs whole : List C) (left : List (Key × A)) → length left ≡ 0 → xs ++ map give left ≡ whole → xs ≡ whole
rows_end give xs whole left e h = sym (append-nil xs) ∙ ap (λ z. xs ++ map give z) (sym (no_rows left e)) ∙ h

-- ---- the tree of the lists

keyed_made : {A : Type 0} (view : A → Plain) (made : List (Key × A)) → keyed_branches (map (λ e. key_view e.0) made) (map view (branch_parts made)) ≡ made_view view made
keyed_made view [] = refl
keyed_made view (e ∷ made) = ap (branch (key_view e.0) (view e.1)) (keyed_made view made)

-- of texts and their parts
pub keyed_is : {A : Type 0} (view : A → Plain) (made : List (Key × A)) (ks : List (List ℕ)) (ps : List A) → ks ≡ map (λ e. key_view e.0) made → ps ≡ branch_parts made → keyed_branches ks (map view ps) ≡ made_view view made
keyed_is view made ks ps e q = ap (λ z. keyed_branches z (map view ps)) e ∙ ap (λ z. keyed_branches (map (λ e. key_view e.0) made) (map view z)) q ∙ keyed_made view made

number_key : (k : Key) → is_number_key k ≡ true → number_of k ∷ [] ≡ key_view k
number_key (Literal text) h = absurd (cc)
number_key (Number number) h = refl
number_key Holds h = absurd (cc)

pieces_made : {A : Type 0} (view : A → Plain) (made : List (Key × A)) → All (λ e. is_number_key e.0 ≡ true) made → pieces_of (map (λ e. number_of e.0) made) (map view (branch_parts made)) ≡ made_view view made
pieces_made view [] h = refl
pieces_made view (e ∷ made) h = λ i. branch (number_key e.0 (h 0 e (omega arith)) i) (view e.1) (pieces_made view made (λ k d m. h (suc k) d (omega arith)) i)

-- of starts and their parts
pub pieces_is : {A : Type 0} (view : A → Plain) (other : A) (made : List (Key × A)) (ss : List ℕ) (ps : List A) → All (λ e. is_number_key e.0 ≡ true) made → ss ≡ 0 ∷ map (λ e. number_of e.0) made → ps ≡ other ∷ branch_parts made
    → python_of ss (map view ps) ≡ node python_level (view other) (made_view view made)
pieces_is view other made ss ps h e q =
    ap (λ z. python_of z (map view ps)) e ∙ ap (λ z. python_of (0 ∷ map (λ e. number_of e.0) made) (map view z)) q ∙ ap (node python_level (view other)) (pieces_made view made h)

mark_key : (a : AtomFields) (k : Key) → has_kind (atom_level a) k ≡ true → key_view k ≡ 1 ∷ []
mark_key a (Literal text) h = absurd (cc)
mark_key a (Number number) h = absurd (cc)
mark_key a Holds h = refl

-- of the one part of an opaque comparison
pub mark_is : {A : Type 0} (view : A → Plain) (a : AtomFields) (made : List (Key × A)) (part : A) → KeysOf (atom_level a) made → branch_parts made ≡ part ∷ [] → made_view view made ≡ branch (1 ∷ []) (view part) done
mark_is view a [] part h e = cc
mark_is view a (x ∷ y ∷ made) part h e = cc
mark_is view a (x ∷ []) part h e = let q : x.1 ≡ part = cc in λ i. branch (mark_key a x.0 (h 0 x (omega arith)) i) (view (q i)) done

-- the one branch that there is is the last
pub last_alone : {A : Type 0} (made front : List (Key × A)) (e : Key × A) → length made ≡ 1 → made ≡ front ++ e ∷ [] → branch_parts made ≡ e.1 ∷ []
last_alone made [] e n s = ap branch_parts s
last_alone made (x ∷ front) e n s = absurd (go front (sym (ap length s) ∙ n))
  where
    go : (front : List (Key × _)) → length (x ∷ (front ++ e ∷ [])) ≡ 1 → ⊥
    go [] h = omega (arith, h)
    go (y ∷ front) h = omega (arith, h)

-- each text has its part
pub even_is : {A : Type 0} (made : List (Key × A)) (texts : List (String Global)) (ps : List A) → map string_bytes texts ≡ map (λ e. key_view e.0) made → ps ≡ branch_parts made → length texts ≡ length ps
even_is made texts ps e q = sym (length-map texts string_bytes) ∙ ap length e ∙ length-map made (λ e. key_view e.0) ∙ sym (length-map made (λ e. e.1)) ∙ sym (ap length q)

pub none_parts : {A : Type 0} (m : Bool) (other : A) (made : List (Key × A)) → length made ≡ 0 → other ∷ [] ≡ level_parts m other made
none_parts true other made e = ap (λ z. level_parts true other z) (sym (no_rows made e))
none_parts false other made e = ap (λ z. level_parts false other z) (sym (no_rows made e))

pub one_there : {A : Type 0} (a : AtomFields) (made : List (Key × A)) → HasOneMark (atom_level a) made → 0 < length made → length made ≡ 1
one_there a made h s = let i : length made < 2 = h in omega (arith, i, s)

-- ---- the keys of levels

all_keys : {A : Type 0} (P Q : Key → Type 0) (made : List (Key × A)) → ((k : Key) → P k → Q k) → All (λ e. P e.0) made → All (λ e. Q e.0) made
all_keys P Q made f h = λ k d m. f (get_or made k d).0 (h k d m)

extra_literal : (k : Key) → has_kind extra_level k ≡ true → is_literal_key k ≡ true
extra_literal (Literal text) h = refl
extra_literal (Number number) h = h
extra_literal Holds h = h

pub extra_literals : {A : Type 0} (made : List (Key × A)) → KeysOf extra_level made → All (λ e. is_literal_key e.0 ≡ true) made
extra_literals made h = all_keys (λ k. has_kind extra_level k ≡ true) (λ k. is_literal_key k ≡ true) made extra_literal h

text_literal : (v : Variable) (k : Key) → has_kind (text_level v) k ≡ true → is_literal_key k ≡ true
text_literal v (Literal text) h = refl
text_literal v (Number number) h = h
text_literal v Holds h = h

pub text_literals : {A : Type 0} (v : Variable) (made : List (Key × A)) → KeysOf (text_level v) made → All (λ e. is_literal_key e.0 ≡ true) made
text_literals v made h = all_keys (λ k. has_kind (text_level v) k ≡ true) (λ k. is_literal_key k ≡ true) made (text_literal v) h

python_number : (k : Key) → has_kind python_level k ≡ true → is_number_key k ≡ true
python_number (Literal text) h = h
python_number (Number number) h = refl
python_number Holds h = h

pub python_numbers : {A : Type 0} (made : List (Key × A)) → KeysOf python_level made → All (λ e. is_number_key e.0 ≡ true) made
python_numbers made h = all_keys (λ k. has_kind python_level k ≡ true) (λ k. is_number_key k ≡ true) made python_number h

-- ---- for callers

pub close_some : {A : Type 0} (view : A → Plain) (l : List ℕ) (d : Plain) (xs : List (Key × A)) → 0 < length xs → close l d (made_view view xs) ≡ node l d (made_view view xs)
close_some view l d [] h = absurd (omega arith)
close_some view l d (x ∷ xs) h = refl

pub close_none : {A : Type 0} (view : A → Plain) (l : List ℕ) (d : Plain) (xs : List (Key × A)) → length xs ≡ 0 → d ≡ close l d (made_view view xs)
close_none view l d xs h = ap (λ z. close l d (made_view view z)) (sym (no_rows xs h))

-- two branches of a reduced node of an opaque comparison would have one key
one_key : (j k : List ℕ) → j ≡ 1 ∷ [] → k ≡ 1 ∷ [] → text_cmp j k ≡ Less → ⊥
one_key j k p q r = let g : text_cmp (1 ∷ []) (1 ∷ []) ≡ Less = rw (p, q) at r in let i : Less ≡ Equal = sym g ∙ cmp_itself (1 ∷ []) in cc

-- a reduced node of an opaque comparison has one branch
pub one_mark : {A : Type 0} (view : A → Plain) (l : List ℕ) (d : Plain) (made : List (Key × A)) → IsReduced (close l d (made_view view made)) → HasOneMark l made
one_mark view [] d made h = tt
one_mark view (a ∷ []) d made h = tt
one_mark view (a ∷ b ∷ rest) d [] h = omega arith
one_mark view (a ∷ b ∷ rest) d (x ∷ []) h = omega arith
one_mark view (a ∷ b ∷ rest) d (x ∷ y ∷ made) h = absurd (one_key (key_view x.0) (key_view y.0) h.3.0.1 h.3.4.0.1 h.3.1)
