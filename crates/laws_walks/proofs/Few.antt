-- A lock whose text isn't too long has few extras: each has a line, and a line has a byte.
use Rattle.std.proofs.Common.{◌≡◌, ◌≤◌, ◌++◌, ◌∷◌, ℕ, List, [], Contains, flat_map, length, ap, ⊎_elim, arith}
use Rattle.std.proofs.Common.{length-append}
use Rattle.ul_base.proofs.ForCallers.{contains_cases, none_in}
use Rattle.ul_lock.specs.declared.parts.Edge.{Edge}
use Rattle.ul_lock.specs.declared.parts.Extra.{Extra}
use Rattle.ul_lock_lines.specs.Raw.{keyed}
use Rattle.ul_lock_lines.specs.Text.{spell}
use Rattle.ul_lock_lines.specs.declared.lines.Line.{Line}
use Rattle.ul_lock_lines.specs.declared.lines.Line.TheVariants.{First as first, Root as root, Supported as supported}
use Rattle.ul_lock_lines.specs.declared.lines.Line.TheVariants.{Item as item, Close as close, Gap as gap}
use Rattle.ul_lock_lines.specs.declared.lines.Line.TheVariants.{Entry as entry, Name as name, Version as version}
use Rattle.ul_lock_lines.specs.declared.lines.Line.TheVariants.{File as file, Edge as edge, Table as table}
use Rattle.ul_lock_lines.specs.declared.lines.Line.TheVariants.{Opens as opens, Bare as bare}
use Rattle.ul_lock_write.specs.Sheet.{block_front, block_lines, extra_lines, head_lines, listed, sheet_lines}
use Rattle.ul_lock_write.specs.Sheet.{table_lines}
use Rattle.ul_lock_write.specs.Texts.{sheet_in, sheet_text}
use Rattle.laws_walks.specs.Exists.{FewExtras}

-- ---- lists

module _ {A B : Type 0} (f : A → List B) where
  -- where each element gives one or more, they give as many as there are elements
  as_long : ((x : A) → 1 ≤ length (f x)) → (xs : List A) → length xs ≤ length (flat_map f xs)
  as_long some [] = omega arith
  as_long some (x ∷ xs) = omega (arith, some x, as_long some xs, length-append (f x) (flat_map f xs))

  -- what one of them gives is no longer than what all give
  one_of : (xs : List A) (x : A) → Contains xs x → length (f x) ≤ length (flat_map f xs)
  one_of [] x m = absurd (none_in x m)
  one_of (y ∷ ys) x m =
      ⊎_elim (λ e. first (ap (λ z. length (f z)) e)) (λ c. later (one_of ys x c)) (contains_cases y ys x m)
    where
      first : length (f x) ≡ length (f y) → length (f x) ≤ length (f y ++ flat_map f ys)
      first e = omega (arith, e, length-append (f y) (flat_map f ys))

      later : length (f x) ≤ length (flat_map f ys) → length (f x) ≤ length (f y ++ flat_map f ys)
      later h = omega (arith, h, length-append (f y) (flat_map f ys))

behind : {A : Type 0} (xs ys : List A) → length ys ≤ length (xs ++ ys)
behind xs ys = omega (arith, length-append xs ys)

-- ---- lines

keyed_some : (key rest : List ℕ) → 1 ≤ length (keyed key rest)
keyed_some key rest = omega (arith, length-append key (32 ∷ 61 ∷ 32 ∷ rest))

-- each line has a byte
spell_some : (l : Line) → 1 ≤ length (spell l)
unfolding spell
spell_some (first e) = omega arith
spell_some (root n) = omega arith
spell_some (supported m) = omega arith
spell_some (item m) = omega arith
spell_some close = omega arith
spell_some gap = omega arith
spell_some entry = omega arith
spell_some (name n) = omega arith
spell_some (version v) = omega arith
spell_some (file f) = omega arith
spell_some (edge e) = omega arith
spell_some table = omega arith
spell_some (opens n) = keyed_some n (91 ∷ 10 ∷ [])
spell_some (bare n) = keyed_some n (91 ∷ 93 ∷ 10 ∷ [])

-- each extra has a line
listed_some : (n : List ℕ) (es : List Edge) → 1 ≤ length (listed n es)
listed_some n [] = omega arith
listed_some n (e ∷ es) = omega arith

table_long : (xs : List Extra) → length xs ≤ length (table_lines xs)
table_long [] = omega arith
table_long (x ∷ xs) =
    let many = as_long extra_lines (λ y. listed_some y.name y.edges) (x ∷ xs) in
    omega (arith, many)

-- ---- the text

pub few_extras : FewExtras
few_extras e l short b m =
    let lines = sheet_lines (sheet_in e l) in
    let bytes : length lines ≤ length (sheet_text (sheet_in e l)) = as_long spell spell_some lines in
    let body : length (flat_map block_lines l.packages) ≤ length lines =
    behind (head_lines (sheet_in e l).head) (flat_map block_lines l.packages) in
    let block : length (block_lines b) ≤ length (flat_map block_lines l.packages) =
    one_of block_lines l.packages b m in
    let extras : length (table_lines b.extras) ≤ length (block_lines b) =
    behind (block_front b.name b.version b.files b.edges) (table_lines b.extras) in
    omega (arith, short, bytes, body, block, extras, table_long b.extras)
