-- Pieces of a line.
use Rattle.std.specs.Prelude.{ℕ, ◌-◌, List, [], ◌∷◌, take, drop, length, Bool, true, false, Option, Some, None, option_and_then, option_map, bytes_eq, nat_lt, ◌==◌, if◌then◌else◌}
use Rattle.std.specs.List.{list_any}

-- the byte stands in the text
abbrev pub has : ℕ → List ℕ → Bool
has c text = list_any (λ b. b == c) text

-- the text behind a front
abbrev pub strip : List ℕ → List ℕ → Option (List ℕ)
strip [] text = Some text
strip (x ∷ front) [] = None
strip (x ∷ front) (y ∷ text) = if x == y then strip front text else None

-- with a byte before the first of two texts
abbrev pub onto : ℕ → List ℕ × List ℕ → List ℕ × List ℕ
onto x p = (x ∷ p.0, p.1)

-- what stands before the byte, where it stands first, and what behind it
abbrev pub until : ℕ → List ℕ → Option (List ℕ × List ℕ)
until c [] = None
until c (x ∷ xs) = if x == c then Some ([], xs) else option_map (onto x) (until c xs)

-- what stands before the end
unfoldable pub cut_end : List ℕ → List ℕ → Option (List ℕ)
cut_end end text = if nat_lt (length text) (length end) then None else (if bytes_eq (drop (length text - length end) text) end then Some (take (length text - length end) text) else None)

-- what stands between the front and the end
abbrev pub inside : List ℕ → List ℕ → List ℕ → Option (List ℕ)
inside front end text = option_and_then (cut_end end) (strip front text)

-- what stands behind the front up to the byte, and what behind it
abbrev pub inner_and_rest : List ℕ → ℕ → List ℕ → Option (List ℕ × List ℕ)
inner_and_rest front stop text = option_and_then (until stop) (strip front text)

-- a text that is there, and what follows
abbrev pub some_part : List ℕ × List ℕ → Option (List ℕ) × List ℕ
some_part p = (Some p.0, p.1)

-- the text up to the byte where the front was there, else none
abbrev pub part_found : ℕ → List ℕ → Option (List ℕ) → Option (Option (List ℕ) × List ℕ)
part_found stop text None = Some (None, text)
part_found stop text (Some rest) = option_map some_part (until stop rest)

-- what stands behind the front up to the byte, if the front is there, and what follows
abbrev pub optional_part : List ℕ → ℕ → List ℕ → Option (Option (List ℕ) × List ℕ)
optional_part front stop text = part_found stop text (strip front text)
