-- A finite set of numbers below a size, as its list of flags: flag k says whether k is in the set. So the size is the list's length,
-- and two sets of one size are equal exactly where their lists are. The operations are those of sets, flag by flag.
use Rattle.std.specs.Prelude.{◌≡◌, ℕ, ◌==◌, ◌<◌, ◌≤◌, List, [], ◌∷◌, Bool, true, false, cond, Option, Some, None, get_or, map, find, nat_lt}
use Rattle.std.specs.List.{range_with_len, list_any}

-- whether the set has k; no set has a number past its size
abbrev pub has : ℕ → List Bool → Bool
has k s = get_or s k false

-- in both
abbrev pub both : List Bool → List Bool → List Bool
both [] t = []
both (x ∷ xs) [] = []
both (x ∷ xs) (y ∷ ys) = cond x y false ∷ both xs ys

-- in one of the two
abbrev pub either : List Bool → List Bool → List Bool
either [] t = t
either (x ∷ xs) [] = x ∷ xs
either (x ∷ xs) (y ∷ ys) = cond x true y ∷ either xs ys

-- in the first alone
abbrev pub less : List Bool → List Bool → List Bool
less [] t = []
less (x ∷ xs) [] = x ∷ xs
less (x ∷ xs) (y ∷ ys) = cond y false x ∷ less xs ys

-- nothing in it
abbrev pub is_blank : List Bool → Bool
is_blank [] = true
is_blank (x ∷ xs) = cond x false (is_blank xs)

-- each member of the first is a member of the second
abbrev pub is_within : List Bool → List Bool → Bool
is_within s t = is_blank (less s t)

-- the set, of this size, of the numbers of a list
unfoldable pub set_of : ℕ → List ℕ → List Bool
set_of size members = map (λ k. list_any (λ m. m == k) members) (range_with_len 0 size)

-- the set, of this size, of the numbers below a count
unfoldable pub front : ℕ → ℕ → List Bool
front size count = map (λ k. nat_lt k count) (range_with_len 0 size)

-- the first of a list of numbers that is in the set
abbrev pub first_in : List ℕ → List Bool → Option ℕ
first_in order s = find (λ k. has k s) order

-- no number is in both
abbrev pub is_apart : List Bool → List Bool → Bool
is_apart s t = is_blank (both s t)

-- the first number from `from` on with its flag set, where there is one
abbrev pub IsNext : (ℕ → Bool) → ℕ → Option ℕ → Type 0
IsNext flags from None = (k : ℕ) → from ≤ k → flags k ≡ false
IsNext flags from (Some member) =
    (from ≤ member) × (flags member ≡ true) × ((k : ℕ) → from ≤ k → k < member → flags k ≡ false)

-- the first member from `from` on, where there is one
abbrev pub IsNextMember : List Bool → ℕ → Option ℕ → Type 0
IsNextMember s from found = IsNext (λ k. has k s) from found
