-- `python_full_version` as three numbers (PEP 508, "Environment Markers").
use Rattle.std.specs.Prelude.{◌≡◌, ℕ, ◌^◌, ◌==◌, ◌&&◌, Bool, List, length, nat_lt, Option, Some, None, if◌then◌else◌}
use Rattle.std.specs.List.{before_first, after_first}
use Rattle.std.specs.Str.{all_ascii_digits}
use Rattle.std.specs.Str.Parse.{digits_value}
use Rattle.ul_version.specs.Reading.{◌>>=◌}

-- digits, one at least, of a value below 2^32
unfoldable pub number_of : List ℕ → Option ℕ
number_of digits =
    if all_ascii_digits digits && (nat_lt 0 (length digits) && nat_lt (digits_value 10 digits) (2 ^ 32))
    then Some (digits_value 10 digits) else None

-- `.`
abbrev pub is_point : ℕ → Bool
is_point b = b == 46

-- what stands before the first point of a text, and behind it
abbrev pub IsPointCut : List ℕ → List ℕ → List ℕ → Type 0
IsPointCut text before after = (before ≡ before_first is_point text) × (after ≡ after_first is_point text)

-- the three numbers between the points of a text
unfoldable pub triple_of : List ℕ → Option (ℕ × ℕ × ℕ)
triple_of text =
    number_of (before_first is_point text) >>= λ major.
    number_of (before_first is_point (after_first is_point text)) >>= λ minor.
    number_of (after_first is_point (after_first is_point text)) >>= λ patch.
    Some (major, minor, patch)
