-- The limits of loading.
use Rattle.std.proofs.Common.{◌≡◌, ℕ, ◌<◌, ◌≤◌, length, nat_lt, cond, Bool, true, false, Ok, Err, refl, arith}
use Rattle.std.proofs.lemmas.Bool.Decides.{nat_tests}
use Rattle.ul_load.specs.Loading.{Fault, ProgressFields, most_comparisons, most_packages, most_releases, too_many_comparisons, too_many_packages, too_many_releases, within}

pub is_below : (a b : ℕ) → a < b → nat_lt a b ≡ true
is_below a b h = grind (arith, nat_tests)

pub is_past : (a b : ℕ) → b ≤ a → nat_lt a b ≡ false
is_past a b h = grind (arith, nat_tests)

from_past : (a b : ℕ) → nat_lt a b ≡ false → b ≤ a
from_past a b h = grind (arith, nat_tests)

by_tests : (a b c : Bool) (s r : ProgressFields) (e f g : Fault) → cond a (Err e) (cond b (Err f) (cond c (Err g) (Ok s))) ≡ Ok r → (s ≡ r) × (b ≡ false)
by_tests true b c s r e f g h = cc
by_tests false true c s r e f g h = cc
by_tests false false true s r e f g h = cc
by_tests false false false s r e f g h = let same : s ≡ r = cc in (same, refl)

-- what is within the limits stays as it is, and has few names
pub within_has : (s r : ProgressFields) → within s ≡ Ok r → (s ≡ r) × (length s.names ≤ most_packages)
within_has s r h =
    let parts = by_tests (nat_lt most_releases s.entries) (nat_lt most_packages (length s.names)) (nat_lt most_comparisons (length s.comparisons)) s r
    too_many_releases too_many_packages too_many_comparisons h in
    (parts.0, from_past most_packages (length s.names) parts.1)
