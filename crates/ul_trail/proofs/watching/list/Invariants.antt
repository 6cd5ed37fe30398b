use Rattle.std.proofs.Common.{◌≡◌, ◌<◌, ◌++◌, ◌∷◌, [], ℕ, cond, length, take, get_or}
use Rattle.ul_trail.specs.Watched.{has_term}
use Rattle.ul_trail.proofs.watching.list.Given as goal

abbrev pub invariant-loop-term : goal.invariant-loop-term
invariant-loop-term l = record {
  width : length l.rows.items ≡ length l.fn.rows.items;
  rows : (n : ℕ) → n < length l.fn.rows.items → get_or l.rows.items n [] ≡ get_or l.fn.rows.items n [] ++ cond (has_term n (take l.term-index l.terms)) (l.place ∷ []) [];
}
