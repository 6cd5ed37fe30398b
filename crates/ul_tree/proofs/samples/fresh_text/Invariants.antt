use Rattle.std.proofs.Common.{◌≡◌, ◌≤◌, ◌-◌, ℕ, ◌+◌, suc, length, string_bytes}
use Rattle.ul_tree.specs.Sample.{key_lengths, fresh_from, fresh}
use Rattle.ul_tree.specs.Views.{points_view}
use Rattle.ul_tree.proofs.samples.fresh_text.Given as goal

abbrev pub invariant-loop-text : goal.invariant-loop-text
invariant-loop-text l = record {
  bounded : length (string_bytes l.text) ≤ suc (key_lengths (points_view l.points));
  left : (n : ℕ) → n + length (string_bytes l.text) ≡ suc (key_lengths (points_view l.points)) → fresh_from n (points_view l.points) (string_bytes l.text) ≡ fresh (points_view l.points);
}

abbrev pub decreases-loop-text : goal.decreases-loop-text
decreases-loop-text l = suc (key_lengths (points_view l.points)) - length (string_bytes l.text)
