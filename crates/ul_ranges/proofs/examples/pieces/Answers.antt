use Rattle.std.proofs.Common.{[], ◌∷◌, refl, lit<, lit≤}
use Rattle.ul_ranges.proofs.Merging.{merged, merged_with, merged_refines, rising_starts}
use Rattle.ul_ranges.proofs.examples.pieces.Goals as goal

pub returns : goal.returns
unfolding merged merged_with
returns c = record {
  starts = rising_starts _ refl (lit≤ tt, lit< tt, (lit≤ tt, lit< tt, (lit≤ tt, lit< tt, tt)));
  before = record { piece = lit< tt; from = lit≤ tt; to = lit< tt };
  at = record { piece = lit< tt; from = lit≤ tt; to = lit< tt };
  inside = record { piece = lit< tt; from = lit≤ tt; to = lit< tt };
  last = record { piece = lit< tt; from = lit≤ tt; to = lit< tt };
  refined = merged_refines (0 ∷ 7 ∷ 9 ∷ []) (0 ∷ 5 ∷ 9 ∷ [])
      (rising_starts (0 ∷ 7 ∷ 9 ∷ []) refl (lit≤ tt, lit< tt, (lit≤ tt, lit< tt, (lit≤ tt, lit< tt, tt))))
      (rising_starts (0 ∷ 5 ∷ 9 ∷ []) refl (lit≤ tt, lit< tt, (lit≤ tt, lit< tt, (lit≤ tt, lit< tt, tt))));
}
