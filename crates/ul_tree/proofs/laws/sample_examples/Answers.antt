use Rattle.std.proofs.Common.{◌≡◌, ◌+◌, ◌*◌, ◌^◌, refl, arith, true, false}
use Rattle.ul_nodes.specs.Plain.{truth}
use Rattle.ul_tree.specs.SampleVectors.{ubuntu}
use Rattle.ul_tree.proofs.laws.sample_examples.Goals as goal

holds_not : truth true ≡ truth false → ⊥
holds_not e = let p : true ≡ false = cc in cc

pub returns : goal.returns
returns c = record {
  everywhere = refl;
  start = refl;
  below = refl;
  point = refl;
  other = refl;
  not_empty = refl;
  not_x = refl;
  x_is_free = refl;
  points_before_other = refl;
  points_in_order = refl;
  holds = refl;
  fails = refl;
  together = refl;
  reduced = (
    refl,
    tt,
    tt,
    (
      (3 * 2 ^ 64 + 8 * 2 ^ 32, refl, omega arith, omega arith),
      tt,
      (refl, tt, tt, ((omega arith, refl), tt, (refl, tt, tt, (((ubuntu, record { literal = refl; kind = refl; stands = refl }, refl), refl), tt, tt, holds_not, tt)), (λ e. cc), tt)),
      (λ e. cc),
      tt,
    ),
  );
}
