use Rattle.std.proofs.Common.{◌≡◌, ◌||◌, ◌∙◌, Bool, true, false, cond, refl}
use Rattle.std.specs.Ordering.{is_eq}
use Rattle.ul_version.specs.Order.{version_cmp}
use Rattle.ul_index.specs.Seen.{was_seen}
use Rattle.ul_index.proofs.seen.Seen.add.Goals as goal

or_is : (a b : Bool) → cond a true b ≡ (a || b)
or_is true b = refl
or_is false b = refl

pub returns-clause-noted : goal.returns-clause-noted
returns-clause-noted c v =
    rw (← c.in_ok-version.ensures)
    (c.in_ok-added.ensures.updates.0 (record { version = v }) ∙ or_is (is_eq (version_cmp c.in_ok-version.version v)) (was_seen c.args.self.now v))
