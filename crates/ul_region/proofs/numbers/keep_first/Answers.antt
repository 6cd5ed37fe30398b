use Rattle.std.proofs.Common.{◌≡◌, ℕ, List, ◌∙◌, ap, subst, sym, cond, bytes_eq, Some}
use Rattle.std.specs.HashMap.{get}
use Rattle.std.specs.Option.{option_or}
use Rattle.ul_requirement.specs.Fields.{RequirementFields}
use Rattle.ul_region.specs.Numbers.{place_on}
use Rattle.ul_region.proofs.NameNumbers.{kept_now, kept_still}
use Rattle.ul_region.proofs.numbers.keep_first.Goals as goal

pub returns-then-contains_key : goal.returns-then-contains_key
returns-then-contains_key c n =
    let was = get bytes_eq c.args.places.now in
    subst (λ (r : RequirementFields). was n ≡ option_or (was n) (place_on r n c.args.place)) c.requirement.view_is
    (kept_still was c.requirement.inside.name n c.args.place (sym c.contains_key.ensures ∙ c.if-contains_key.true))

pub returns : goal.returns
returns c n =
    let was = get bytes_eq c.args.places.now in
    c.in_ok-insert.ensures.updates.0 n
    ∙ ap (λ (k : List ℕ). cond (bytes_eq k n) (Some c.args.place) (was n)) c.in_ok-name.ensures
    ∙ subst (λ (r : RequirementFields). cond (bytes_eq c.requirement.inside.name n) (Some c.args.place) (was n) ≡ option_or (was n) (place_on r n c.args.place)) c.requirement.view_is
    (kept_now was c.requirement.inside.name n c.args.place (sym c.contains_key.ensures ∙ c.if-contains_key.false))
