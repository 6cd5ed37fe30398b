-- A requirement that is read names names.
use Rattle.std.proofs.Common.{◌≡◌, ℕ, List, [], ◌∷◌, Some, subst}
use Rattle.std.specs.Prelude.{◌==◌}
use Rattle.std.specs.List.{AllByRecursion, slice_split}
use Rattle.ul_base.specs.Names.{IsNormalName, name_cmp, name_of}
use Rattle.ul_base.proofs.ForCallers.{name_reads_itself}
use Rattle.ul_version.specs.Ascii.{comma, is_blank, is_white, text_between}
use Rattle.ul_version.proofs.ForCallers.{bind_some, inside}
use Rattle.ul_requirement.specs.Reading.{extras_in, name_set, names_in, names_of}
use Rattle.laws_given.specs.Texts.{IsNamedRequirement, RequirementsAreNamed}
use Rattle.laws_given.proofs.Inserted.{all_folded}
use Rattle.laws_given.proofs.ReadRequirements.{front_has, read_from, requirement_with}

-- each of the names is in its normal form
abbrev AreNormal : List (List ℕ) → Type 0
AreNormal names = AllByRecursion IsNormalName names

names_normal : (pieces ns : List (List ℕ)) → names_of pieces ≡ Some ns → AreNormal ns
unfolding names_of
names_normal [] ns e = subst AreNormal (inside [] ns e) tt
names_normal (piece ∷ pieces) ns e =
    let n = bind_some (name_of (text_between is_blank piece)) _ ns e in
    let more = bind_some (names_of pieces) _ ns n.2 in
    subst AreNormal (inside (n.0 ∷ more.0) ns more.2)
    (name_reads_itself (text_between is_blank piece) n.0 n.1, names_normal pieces more.0 more.1)

between_normal : (text : List ℕ) (ns : List (List ℕ)) → names_in text ≡ Some ns → AreNormal ns
between_normal [] ns e = subst AreNormal (inside [] ns e) tt
between_normal (b ∷ text) ns e = names_normal (slice_split (λ c. c == comma) (b ∷ text)) ns e

extras_normal : (text : List ℕ) (xs : List (List ℕ)) → extras_in text ≡ Some xs → AreNormal xs
unfolding extras_in
extras_normal text xs e =
    let ns = bind_some (names_in (text_between is_blank text)) _ xs e in
    subst AreNormal (inside (name_set ns.0) xs ns.2)
    (all_folded name_cmp IsNormalName [] ns.0 tt (between_normal (text_between is_blank text) ns.0 ns.1))

pub requirements_are_named : RequirementsAreNamed
requirements_are_named text q e =
    let read = read_from text q e in
    let has = front_has AreNormal tt extras_normal (text_between is_white text) read.front read.in_front in
    subst IsNamedRequirement {x = requirement_with read.front read.tail} read.is
    (record { name = has.0; extras = has.1 })
