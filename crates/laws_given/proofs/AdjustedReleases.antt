-- Adjusted releases have requirements that are such, where the releases had, and what they are adjusted by.
use Rattle.std.proofs.Common.{ℕ, List, [], ◌∷◌, Bool, true, false, cond, map}
use Rattle.std.specs.List.{AllByRecursion}
use Rattle.ul_requirement.specs.Fields.{ReleaseFields, RequirementFields}
use Rattle.ul_groups.specs.Adjusted.{adjusted_list, adjusted_release, all_on, constrained_by, constrained_list, followed_by, is_on, overridden_by, overridden_list, replaced_by}
use Rattle.laws_given.proofs.ExpandedProjects.{IsOfRequirements}
use Rattle.laws_given.proofs.FileRequirements.{AreAll}
use Rattle.laws_given.proofs.Lists.{more}

-- what is true of a requirement, as soon as another thing is true of what it is adjusted by
pub record IsOfBounds (P O : RequirementFields → Type 0) : Type 0 where
  pub overridden : (q o : RequirementFields) → P q → O o → P (overridden_by q o)
  pub constrained : (q c : RequirementFields) → P q → O c → P (constrained_by q c)

on_name : (O : RequirementFields → Type 0) (name : List ℕ) (qs : List RequirementFields) → AreAll O qs
    → AreAll O (all_on qs name)
on_name O name [] h = tt
on_name O name (q ∷ qs) h = by_test (is_on name q) (on_name O name qs h.1)
  where
    by_test : (b : Bool) → AreAll O (all_on qs name) → AreAll O (cond b (q ∷ all_on qs name) (all_on qs name))
    by_test true rest = (h.0, rest)
    by_test false rest = rest

module _ (P O : RequirementFields → Type 0) (of : IsOfBounds P O) where
  each_overridden : (q : RequirementFields) → P q → (os : List RequirementFields) → AreAll O os
      → AreAll P (map (overridden_by q) os)
  each_overridden q h [] k = tt
  each_overridden q h (o ∷ os) k = (of.overridden q o h k.0, each_overridden q h os k.1)

  replaced : (q : RequirementFields) → P q → (os : List RequirementFields) → AreAll O os → AreAll P (replaced_by q os)
  replaced q h [] k = (h, tt)
  replaced q h (o ∷ os) k = each_overridden q h (o ∷ os) k

  each_constrained : (q : RequirementFields) → P q → (cs : List RequirementFields) → AreAll O cs
      → AreAll P (map (constrained_by q) cs)
  each_constrained q h [] k = tt
  each_constrained q h (c ∷ cs) k = (of.constrained q c h k.0, each_constrained q h cs k.1)

  overridden_all : (overrides qs : List RequirementFields) → AreAll O overrides → AreAll P qs
      → AreAll P (overridden_list (all_on overrides) qs)
  overridden_all overrides [] on h = tt
  overridden_all overrides (q ∷ qs) on h =
      more P (replaced_by q (all_on overrides q.name)) (overridden_list (all_on overrides) qs)
      (replaced q h.0 (all_on overrides q.name) (on_name O q.name overrides on)) (overridden_all overrides qs on h.1)

  constrained_all : (constraints qs : List RequirementFields) → AreAll O constraints → AreAll P qs
      → AreAll P (constrained_list (all_on constraints) qs)
  constrained_all constraints [] on h = tt
  constrained_all constraints (q ∷ qs) on h =
      let rest = each_constrained q h.0 (all_on constraints q.name) (on_name O q.name constraints on) in
      more P (followed_by q (all_on constraints q.name)) (constrained_list (all_on constraints) qs) (h.0, rest)
      (constrained_all constraints qs on h.1)

  -- a list of requirements that is adjusted is such
  adjusted_all : (constraints overrides sources qs : List RequirementFields) → AreAll O constraints → AreAll O overrides
      → AreAll O sources → AreAll P qs
      → AreAll P (adjusted_list (all_on constraints) (all_on overrides) (all_on sources) qs)
  adjusted_all constraints overrides sources qs bounds others from h =
      let first = overridden_list (all_on overrides) qs in
      constrained_all sources (constrained_list (all_on constraints) first) from
      (constrained_all constraints first bounds (overridden_all overrides qs others h))

  -- adjusted releases are such
  pub releases_adjusted : (R : ReleaseFields → Type 0) → IsOfRequirements P R
      → (constraints overrides sources : List RequirementFields) → AreAll O constraints → AreAll O overrides
      → AreAll O sources → (rs : List ReleaseFields) → AllByRecursion R rs
      → AllByRecursion R (map (adjusted_release (all_on constraints) (all_on overrides) (all_on sources)) rs)
  releases_adjusted R on constraints overrides sources bounds others from [] h = tt
  releases_adjusted R on constraints overrides sources bounds others from (r ∷ rs) h =
      let adjusted = adjusted_list (all_on constraints) (all_on overrides) (all_on sources) r.requirements in
      let all = adjusted_all constraints overrides sources r.requirements bounds others from (on.has r h.0) in (
        on.stays r adjusted h.0 all,
        releases_adjusted R on constraints overrides sources bounds others from rs h.1,
      )
