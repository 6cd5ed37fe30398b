-- Where no marker of a project and its documents compares `extras`, none of what they ask is such a comparison.
use Rattle.std.proofs.Common.{◌≡◌, ◌||◌, ◌++◌, ⊎_elim, List, [], ◌∷◌, Bool, true, false, flat_map, Option, Some, None, subst, sym}
use Rattle.std.specs.Prelude.{Contains, IfSome}
use Rattle.std.specs.List.{AllByRecursion, list_any}
use Rattle.std.proofs.lemmas.Bool.{or_parts}
use Rattle.std.proofs.lemmas.List.Elements.{Contains-append_cases}
use Rattle.ul_base.proofs.ForCallers.{contains_cases, contains_from_flat, none_in}
use Rattle.ul_comparison.specs.Atoms.{AtomFields, is_extras}
use Rattle.ul_comparison.specs.Formulas.{Formula}
use Rattle.ul_marker.specs.Parts.{asks_extras, atoms_of}
use Rattle.ul_requirement.specs.Fields.{PackageFields, ReleaseFields, RequirementFields}
use Rattle.ul_requirement.specs.Truth.{atoms_in as marker_atoms, atoms_of_requirement}
use Rattle.ul_load.specs.Loading.{atoms_in, requirements_of}
use Rattle.laws_comparisons.specs.Comparisons.{AskedHaveNoExtras, AsksNoExtras, asked_atoms}
use Rattle.laws_comparisons.proofs.Asked.{stands}

-- none of the comparisons is one with `extras`
abbrev AreOthers : List AtomFields → Type 0
AreOthers ts = (a : AtomFields) → Contains ts a → is_extras a.variable ≡ false

listed_others : (ts : List AtomFields) → list_any (λ (a : AtomFields). is_extras a.variable) ts ≡ false → AreOthers ts
listed_others [] e a at = absurd (none_in a at)
listed_others (b ∷ ts) e a at =
    let parts = or_parts (is_extras b.variable) (list_any (λ (x : AtomFields). is_extras x.variable) ts) e in
    ⊎_elim (λ q. subst (λ (x : AtomFields). is_extras x.variable ≡ false) (sym q) parts.0)
    (λ later. listed_others ts parts.1 a later) (contains_cases b ts a at)

joined_others : (ts us : List AtomFields) → AreOthers ts → AreOthers us → AreOthers (ts ++ us)
joined_others ts us h k a at = ⊎_elim (λ x. h a x) (λ y. k a y) (Contains-append_cases ts us a at)

-- each element of a list is such, and so are the comparisons of all
flat_others : {A : Type 0} (P : A → Type 0) (f : A → List AtomFields) → ((x : A) → P x → AreOthers (f x))
    → (xs : List A) → AllByRecursion P xs → AreOthers (flat_map f xs)
flat_others P f each [] h = λ a at. absurd (none_in a at)
flat_others P f each (x ∷ xs) h = joined_others (f x) (flat_map f xs) (each x h.0) (flat_others P f each xs h.1)

marker_others : (m : Option Formula) → AsksNoExtras m → AreOthers (marker_atoms m)
marker_others None h = λ a at. absurd (none_in a at)
marker_others (Some f) h = listed_others (atoms_of f) h

abbrev Asks : RequirementFields → Type 0
Asks q = AsksNoExtras q.marker

abbrev AllAsk : ReleaseFields → Type 0
AllAsk r = AllByRecursion Asks r.requirements

more : {A : Type 0} (P : A → Type 0) (xs ys : List A) → AllByRecursion P xs → AllByRecursion P ys
    → AllByRecursion P (xs ++ ys)
more P [] ys h k = k
more P (x ∷ xs) ys h k = (h.0, more P xs ys h.1 k)

-- the requirements of releases are such
required : (rs : List ReleaseFields) → AllByRecursion AllAsk rs → AllByRecursion Asks (requirements_of rs)
required [] h = tt
required (r ∷ rs) h = more Asks r.requirements (requirements_of rs) h.0 (required rs h.1)

pub asked_have_no_extras : AskedHaveNoExtras
asked_have_no_extras p c environments documents a e =
    joined_others (flat_map atoms_of p.environments)
    (flat_map (λ (found : PackageFields). atoms_in (requirements_of found.releases)) c)
    (flat_others (λ (f : Formula). asks_extras f ≡ false) atoms_of (λ f h. listed_others (atoms_of f) h) p.environments
    environments)
    (flat_others (λ (found : PackageFields). AllByRecursion AllAsk found.releases)
    (λ (found : PackageFields). atoms_in (requirements_of found.releases))
    (λ found h. flat_others Asks atoms_of_requirement (λ q k. marker_others q.marker k) (requirements_of found.releases)
    (required found.releases h))
    c documents) a (stands (asked_atoms p c) a e)
