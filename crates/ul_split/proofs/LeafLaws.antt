-- Children of a split have worlds, and what serves an unsplit region serves it whole.
use Rattle.std.proofs.Common.{◌≡◌, ◌&&◌, ◌||◌, ℕ, List, [], ◌∷◌, Bool, true, false, not, Option, Some, Contains, inl, inr, ⊎_elim, refl, sym, ap, subst, ◌∙◌}
use Rattle.ul_base.specs.declared.node.Node.{Node}
use Rattle.ul_version.specs.Fields.{Fields}
use Rattle.ul_comparison.specs.Worlds.{WorldFields}
use Rattle.ul_requirement.specs.Fields.{RequirementFields, ReleaseFields}
use Rattle.ul_index.specs.Regions.{Region, Somewhere, Throughout}
use Rattle.ul_index.specs.Catalogs.{Packages, release_of, requirements, requirements_in, is_fit, is_fit_in, is_release_fit}
use Rattle.ul_index.specs.Applied.{IsSplitGroup}
use Rattle.ul_index.specs.Serves.{Selection}
use Rattle.ul_base.proofs.ForCallers.{first_holds, first_in, contains_first, contains_later, none_in, contains_cases}
use Rattle.ul_index.specs.Laws.{UnsplitWhole}
use Rattle.ul_region.specs.Groups.{FailsIn}
use Rattle.ul_region.proofs.ForCallers.{chosen_in}
use Rattle.ul_split.specs.Split.{Decided, AreDecided, SplitsBy, IsUnfit, IsUnsplit}
use Rattle.ul_split.specs.Laws.{Children, UnsplitServesWhole}

children_have_worlds : (R : Region) (ds : List Decided) (truth : WorldFields → Bool) → SplitsBy R ds truth → ((d : Decided) → Contains ds d → Somewhere R (is_release_fit d.release)) → Somewhere R truth × Somewhere R (λ w. not (truth w))
children_have_worlds R ds truth (inl h) fit = subst (λ (p : WorldFields → Bool). Somewhere R p × Somewhere R (λ w. not (p w))) (sym h.is)
    (fit h.decided (first_in (IsUnfit R) ds h.decided h.first), first_holds (IsUnfit R) ds h.decided h.first)
children_have_worlds R ds truth (inr h) fit = subst (λ (p : WorldFields → Bool). Somewhere R p × Somewhere R (λ w. not (p w))) (sym h.is)
    (let f = first_holds (FailsIn h.decided.release.requirements R h.decided.node h.parting.opener.name) h.decided.release.requirements h.requirement h.parting.first_failing in (f.applied.somewhere, f.fails))

-- the release of a chosen version
record Found (c : Packages) (ds : List Decided) (n : Node) (v : Fields) : Type 0 where
  decided : Decided
  listed : Contains ds decided
  same : decided.node ≡ n
  found : release_of c n.name v ≡ Some decided.release

found_later : (c : Packages) (d : Decided) (ds : List Decided) (n : Node) (v : Fields) → Found c ds n v → Found c (d ∷ ds) n v
found_later c d ds n v f = record { decided = f.decided; listed = contains_later d ds f.decided f.listed; same = f.same; found = f.found }

found_at : (c : Packages) (s : Selection) (ds : List Decided) → AreDecided c s ds → (p : Node × Fields) → Contains s p → Found c ds p.0 p.1
found_at c [] [] h p m = absurd (none_in p m)
found_at c [] (d ∷ ds) h p m = absurd h
found_at c (q ∷ qs) [] h p m = absurd h
found_at c (q ∷ qs) (d ∷ ds) h p m = ⊎_elim
    (λ e. subst (λ (x : Node × Fields). Found c (d ∷ ds) x.0 x.1) (sym e) (record { decided = d; listed = contains_first d ds; same = h.same; found = h.found }))
    (λ r. found_later c d ds p.0 p.1 (found_at c qs ds h.rest p r)) (contains_cases q qs p m)

fit_found : (c : Packages) (n : Node) (v : Fields) (r : ReleaseFields) → release_of c n.name v ≡ Some r → (w : WorldFields) → is_fit c n.name v w ≡ is_release_fit r w
unfolding is_fit
fit_found c n v r e w = ap (λ (o : Option ReleaseFields). is_fit_in o w) e

-- the requirements of a version whose release is found
pub requirements_found : (c : Packages) (name : List ℕ) (v : Fields) (r : ReleaseFields) → release_of c name v ≡ Some r → requirements c name v ≡ r.requirements
unfolding requirements
requirements_found c name v r e = ap requirements_in e

or_fails : (b : Bool) → (not b ≡ true → ⊥) → b ≡ true
or_fails true h = refl
or_fails false h = absurd (h refl)

fit_by : (c : Packages) (R : Region) (ds : List Decided) (n : Node) (v : Fields) → IsUnsplit R ds → Found c ds n v → Throughout R (is_fit c n.name v)
fit_by c R ds n v u f w is e = fit_found c n v f.decided.release f.found w ∙ or_fails (is_release_fit f.decided.release w) (λ t. u.fit f.decided f.listed (w, is, e, t))

unsplit_by : (c : Packages) (R : Region) (ds : List Decided) (n : Node) (v : Fields) (name : List ℕ) → IsUnsplit R ds → Found c ds n v → IsSplitGroup (requirements c n.name v) R n name → ⊥
unsplit_by c R ds n v name u f g = u.groups f.decided f.listed (
  name,
  subst (λ (m : Node). IsSplitGroup f.decided.release.requirements R m name) (sym f.same)
      (subst (λ (qs : List RequirementFields). IsSplitGroup qs R n name) (requirements_found c n.name v f.decided.release f.found) g),
)

pub unsplit_serves_whole : UnsplitWhole → UnsplitServesWhole
unsplit_serves_whole law strategy c starts R s ds are u h = law strategy c starts R s
    (λ n v name e. unsplit_by c R ds n v name u (found_at c s ds are (n, v) (chosen_in s n v e)))
    (λ n v e. fit_by c R ds n v u (found_at c s ds are (n, v) (chosen_in s n v e))) h

both_ways_fail : (a b : Bool) → (a && b) ≡ true → (a && not b) ≡ true → ⊥
both_ways_fail true true e h = cc
both_ways_fail true false e h = cc
both_ways_fail false b e h = cc

one_or_other : (a b : Bool) → ((a && b) || (a && not b)) ≡ a
one_or_other true true = refl
one_or_other true false = refl
one_or_other false b = refl

pub children : Children
children = record {
  have_worlds = children_have_worlds;
  apart = λ R truth w a b. both_ways_fail (R w) (truth w) a b;
  together = λ R truth w. one_or_other (R w) (truth w);
}
