-- What a selection has for a node.
use Rattle.std.proofs.Common.{◌≡◌, ◌⊎◌, [], ◌∷◌, map, cond, Bool, true, false, not, is_some, Option, Some, None, Contains, refl, ap, subst, inl, inr}
use Rattle.ul_base.specs.declared.node.Node.{Node}
use Rattle.ul_base.specs.Nodes.{node_eq}
use Rattle.ul_version.specs.Fields.{Fields}
use Rattle.ul_requirement.specs.Fields.{RequirementFields}
use Rattle.ul_requirement.specs.Truth.{base, base_of, with_extra, targets}
use Rattle.ul_index.specs.Serves.{Selection, choice_of}
use Rattle.ul_base.proofs.ForCallers.{contains_first, contains_later}
use Rattle.ul_base.proofs.ForCallers.{contains_cases, contains_from_map}
use Rattle.ul_region.proofs.Placing.{same_node}

chosen_now : (d : Node × Fields) (ds : Selection) (n : Node) (v : Fields) (b : Bool) → node_eq d.0 n ≡ b → (choice_of ds n ≡ Some v → Contains ds (n, v)) → cond b (Some d.1) (choice_of ds n) ≡ Some v → Contains (d ∷ ds) (n, v)
chosen_now d ds n v true t later e =
    let node : d.0 ≡ n = same_node d.0 n t in
    let version : d.1 ≡ v = cc in
    let both : d ≡ (n, v) = λ i. (node i, version i) in
    subst (λ (a : Node × Fields). Contains (d ∷ ds) a) both (contains_first d ds)
chosen_now d ds n v false t later e = contains_later d ds (n, v) (later e)

pub chosen_in : (ds : Selection) (n : Node) (v : Fields) → choice_of ds n ≡ Some v → Contains ds (n, v)
unfolding choice_of
chosen_in [] n v e = cc
chosen_in (d ∷ ds) n v e = chosen_now d ds n v (node_eq d.0 n) refl (chosen_in ds n v) e

pub decided_is : {A : Type 0} (o : Option A) → not (is_some o) ≡ false → (v : A) × (o ≡ Some v)
decided_is None e = cc
decided_is (Some v) e = (v, refl)

pub none_chosen : (n : Node) → choice_of [] n ≡ None
unfolding choice_of
none_chosen n = refl

pub target_named : (q : RequirementFields) (n : Node) → Contains (targets q) n → base_of n ≡ base q.name
target_named q n h = by_case (contains_cases (base q.name) (map (with_extra q.name) q.extras) n h)
  where
    by_case : (n ≡ base q.name) ⊎ Contains (map (with_extra q.name) q.extras) n → base_of n ≡ base q.name
    by_case (inl e) = ap base_of e
    by_case (inr m) = let found = contains_from_map (with_extra q.name) q.extras n m in ap base_of found.2
