-- What stands in rows.
use Rattle.std.proofs.Common.{◌≡◌, ℕ, zero, suc, ◌+◌, List, [], ◌∷◌, Bool, true, false, cond, Option, Some, None, Contains, refl, sym, ap, ◌∙◌, subst, ⊎_elim, arith}
use Rattle.std.proofs.lemmas.List.Elements.{All-contains, All-contains_itself, All-filter, Contains-append_left, Contains-append_right, Contains-append_cases}
use Rattle.std.specs.Prelude.{filter}
use Rattle.std.specs.List.{slice_get}
use Rattle.ul_base.specs.declared.node.Node.{Node}
use Rattle.ul_base.proofs.ForCallers.{contains_cases, contains_first, contains_from_map, contains_later, contains_map, none_in, only_one, some_is}
use Rattle.ul_version.specs.Fields.{Fields}
use Rattle.ul_requirement.specs.Fields.{RequirementFields}
use Rattle.ul_comparison.specs.Worlds.{WorldFields}
use Rattle.ul_requirement.specs.Laws.{UnnamedNeverApplies}
use Rattle.ul_requirement.specs.Truth.{applies_at, may_apply, targets}
use Rattle.ul_index.specs.Serves.{Selection, choice_of}
use Rattle.ul_lock.specs.Walk.{Pick}
use Rattle.ul_region.proofs.ForCallers.{chosen_in}
use Rattle.ul_sound.specs.Merged.{Pair}
use Rattle.ul_merge.specs.Chosen.{choice_at}
use Rattle.ul_merge.specs.Rows.{MemberFields, aim_rows, aim_uses, aims_at, all_members, all_uses, base_row, base_rows, chosen_member, chosen_use, extra_row, extra_rows, leaf_members}
use Rattle.ul_region.specs.Rows.{asked_at}
use Rattle.ul_merge.specs.declared.targets.Use.{Use}

-- ---- of all leaves

member_now : (n : Node) (i : ℕ) (o : Option Fields) (x : Pair × MemberFields) → Contains (chosen_member n i o) x
    → (v : Fields) × (o ≡ Some v) × (x ≡ ((n.name, v), (n, i)))
member_now n i None x m = absurd (none_in x m)
member_now n i (Some v) x m = (v, refl, only_one ((n.name, v), (n, i)) x m)

-- a row of a leaf's picks
leaf_from : (i : ℕ) (s ds : Selection) (x : Pair × MemberFields) → Contains (leaf_members i s ds) x
    → (n : Node) × (v : Fields) × (choice_of s n ≡ Some v) × (x ≡ ((n.name, v), (n, i)))
leaf_from i s [] x m = absurd (none_in x m)
leaf_from i s (d ∷ ds) x m = ⊎_elim (λ r. let f : (v : Fields) × (choice_of s d.0 ≡ Some v) × (x ≡ ((d.0.name, v), (d.0, i))) = member_now d.0 i (choice_of s d.0) x r in (d.0, f.0, f.1, f.2))
    (λ r. leaf_from i s ds x r) (Contains-append_cases (chosen_member d.0 i (choice_of s d.0)) (leaf_members i s ds) x m)

leaf_to : (i : ℕ) (s ds : Selection) (n : Node) (v u : Fields) → Contains ds (n, u) → choice_of s n ≡ Some v → Contains (leaf_members i s ds) ((n.name, v), (n, i))
leaf_to i s [] n v u m e = absurd (none_in (n, u) m)
leaf_to i s (d ∷ ds) n v u m e = ⊎_elim
    (λ r. Contains-append_left (chosen_member d.0 i (choice_of s d.0)) (leaf_members i s ds) ((n.name, v), (n, i))
    (subst (λ (k : Node). Contains (chosen_member k i (choice_of s k)) ((n.name, v), (n, i))) (ap (λ (y : Node × Fields). y.0) r)
    (subst (λ (o : Option Fields). Contains (chosen_member n i o) ((n.name, v), (n, i))) (sym e) (contains_first ((n.name, v), (n, i)) []))))
    (λ r. Contains-append_right (chosen_member d.0 i (choice_of s d.0)) (leaf_members i s ds) ((n.name, v), (n, i)) (leaf_to i s ds n v u r e))
    (contains_cases d ds (n, u) m)

-- a row of leaves, the first one's place given
members_after : (k : ℕ) (ss : List Selection) (x : Pair × MemberFields) → Contains (all_members k ss) x
    → (i : ℕ) × (x.1.1 ≡ k + i) × (choice_at ss i x.1.0 ≡ Some x.0.1) × (x.0.0 ≡ x.1.0.name)
members_after k [] x m = absurd (none_in x m)
members_after k (s ∷ ss) x m = ⊎_elim
    (λ r. let f : (n : Node) × (v : Fields) × (choice_of s n ≡ Some v) × (x ≡ ((n.name, v), (n, k))) = leaf_from k s s x r in
    subst (λ (y : Pair × MemberFields). (i : ℕ) × (y.1.1 ≡ k + i) × (choice_at (s ∷ ss) i y.1.0 ≡ Some y.0.1) × (y.0.0 ≡ y.1.0.name)) (sym f.3) (0, omega arith, f.2, refl))
    (λ r. let f : (i : ℕ) × (x.1.1 ≡ (k + 1) + i) × (choice_at ss i x.1.0 ≡ Some x.0.1) × (x.0.0 ≡ x.1.0.name) = members_after (k + 1) ss x r in
    (suc f.0, omega (arith, f.1), f.2, f.3))
    (Contains-append_cases (leaf_members k s s) (all_members (k + 1) ss) x m)

pub members_from : (ss : List Selection) (x : Pair × MemberFields) → Contains (all_members 0 ss) x → (choice_at ss x.1.1 x.1.0 ≡ Some x.0.1) × (x.0.0 ≡ x.1.0.name)
members_from ss x m =
    let f : (i : ℕ) × (x.1.1 ≡ 0 + i) × (choice_at ss i x.1.0 ≡ Some x.0.1) × (x.0.0 ≡ x.1.0.name) = members_after 0 ss x m in
    let same : x.1.1 ≡ f.0 = omega (arith, f.1) in
    (ap (λ (i : ℕ). choice_at ss i x.1.0) same ∙ f.2, f.3)

members_at : (k : ℕ) (ss : List Selection) (i : ℕ) (n : Node) (v : Fields) → choice_at ss i n ≡ Some v → Contains (all_members k ss) ((n.name, v), (n, k + i))
members_at k [] i n v e = cc
members_at k (s ∷ ss) zero n v e = subst (λ (j : ℕ). Contains (all_members k (s ∷ ss)) ((n.name, v), (n, j))) (omega arith)
    (Contains-append_left (leaf_members k s s) (all_members (k + 1) ss) ((n.name, v), (n, k)) (leaf_to k s s n v v (chosen_in s n v e) e))
members_at k (s ∷ ss) (suc i) n v e = subst (λ (j : ℕ). Contains (all_members k (s ∷ ss)) ((n.name, v), (n, j))) (omega arith)
    (Contains-append_right (leaf_members k s s) (all_members (k + 1) ss) ((n.name, v), (n, (k + 1) + i)) (members_at (k + 1) ss i n v e))

pub members_to : (ss : List Selection) (i : ℕ) (n : Node) (v : Fields) → choice_at ss i n ≡ Some v → Contains (all_members 0 ss) ((n.name, v), (n, i))
members_to ss i n v e = subst (λ (j : ℕ). Contains (all_members 0 ss) ((n.name, v), (n, j))) (omega arith) (members_at 0 ss i n v e)

-- ---- of a package

base_now : (o : Option (List ℕ)) (i j : ℕ) → Contains (base_row o i) j → (o ≡ None) × (j ≡ i)
base_now None i j m = (refl, only_one i j m)
base_now (Some x) i j m = absurd (none_in j m)

pub base_from : (ms : List MemberFields) (j : ℕ) → Contains (base_rows ms) j → (n : Node) × Contains ms (n, j) × (n.extra ≡ None)
base_from [] j m = absurd (none_in j m)
base_from (d ∷ ms) j m = ⊎_elim
    (λ r. let f : (d.0.extra ≡ None) × (j ≡ d.1) = base_now d.0.extra d.1 j r in
    (d.0, subst (λ (k : ℕ). Contains (d ∷ ms) (d.0, k)) (sym f.1) (contains_first d ms), f.0))
    (λ r. let f : (n : Node) × Contains ms (n, j) × (n.extra ≡ None) = base_from ms j r in (f.0, contains_later d ms (f.0, j) f.1, f.2))
    (Contains-append_cases (base_row d.0.extra d.1) (base_rows ms) j m)

pub base_to : (ms : List MemberFields) (n : Node) (j : ℕ) → Contains ms (n, j) → n.extra ≡ None → Contains (base_rows ms) j
base_to [] n j m e = absurd (none_in (n, j) m)
base_to (d ∷ ms) n j m e = ⊎_elim
    (λ r. Contains-append_left (base_row d.0.extra d.1) (base_rows ms) j
    (subst (λ (y : MemberFields). Contains (base_row y.0.extra y.1) j) r (subst (λ (o : Option (List ℕ)). Contains (base_row o j) j) (sym e) (contains_first j []))))
    (λ r. Contains-append_right (base_row d.0.extra d.1) (base_rows ms) j (base_to ms n j r e))
    (contains_cases d ms (n, j) m)

extra_now : (o : Option (List ℕ)) (i : ℕ) (x : List ℕ × ℕ) → Contains (extra_row o i) x → (o ≡ Some x.0) × (x.1 ≡ i)
extra_now None i x m = absurd (none_in x m)
extra_now (Some y) i x m = let e : x ≡ (y, i) = only_one (y, i) x m in (ap (λ (z : List ℕ × ℕ). Some z.0) (sym e), ap (λ (z : List ℕ × ℕ). z.1) e)

pub extra_from : (ms : List MemberFields) (x : List ℕ × ℕ) → Contains (extra_rows ms) x → (n : Node) × Contains ms (n, x.1) × (n.extra ≡ Some x.0)
extra_from [] x m = absurd (none_in x m)
extra_from (d ∷ ms) x m = ⊎_elim
    (λ r. let f : (d.0.extra ≡ Some x.0) × (x.1 ≡ d.1) = extra_now d.0.extra d.1 x r in
    (d.0, subst (λ (k : ℕ). Contains (d ∷ ms) (d.0, k)) (sym f.1) (contains_first d ms), f.0))
    (λ r. let f : (n : Node) × Contains ms (n, x.1) × (n.extra ≡ Some x.0) = extra_from ms x r in (f.0, contains_later d ms (f.0, x.1) f.1, f.2))
    (Contains-append_cases (extra_row d.0.extra d.1) (extra_rows ms) x m)

pub extra_to : (ms : List MemberFields) (n : Node) (y : List ℕ) (j : ℕ) → Contains ms (n, j) → n.extra ≡ Some y → Contains (extra_rows ms) (y, j)
extra_to [] n y j m e = absurd (none_in (n, j) m)
extra_to (d ∷ ms) n y j m e = ⊎_elim
    (λ r. Contains-append_left (extra_row d.0.extra d.1) (extra_rows ms) (y, j)
    (subst (λ (z : MemberFields). Contains (extra_row z.0.extra z.1) (y, j)) r (subst (λ (o : Option (List ℕ)). Contains (extra_row o j) (y, j)) (sym e) (contains_first (y, j) []))))
    (λ r. Contains-append_right (extra_row d.0.extra d.1) (extra_rows ms) (y, j) (extra_to ms n y j r e))
    (contains_cases d ms (n, j) m)

-- ---- of a node at a version

-- what a filter keeps stands in the list, and what passes it is kept
kept_in : {A : Type 0} (p : A → Bool) (xs : List A) (x : A) → Contains (filter p xs) x → Contains xs x
kept_in p xs x m = All-contains (Contains xs) (filter p xs) x (All-filter p (Contains xs) xs (All-contains_itself xs)) m

kept_of : {A : Type 0} (p : A → Bool) (xs : List A) (x : A) → Contains xs x → p x ≡ true → Contains (filter p xs) x
kept_of p [] x m e = absurd (none_in x m)
kept_of {A = A} p (y ∷ ys) x m e = ⊎_elim
    (λ r. subst (λ (b : Bool). Contains (cond b (y ∷ filter p ys) (filter p ys)) x) (sym (ap p (sym r) ∙ e)) (subst (Contains (y ∷ filter p ys)) (sym r) (contains_first y (filter p ys))))
    (λ r. behind (p y) (filter p ys) (kept_of p ys x r e))
    (contains_cases y ys x m)
  where
    behind : (b : Bool) (zs : List A) → Contains zs x → Contains (cond b (y ∷ zs) zs) x
    behind true zs n = contains_later y zs x n
    behind false zs n = n

-- what is asked at a node is required
pub asked_in : (n : Node) (qs : List RequirementFields) (q : RequirementFields) → Contains (asked_at n qs) q → Contains qs q
asked_in n qs q m = kept_in (λ (p : RequirementFields). may_apply p n) qs q m

-- what is true there in some world is asked
pub asked_where : UnnamedNeverApplies → (n : Node) (qs : List RequirementFields) (q : RequirementFields) (w : WorldFields) → Contains qs q → applies_at q n w ≡ true → Contains (asked_at n qs) q
asked_where law n qs q w m holds = kept_of (λ (p : RequirementFields). may_apply p n) qs q m (named (may_apply q n) refl)
  where
    named : (b : Bool) → may_apply q n ≡ b → may_apply q n ≡ true
    named true e = e
    named false e = absurd (never (applies_at q n w) holds (law q n w e))
      where
        never : (a : Bool) → a ≡ true → a ≡ false → ⊥
        never true t f = cc
        never false t f = cc

-- a target, with a requirement that aims at it
aims_after : (k : ℕ) (rs : List RequirementFields) (a : Node × ℕ) → Contains (aim_rows k rs) a
    → (i : ℕ) × (r : RequirementFields) × (a.1 ≡ k + i) × (slice_get rs i ≡ Some r) × Contains (targets r) a.0
aims_after k [] a m = absurd (none_in a m)
aims_after k (r ∷ rs) a m = ⊎_elim
    (λ q. let f : (n : Node) × Contains (targets r) n × (a ≡ (n, k)) = contains_from_map (λ (n : Node). (n, k)) (targets r) a q in
    subst (λ (b : Node × ℕ). (i : ℕ) × (s : RequirementFields) × (b.1 ≡ k + i) × (slice_get (r ∷ rs) i ≡ Some s) × Contains (targets s) b.0) (sym f.2) (0, r, omega arith, refl, f.1))
    (λ q. let f : (i : ℕ) × (s : RequirementFields) × (a.1 ≡ (k + 1) + i) × (slice_get rs i ≡ Some s) × Contains (targets s) a.0 = aims_after (k + 1) rs a q in
    (suc f.0, f.1, omega (arith, f.2), f.3, f.4))
    (Contains-append_cases (aims_at k (targets r)) (aim_rows (k + 1) rs) a m)

pub aims_from : (rs : List RequirementFields) (a : Node × ℕ) → Contains (aim_rows 0 rs) a → (r : RequirementFields) × (slice_get rs a.1 ≡ Some r) × Contains (targets r) a.0
aims_from rs a m =
    let f : (i : ℕ) × (r : RequirementFields) × (a.1 ≡ 0 + i) × (slice_get rs i ≡ Some r) × Contains (targets r) a.0 = aims_after 0 rs a m in
    let same : a.1 ≡ f.0 = omega (arith, f.2) in
    (f.1, ap (slice_get rs) same ∙ f.3, f.4)

aims_on : (k : ℕ) (rs : List RequirementFields) (i : ℕ) (r : RequirementFields) (n : Node) → slice_get rs i ≡ Some r → Contains (targets r) n → Contains (aim_rows k rs) (n, k + i)
aims_on k [] i r n e m = cc
aims_on k (q ∷ rs) zero r n e m = subst (λ (j : ℕ). Contains (aim_rows k (q ∷ rs)) (n, j)) (omega arith)
    (Contains-append_left (aims_at k (targets q)) (aim_rows (k + 1) rs) (n, k)
    (contains_map (λ (x : Node). (x, k)) (targets q) n (subst (λ (s : RequirementFields). Contains (targets s) n) (some_is {o = Some q} e refl) m)))
aims_on k (q ∷ rs) (suc i) r n e m = subst (λ (j : ℕ). Contains (aim_rows k (q ∷ rs)) (n, j)) (omega arith)
    (Contains-append_right (aims_at k (targets q)) (aim_rows (k + 1) rs) (n, (k + 1) + i) (aims_on (k + 1) rs i r n e m))

pub aims_to : (rs : List RequirementFields) (i : ℕ) (r : RequirementFields) (n : Node) → slice_get rs i ≡ Some r → Contains (targets r) n → Contains (aim_rows 0 rs) (n, i)
aims_to rs i r n e m = subst (λ (j : ℕ). Contains (aim_rows 0 rs) (n, j)) (omega arith) (aims_on 0 rs i r n e m)

use_now : (n : Node) (u : Use) (o : Option Fields) (x : Pick × Use) → Contains (chosen_use n u o) x → (v : Fields) × (o ≡ Some v) × (x ≡ ((n, v), u))
use_now n u None x m = absurd (none_in x m)
use_now n u (Some v) x m = (v, refl, only_one ((n, v), u) x m)

-- a use is of a leaf and a target
pub record IsUse (ss : List Selection) (users : List ℕ) (aims : List (Node × ℕ)) (x : Pick × Use) : Type 0 where
  pub leaf : Contains users x.1.leaf
  pub aim : Contains aims (x.0.0, x.1.requirement)
  pub chosen : choice_at ss x.1.leaf x.0.0 ≡ Some x.0.1

aim_from : (ss : List Selection) (a : Node × ℕ) (users : List ℕ) (x : Pick × Use) → Contains (aim_uses ss a users) x → IsUse ss users (a ∷ []) x
aim_from ss a [] x m = absurd (none_in x m)
aim_from ss a (i ∷ is) x m = ⊎_elim
    (λ r. let f : (v : Fields) × (choice_at ss i a.0 ≡ Some v) × (x ≡ ((a.0, v), record { leaf = i; requirement = a.1 })) =
    use_now a.0 (record { leaf = i; requirement = a.1 }) (choice_at ss i a.0) x r in
    subst (IsUse ss (i ∷ is) (a ∷ [])) (sym f.2) (record { leaf = contains_first i is; aim = contains_first a []; chosen = f.1 }))
    (λ r. let f : IsUse ss is (a ∷ []) x = aim_from ss a is x r in record { leaf = contains_later i is x.1.leaf f.leaf; aim = f.aim; chosen = f.chosen })
    (Contains-append_cases (chosen_use a.0 (record { leaf = i; requirement = a.1 }) (choice_at ss i a.0)) (aim_uses ss a is) x m)

pub uses_from : (ss : List Selection) (users : List ℕ) (aims : List (Node × ℕ)) (x : Pick × Use) → Contains (all_uses ss users aims) x → IsUse ss users aims x
uses_from ss users [] x m = absurd (none_in x m)
uses_from ss users (a ∷ aims) x m = ⊎_elim
    (λ r. let f : IsUse ss users (a ∷ []) x = aim_from ss a users x r in
    record { leaf = f.leaf; aim = subst (Contains (a ∷ aims)) (sym (only_one a (x.0.0, x.1.requirement) f.aim)) (contains_first a aims); chosen = f.chosen })
    (λ r. let f : IsUse ss users aims x = uses_from ss users aims x r in record { leaf = f.leaf; aim = contains_later a aims (x.0.0, x.1.requirement) f.aim; chosen = f.chosen })
    (Contains-append_cases (aim_uses ss a users) (all_uses ss users aims) x m)

aim_to : (ss : List Selection) (a : Node × ℕ) (users : List ℕ) (i : ℕ) (v : Fields) → Contains users i → choice_at ss i a.0 ≡ Some v
    → Contains (aim_uses ss a users) ((a.0, v), record { leaf = i; requirement = a.1 })
aim_to ss a [] i v m e = absurd (none_in i m)
aim_to ss a (k ∷ is) i v m e = ⊎_elim
    (λ r. Contains-append_left (chosen_use a.0 (record { leaf = k; requirement = a.1 }) (choice_at ss k a.0)) (aim_uses ss a is) ((a.0, v), record { leaf = i; requirement = a.1 })
    (subst (λ (j : ℕ). Contains (chosen_use a.0 (record { leaf = j; requirement = a.1 }) (choice_at ss j a.0)) ((a.0, v), record { leaf = i; requirement = a.1 })) r
    (subst (λ (o : Option Fields). Contains (chosen_use a.0 (record { leaf = i; requirement = a.1 }) o) ((a.0, v), record { leaf = i; requirement = a.1 })) (sym e)
    (contains_first ((a.0, v), record { leaf = i; requirement = a.1 }) []))))
    (λ r. Contains-append_right (chosen_use a.0 (record { leaf = k; requirement = a.1 }) (choice_at ss k a.0)) (aim_uses ss a is) ((a.0, v), record { leaf = i; requirement = a.1 }) (aim_to ss a is i v r e))
    (contains_cases k is i m)

pub uses_to : (ss : List Selection) (users : List ℕ) (aims : List (Node × ℕ)) (n : Node) (j i : ℕ) (v : Fields) → Contains aims (n, j) → Contains users i → choice_at ss i n ≡ Some v
    → Contains (all_uses ss users aims) ((n, v), record { leaf = i; requirement = j })
uses_to ss users [] n j i v m u e = absurd (none_in (n, j) m)
uses_to ss users (a ∷ aims) n j i v m u e = ⊎_elim
    (λ r. Contains-append_left (aim_uses ss a users) (all_uses ss users aims) ((n, v), record { leaf = i; requirement = j })
    (subst (λ (b : Node × ℕ). Contains (aim_uses ss b users) ((n, v), record { leaf = i; requirement = j })) r (aim_to ss (n, j) users i v u e)))
    (λ r. Contains-append_right (aim_uses ss a users) (all_uses ss users aims) ((n, v), record { leaf = i; requirement = j }) (uses_to ss users aims n j i v r u e))
    (contains_cases a aims (n, j) m)
