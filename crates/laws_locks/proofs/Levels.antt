-- The orders of packages and of edges' ends, and that what is level in them is equal where versions are eligible.
use Rattle.std.proofs.Common.{◌≡◌, ℕ, List, [], ◌∷◌, Option, Some, None, Contains, sym, ap, ap₂, ◌∙◌, subst}
use Rattle.std.proofs.Common.{Less, Equal, Greater, refl, ⊎_elim}
use Rattle.std.specs.Cmp.{IsTotalOrder, tied_back, then_total, on_total}
use Rattle.std.specs.Cmp.Lexicographic.{nat_list_cmp_total, options_total}
use Rattle.std.specs.Option.{option_cmp}
use Rattle.std.specs.Ordering.{on, ordering_then, then_cmp}
use Rattle.std.specs.declared.cmp.Ordering.{Ordering}
use Rattle.ul_base.specs.Names.{name_cmp}
use Rattle.ul_base.specs.declared.node.Node.{Node}
use Rattle.ul_base.proofs.ForCallers.{contains_cases, node_cmp_same, none_in}
use Rattle.ul_nodes.proofs.ForCallers.{cmp_equal}
use Rattle.ul_version.specs.Fields.{Fields}
use Rattle.ul_version.specs.Order.{version_cmp}
use Rattle.ul_version.proofs.ForCallers.{version_total}
use Rattle.ul_requirement.specs.Fields.{VersionsDiffer}
use Rattle.ul_index.specs.Catalogs.{Packages, releases_of}
use Rattle.ul_index.specs.Eligible.{eligible}
use Rattle.ul_index.specs.Laws.{EligibleRises, VersionsRise}
use Rattle.ul_lock.specs.Walk.{Pick}
use Rattle.ul_lock_nodes.specs.Order.{node_cmp}
use Rattle.ul_sound.specs.Merged.{Pair}

-- packages by name and version
abbrev pub pair_cmp : Pair → Pair → Ordering
pair_cmp = then_cmp (on (λ i. i.0) name_cmp) (on (λ i. i.1) version_cmp)

pub names_total : IsTotalOrder name_cmp
names_total = nat_list_cmp_total

pub pairs_total : IsTotalOrder pair_cmp
pairs_total = then_total (on_total (λ (i : Pair). i.0) nat_list_cmp_total) (on_total (λ (i : Pair). i.1) version_total)

pub picks_total : IsTotalOrder node_cmp
picks_total = then_total (on_total (λ (q : Pick). q.0.name) nat_list_cmp_total)
    (then_total (on_total (λ (q : Pick). q.1) version_total)
    (on_total (λ (q : Pick). q.0.extra) (options_total nat_list_cmp_total)))

then_first : (o p : Ordering) → ordering_then o p ≡ Equal → o ≡ Equal
then_first Less p e = cc
then_first Equal p e = refl
then_first Greater p e = cc

then_second : (o p : Ordering) → ordering_then o p ≡ Equal → p ≡ Equal
then_second Less p e = cc
then_second Equal p e = e
then_second Greater p e = cc

-- names that are level are equal
pub names_same : (a b : List ℕ) → name_cmp a b ≡ Equal → a ≡ b
names_same a b e = cmp_equal a b e

-- versions that rise behind one are greater
risen : (v : Fields) (vs : List Fields) (u : Fields) → VersionsRise (Some v) vs → Contains vs u → version_cmp v u ≡ Less
risen v [] u r m = absurd (none_in u m)
risen v (x ∷ vs) u r m = ⊎_elim (λ e. ap (version_cmp v) e ∙ r.0)
    (λ q. version_total.trans v x u r.0 (risen x vs u r.1 q)) (contains_cases x vs u m)

apart : (v u : Fields) → version_cmp v u ≡ Less → version_cmp v u ≡ Equal → ⊥
apart v u p q = cc

level_versions : (b : Option Fields) (vs : List Fields) (v u : Fields) → VersionsRise b vs → Contains vs v
    → Contains vs u → version_cmp v u ≡ Equal → v ≡ u
level_versions b [] v u r m n e = absurd (none_in v m)
level_versions b (x ∷ vs) v u r m n e = ⊎_elim
    (λ p. ⊎_elim (λ q. p ∙ sym q) (λ q. absurd (apart v u (ap (λ k. version_cmp k u) p ∙ risen x vs u r.1 q) e))
    (contains_cases x vs u n))
    (λ p. ⊎_elim
    (λ q. absurd (apart u v (ap (λ k. version_cmp k v) q ∙ risen x vs v r.1 p) (tied_back version_total v u e)))
    (λ q. level_versions (Some x) vs v u r.1 p q e) (contains_cases x vs u n))
    (contains_cases x vs v m)

-- the versions of each name's releases differ
abbrev pub AllDiffer : Packages → Type 0
AllDiffer c = (n : List ℕ) → VersionsDiffer (releases_of c n)

module _ (law : EligibleRises) (c : Packages) (differ : AllDiffer c) where
  -- eligible versions of a name that are level are equal
  pub versions_same : (n : List ℕ) (v u : Fields) → Contains (eligible c n) v → Contains (eligible c n) u
      → version_cmp v u ≡ Equal → v ≡ u
  versions_same n v u = level_versions None (eligible c n) v u (law c n (differ n))

  -- packages that are level are equal
  pub pairs_same : (i j : Pair) → Contains (eligible c i.0) i.1 → Contains (eligible c j.0) j.1 → pair_cmp i j ≡ Equal
      → i ≡ j
  pairs_same i j m n e =
      let names : i.0 ≡ j.0 = names_same i.0 j.0 (then_first (name_cmp i.0 j.0) (version_cmp i.1 j.1) e) in
      let versions : i.1 ≡ j.1 = versions_same j.0 i.1 j.1
      (subst (λ (x : List ℕ). Contains (eligible c x) i.1) names m) n
      (then_second (name_cmp i.0 j.0) (version_cmp i.1 j.1) e) in
      ap₂ (λ (a : List ℕ) (b : Fields). (a, b)) names versions

  -- nodes at versions that are level are equal
  pub picks_same : (p q : Pick) → Contains (eligible c p.0.name) p.1 → Contains (eligible c q.0.name) q.1
      → node_cmp p q ≡ Equal → p ≡ q
  picks_same p q m n e =
      let first : Ordering = name_cmp p.0.name q.0.name in
      let second : Ordering = version_cmp p.1 q.1 in
      let third : Ordering = option_cmp name_cmp p.0.extra q.0.extra in
      let level : first ≡ Equal = then_first first (ordering_then second third) e in
      let rest : ordering_then second third ≡ Equal = then_second first (ordering_then second third) e in
      let nodes : p.0 ≡ q.0 = node_cmp_same p.0 q.0 (ap₂ ordering_then level (then_second second third rest)) in
      let versions : p.1 ≡ q.1 = versions_same q.0.name p.1 q.1
      (subst (λ (x : Node). Contains (eligible c x.name) p.1) nodes m) n
      (then_first second third rest) in
      ap₂ (λ (a : Node) (b : Fields). (a, b)) nodes versions
