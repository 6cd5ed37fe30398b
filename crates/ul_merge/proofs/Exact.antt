-- Eligible versions that are level are equal, and groups of one key are one.
use Rattle.std.proofs.Common.{◌≡◌, ◌⊎◌, ℕ, List, [], ◌∷◌, Bool, true, false, Option, Some, None, Contains, refl, sym, ap, ap₂, ◌∙◌, subst, inl, inr, ⊎_elim, is_lt, Less, Equal, Greater}
use Rattle.std.specs.Cmp.{IsTotalOrder, tied_itself, then_total, on_total}
use Rattle.std.specs.Cmp.Lexicographic.{nat_list_cmp_total, options_total}
use Rattle.std.specs.Option.{option_cmp}
use Rattle.std.specs.Ordering.{ordering_then, then_cmp, on}
use Rattle.std.specs.declared.cmp.Ordering.{Ordering}
use Rattle.ul_base.specs.Names.{name_cmp}
use Rattle.ul_base.specs.Nodes.{node_cmp}
use Rattle.ul_base.specs.declared.node.Node.{Node}
use Rattle.ul_base.proofs.ForCallers.{contains_cases, contains_first, contains_later, node_cmp_same, none_in}
use Rattle.ul_version.specs.Fields.{Fields}
use Rattle.ul_version.specs.Order.{version_cmp}
use Rattle.ul_version.proofs.ForCallers.{version_total}
use Rattle.ul_requirement.specs.Fields.{VersionsDiffer}
use Rattle.ul_index.specs.Catalogs.{Packages, releases_of}
use Rattle.ul_index.specs.Eligible.{eligible}
use Rattle.ul_index.specs.Laws.{EligibleRises, IsVersionAfter, VersionsRise}
use Rattle.ul_lock.specs.Increasing.{Rising}
use Rattle.ul_sound.proofs.ForCallers.{IsStrict, before_all, strict}
use Rattle.ul_merge.specs.Gathered.{AreGroups}
use Rattle.ul_merge.specs.Keys.{extra_cmp, pair_cmp, pair_of, pick_cmp, pick_of}
use Rattle.ul_merge.specs.declared.gathering.Group.{Group}
use Rattle.ul_merge.specs.declared.keys.ExtraKey.{ExtraKey}
use Rattle.ul_merge.specs.declared.keys.PairKey.{PairKey}
use Rattle.ul_merge.specs.declared.keys.PickKey.{PickKey}

-- ---- the orders of keys

pub picks_total : IsTotalOrder pick_cmp
picks_total = then_total (on_total (λ (k : PickKey). k.node.now.name) nat_list_cmp_total)
    (then_total (on_total (λ (k : PickKey). k.version.now) version_total) (on_total (λ (k : PickKey). k.node.now.extra) (options_total nat_list_cmp_total)))

pub pairs_total : IsTotalOrder pair_cmp
pairs_total = then_total (on_total (λ (k : PairKey). k.name.now) nat_list_cmp_total) (on_total (λ (k : PairKey). k.version.now) version_total)

pub extras_total : IsTotalOrder extra_cmp
extras_total = on_total (λ (k : ExtraKey). k.name.now) nat_list_cmp_total

less_is : (o : Ordering) → is_lt o ≡ true → o ≡ Less
less_is Less e = refl
less_is Equal e = cc
less_is Greater e = cc

-- ---- groups

level_back : {K : Type 0} (cmp : K → K → Ordering) → IsTotalOrder cmp → (k j : K) → cmp k j ≡ Equal → cmp j k ≡ Equal
level_back cmp total k j e = sym (total.congr k j k e) ∙ tied_itself total k

module _ {K V : Type 0} (cmp : K → K → Ordering) (total : IsTotalOrder cmp) where
  groups_strict : IsStrict (λ (g h : Group K V). is_lt (cmp g.key h.key))
  groups_strict = strict (λ (g h : Group K V). cmp g.key h.key) (on_total (λ (g : Group K V). g.key) total)

  -- the order of groups goes on
  pub groups_through : (a b c : Group K V) → is_lt (cmp a.key b.key) ≡ true → is_lt (cmp b.key c.key) ≡ true → is_lt (cmp a.key c.key) ≡ true
  groups_through = groups_strict.through

  not_level : (g h : Group K V) → is_lt (cmp g.key h.key) ≡ true → cmp g.key h.key ≡ Equal → ⊥
  not_level g h p q = cc

  -- groups whose keys are level are one
  pub same_group : (gs : List (Group K V)) (g h : Group K V) → Rising (λ g h. is_lt (cmp g.key h.key)) gs → Contains gs g → Contains gs h → cmp g.key h.key ≡ Equal → g ≡ h
  same_group [] g h r m n e = absurd (none_in g m)
  same_group (x ∷ gs) g h r m n e = ⊎_elim
      (λ p. ⊎_elim (λ q. p ∙ sym q)
      (λ q. absurd (not_level g h (subst (λ (y : Group K V). is_lt (cmp y.key h.key) ≡ true) (sym p) (before_all (λ (a b : Group K V). is_lt (cmp a.key b.key)) groups_strict x gs h r q)) e))
      (contains_cases x gs h n))
      (λ p. ⊎_elim
      (λ q. absurd (not_level h g (subst (λ (y : Group K V). is_lt (cmp y.key g.key) ≡ true) (sym q) (before_all (λ (a b : Group K V). is_lt (cmp a.key b.key)) groups_strict x gs g r p)) (level_back cmp total g.key h.key e)))
      (λ q. same_group gs g h r.1 p q e)
      (contains_cases x gs h n))
      (contains_cases x gs g m)

-- ---- versions

then_first : (o p : Ordering) → ordering_then o p ≡ Equal → o ≡ Equal
then_first Less p e = cc
then_first Equal p e = refl
then_first Greater p e = cc

then_second : (o p : Ordering) → ordering_then o p ≡ Equal → p ≡ Equal
then_second Less p e = cc
then_second Equal p e = e
then_second Greater p e = cc

then_both : (o p : Ordering) → o ≡ Equal → p ≡ Equal → ordering_then o p ≡ Equal
then_both o p e f = ap₂ ordering_then e f

-- names that are level are equal
pub names_same : (a b : List ℕ) → name_cmp a b ≡ Equal → a ≡ b
names_same a b e = ap (λ (n : Node). n.name) (node_cmp_same (record { name = a; extra = None }) (record { name = b; extra = None }) (then_both (name_cmp a b) Equal e refl))

-- a version stands after another, which may be missing, and above what that stands above
risen : (v : Fields) (vs : List Fields) (u : Fields) → VersionsRise (Some v) vs → Contains vs u → version_cmp v u ≡ Less
risen v [] u r m = absurd (none_in u m)
risen v (x ∷ vs) u r m = ⊎_elim (λ e. ap (version_cmp v) e ∙ r.0) (λ q. version_total.trans v x u r.0 (risen x vs u r.1 q)) (contains_cases x vs u m)

apart : (v u : Fields) → version_cmp v u ≡ Less → version_cmp v u ≡ Equal → ⊥
apart v u p q = cc

version_back : (v u : Fields) → version_cmp v u ≡ Equal → version_cmp u v ≡ Equal
version_back v u e = sym (version_total.congr v u v e) ∙ tied_itself version_total v

level_versions : (b : Option Fields) (vs : List Fields) (v u : Fields) → VersionsRise b vs → Contains vs v → Contains vs u → version_cmp v u ≡ Equal → v ≡ u
level_versions b [] v u r m n e = absurd (none_in v m)
level_versions b (x ∷ vs) v u r m n e = ⊎_elim
    (λ p. ⊎_elim (λ q. p ∙ sym q) (λ q. absurd (apart v u (ap (λ k. version_cmp k u) p ∙ risen x vs u r.1 q) e)) (contains_cases x vs u n))
    (λ p. ⊎_elim (λ q. absurd (apart u v (ap (λ k. version_cmp k v) q ∙ risen x vs v r.1 p) (version_back v u e)))
    (λ q. level_versions (Some x) vs v u r.1 p q e) (contains_cases x vs u n))
    (contains_cases x vs v m)

module _ (law : EligibleRises) (c : Packages) (differ : (n : List ℕ) → VersionsDiffer (releases_of c n)) where
  -- eligible versions of a name that are level are equal
  pub eligible_same : (n : List ℕ) (v u : Fields) → Contains (eligible c n) v → Contains (eligible c n) u → version_cmp v u ≡ Equal → v ≡ u
  eligible_same n v u = level_versions None (eligible c n) v u (law c n (differ n))

  -- packages that are level are equal
  pub pairs_same : (k j : PairKey) → Contains (eligible c k.name.now) k.version.now → Contains (eligible c j.name.now) j.version.now → pair_cmp k j ≡ Equal → pair_of k ≡ pair_of j
  pairs_same k j m n e =
      let names : k.name.now ≡ j.name.now = names_same k.name.now j.name.now (then_first (name_cmp k.name.now j.name.now) (version_cmp k.version.now j.version.now) e) in
      let versions : k.version.now ≡ j.version.now = eligible_same j.name.now k.version.now j.version.now (subst (λ (x : List ℕ). Contains (eligible c x) k.version.now) names m) n
      (then_second (name_cmp k.name.now j.name.now) (version_cmp k.version.now j.version.now) e) in
      ap₂ (λ (a : List ℕ) (b : Fields). (a, b)) names versions

  -- nodes at versions that are level are equal
  pub picks_same : (k j : PickKey) → Contains (eligible c k.node.now.name) k.version.now → Contains (eligible c j.node.now.name) j.version.now → pick_cmp k j ≡ Equal → pick_of k ≡ pick_of j
  picks_same k j m n e =
      let rest : Ordering = ordering_then (version_cmp k.version.now j.version.now) (option_cmp name_cmp k.node.now.extra j.node.now.extra) in
      let first : name_cmp k.node.now.name j.node.now.name ≡ Equal = then_first (name_cmp k.node.now.name j.node.now.name) rest e in
      let second : rest ≡ Equal = then_second (name_cmp k.node.now.name j.node.now.name) rest e in
      let names : k.node.now.name ≡ j.node.now.name = names_same k.node.now.name j.node.now.name first in
      let nodes : k.node.now ≡ j.node.now = node_cmp_same k.node.now j.node.now (then_both (name_cmp k.node.now.name j.node.now.name) (option_cmp name_cmp k.node.now.extra j.node.now.extra) first
      (then_second (version_cmp k.version.now j.version.now) (option_cmp name_cmp k.node.now.extra j.node.now.extra) second)) in
      let versions : k.version.now ≡ j.version.now = eligible_same j.node.now.name k.version.now j.version.now (subst (λ (x : List ℕ). Contains (eligible c x) k.version.now) names m) n
      (then_first (version_cmp k.version.now j.version.now) (option_cmp name_cmp k.node.now.extra j.node.now.extra) second) in
      ap₂ (λ (a : Node) (b : Fields). (a, b)) nodes versions

-- a key's pick, name and pair when they are equal are level
pub level_picks : (k j : PickKey) → pick_of k ≡ pick_of j → pick_cmp k j ≡ Equal
level_picks k j e = ap (λ (p : Node × Fields). ordering_then (name_cmp p.0.name j.node.now.name) (ordering_then (version_cmp p.1 j.version.now) (option_cmp name_cmp p.0.extra j.node.now.extra))) e ∙ tied_itself picks_total j

pub level_pairs : (k j : PairKey) → pair_of k ≡ pair_of j → pair_cmp k j ≡ Equal
level_pairs k j e = ap (λ (p : List ℕ × Fields). ordering_then (name_cmp p.0 j.name.now) (version_cmp p.1 j.version.now)) e ∙ tied_itself pairs_total j

pub level_extras : (k j : ExtraKey) → k.name.now ≡ j.name.now → extra_cmp k j ≡ Equal
level_extras k j e = ap (λ (n : List ℕ). name_cmp n j.name.now) e ∙ tied_itself extras_total j
