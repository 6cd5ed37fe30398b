-- A lock with the files that the catalog has today: the same walks, so it is verified where the lock was, and it is well
-- formed where the catalog has files as documents have them.
use Rattle.std.proofs.Common.{◌≡◌, ◌∙◌, ◌⊎◌, ℕ, zero, suc, List, [], ◌∷◌, map, Bool, Option, Some, None, refl, sym, ap, subst, inl, inr, Contains}
use Rattle.std.specs.Prelude.{slice_get, ◌+◌, ◌==◌, ◌&&◌, ◌||◌, bytes_eq, cond}
use Rattle.std.specs.List.{list_all, list_any}
use Rattle.std.proofs.lemmas.Option.{none-some, same_Some}
use Rattle.std.proofs.lemmas.List.Sums.{sum_by-cons}
use Rattle.ul_base.specs.Reached.{begun, led}
use Rattle.ul_base.specs.declared.node.Node.{Node}
use Rattle.ul_base.proofs.ForCallers.{contains_first, contains_from_map, contains_later, contains_map, reached_in}
use Rattle.ul_version.specs.Fields.{Fields}
use Rattle.ul_comparison.specs.Worlds.{WorldFields}
use Rattle.ul_requirement.specs.Fields.{IsFile, ReleaseFields, RequirementFields}
use Rattle.ul_lines.specs.Reader.{Each}
use Rattle.ul_index.specs.Catalogs.{Packages, release_of}
use Rattle.ul_project.specs.Fields.{ProjectFields}
use Rattle.ul_lock.specs.Increasing.{Before, Rising}
use Rattle.ul_lock.specs.Orders.{block_less, file_less}
use Rattle.ul_lock.specs.Targets.{all_lead_on, count_named, has_target, is_target, package_leads_on}
use Rattle.ul_lock.specs.Walk.{HasEdge, HasPackage, IsEdgeOf, Pick, Walk}
use Rattle.ul_lock.specs.WellFormed.{IsPackage, IsWellFormed}
use Rattle.ul_lock.specs.declared.parts.Edge.{Edge}
use Rattle.ul_lock.specs.declared.parts.Lock.{Lock}
use Rattle.ul_lock.specs.declared.parts.Locked.{Locked}
use Rattle.ul_sound.specs.Headline.{HasRightFiles}
use Rattle.ul_sound.specs.Merged.{files_in}
use Rattle.ul_verified.specs.Verified.{IsEarlier, IsGiven, IsPackageReached, IsReachedOf, IsRequired, IsRight, IsRoot, IsVerified}
use Rattle.laws_relock.specs.Answered.{RefreshedPromises}
use Rattle.ul_commands.specs.Relocking.{IsAskedFor, ListsNoOther, refreshed, refreshed_package}

-- what stands at a place of a mapped list is the image of what stands there
image_at : {A B : Type 0} (f : A → B) (xs : List A) (k : ℕ) (y : B) → slice_get (map f xs) k ≡ Some y
    → (x : A) × (slice_get xs k ≡ Some x) × (f x ≡ y)
image_at f [] k y at = absurd (none-some y at)
image_at f (x ∷ xs) zero y at = (x, refl, same_Some (f x) y at)
image_at f (x ∷ xs) (suc k) y at = image_at f xs k y at

module _ (c : Packages) where
  -- the package with the files of today
  abbrev today : Locked → Locked
  today b = refreshed_package c b

  -- ---- locks that have them

  package_same : (b : Locked) → b.files ≡ files_in (release_of c b.name b.version) → today b ≡ b
  package_same b e = λ i. record b { files = sym e i }

  packages_same : (bs : List Locked) → ((b : Locked) → Contains bs b → b.files ≡ files_in (release_of c b.name b.version))
      → map today bs ≡ bs
  packages_same [] h = refl
  packages_same (b ∷ bs) h =
      let first = package_same b (h b (contains_first b bs)) in
      let rest = packages_same bs (λ x at. h x (contains_later b bs x at)) in
      λ i. first i ∷ rest i

  -- a lock that has the files of today stays as it is
  pub refreshed_same : (l : Lock) → ((b : Locked) → Contains l.packages b → b.files ≡ files_in (release_of c b.name b.version))
      → refreshed c l ≡ l
  refreshed_same l h = ap (λ bs. record l { packages = bs }) (packages_same l.packages h)

  packages_twice : (bs : List Locked) → map today (map today bs) ≡ map today bs
  packages_twice [] = refl
  packages_twice (b ∷ bs) = ap (λ xs. today b ∷ xs) (packages_twice bs)

  -- and so does a lock that was given them
  pub refreshed_twice : (l : Lock) → refreshed c (refreshed c l) ≡ refreshed c l
  refreshed_twice l = ap (λ bs. record l { packages = bs }) (packages_twice l.packages)

  module _ (l : Lock) where
    abbrev new : Lock
    new = refreshed c l

    -- ---- walks

    abbrev package_to : (name : List ℕ) (v : Fields) → HasPackage l name v → HasPackage new name v
    package_to name v h = record {
      block = today h.block;
      listed = contains_map today l.packages h.block h.listed;
      named = h.named;
      at = h.at;
    }

    edges_to : (b : Locked) (x : Option (List ℕ)) (e : Edge) → IsEdgeOf b x e → IsEdgeOf (today b) x e
    edges_to b None e h = h
    edges_to b (Some x) e h = h

    edges_from : (b : Locked) (x : Option (List ℕ)) (e : Edge) → IsEdgeOf (today b) x e → IsEdgeOf b x e
    edges_from b None e h = h
    edges_from b (Some x) e h = h

    edge_to : (p : Pick) (e : Edge) → HasEdge l p e → HasEdge new p e
    edge_to p e h = record {
      from = package_to p.0.name p.1 h.from;
      edge = edges_to h.from.block p.0.extra e h.edge;
    }

    edge_from : (p : Pick) (e : Edge) → HasEdge new p e → HasEdge l p e
    edge_from p e h =
        let had = contains_from_map today l.packages h.from.block h.from.listed in
        record {
          from = record {
            block = had.0;
            listed = had.1;
            named = ap (λ (b : Locked). b.name) (sym had.2) ∙ h.from.named;
            at = ap (λ (b : Locked). b.version) (sym had.2) ∙ h.from.at;
          };
          edge = edges_from had.0 p.0.extra e (subst (λ (b : Locked). IsEdgeOf b p.0.extra e) had.2 h.edge);
        }

    package_from : (name : List ℕ) (v : Fields) → HasPackage new name v → HasPackage l name v
    package_from name v h =
        let had = contains_from_map today l.packages h.block h.listed in
        record {
          block = had.0;
          listed = had.1;
          named = ap (λ (b : Locked). b.name) (sym had.2) ∙ h.named;
          at = ap (λ (b : Locked). b.version) (sym had.2) ∙ h.at;
        }

    -- what the one gives the other gives
    pub walk_to : (w : WorldFields) (xs : List (List ℕ)) (p : Pick) → Walk l w xs p → Walk new w xs p
    walk_to w xs p r = reached_in (λ (q : Pick). Walk new w xs q)
        (λ q h. begun q (package_to l.root q.1 h.0, h.1))
        (λ q s _ done h. led q s done (h.0, edge_to q h.0 h.1, h.2, h.3, h.4)) r

    pub walk_from : (w : WorldFields) (xs : List (List ℕ)) (p : Pick) → Walk new w xs p → Walk l w xs p
    walk_from w xs p r = reached_in (λ (q : Pick). Walk l w xs q)
        (λ q h. begun q (package_from l.root q.1 h.0, h.1))
        (λ q s _ done h. led q s done (h.0, edge_from q h.0 h.1, h.2, h.3, h.4)) r

    -- ---- it is verified

    module _ (p : ProjectFields) where
      root_to : IsRoot p l → IsRoot p new
      root_to h = record {
        named = h.named;
        block = today h.block;
        listed = contains_map today l.packages h.block h.listed;
        is = h.is;
        version = h.version;
        extras = h.extras;
      }

      node_reached : (w : WorldFields) (b : Locked) (n : Node) → IsReachedOf p new w (today b) n → IsReachedOf p l w b n
      node_reached w b n h = record { named = h.named; reached = walk_from w p.extras (n, b.version) h.reached }

      package_reached : (w : WorldFields) (b : Locked) → IsPackageReached p new w (today b) → IsPackageReached p l w b
      package_reached w b h = (h.0, node_reached w b h.0 h.1)

      given_to : (w : WorldFields) (b : Locked) (n : Node) (q : RequirementFields) (t : Node) → IsGiven b n w q t → IsGiven (today b) n w q t
      given_to w b n q t h = record {
        edge = h.edge;
        of = edges_to b n.extra h.edge h.of;
        holds = h.holds;
        leads = h.leads;
        meets = h.meets;
      }

      required_to : (w : WorldFields) (b : Locked) (n : Node) (e : Edge) → IsRequired c b n w e → IsRequired c (today b) n w e
      required_to w b n e h = record {
        requirement = h.requirement;
        listed = h.listed;
        holds = h.holds;
        aimed = h.aimed;
        meets = h.meets;
      }

      right_to : (k : ℕ) (b : Locked) → IsRight c p l k b → IsRight c p new k (today b)
      right_to k b h = record {
        counts = h.counts;
        alone = λ w a asked earlier other own.
            let had = image_at today l.packages earlier.place a earlier.at in
            let before : IsEarlier l k b had.0 = record {
              place = earlier.place;
              before = earlier.before;
              at = had.1;
              named = ap (λ (x : Locked). x.name) had.2 ∙ earlier.named;
            } in
            h.alone w had.0 asked before
            (package_reached w had.0 (subst (λ (x : Locked). IsPackageReached p new w x) (sym had.2) other))
            (package_reached w b own);
        fit = λ w asked own. h.fit w asked (package_reached w b own);
        given = λ w n q t asked own listed holds aimed.
            given_to w b n q t (h.given w n q t asked (node_reached w b n own) listed holds aimed);
        required = λ w n e asked own of holds.
            required_to w b n e (h.required w n e asked (node_reached w b n own) (edges_from b n.extra e of) holds);
      }

      -- where the lock is verified, so is it with the files of today
      pub verified_to : IsVerified c p l → IsVerified c p new
      verified_to h = record {
        root = root_to h.root;
        supported = h.supported;
        packages = λ k b at.
            let had = image_at today l.packages k b at in
            subst (IsRight c p new k) had.2 (right_to k had.0 (h.packages k had.0 had.1));
      }

      -- ---- the extras of its root

      asked_to : (x : List ℕ) → IsAskedFor l x → IsAskedFor new x
      asked_to x h = record { from = h.from; edge = h.edge; has = edge_to h.from h.edge h.has; leads = h.leads }

      pub lists_to : ListsNoOther p l → ListsNoOther p new
      lists_to h b y listed named at =
          let had = contains_from_map today l.packages b listed in
          either (h had.0 y had.1 (ap (λ (x : Locked). x.name) (sym had.2) ∙ named)
          (subst (λ (x : Locked). Contains x.extras y) had.2 at))
        where
          either : Contains p.extras y.name ⊎ IsAskedFor l y.name → Contains p.extras y.name ⊎ IsAskedFor new y.name
          either (inl own) = inl own
          either (inr asked) = inr (asked_to y.name asked)

  -- ---- it is well formed

  files_right : (files : HasRightFiles c) (name : List ℕ) (v : Fields) (o : Option ReleaseFields) → release_of c name v ≡ o
      → Each IsFile (files_in o) × Rising file_less (files_in o)
  files_right files name v None e = (tt, tt)
  files_right files name v (Some r) e = files name v r e

  package_right : HasRightFiles c → (b : Locked) → IsPackage b → IsPackage (today b)
  package_right files b h =
      let right = files_right files b.name b.version (release_of c b.name b.version) refl in
      record {
        name = h.name;
        version = h.version;
        files = right.0;
        files_rise = right.1;
        edges = h.edges;
        extras = h.extras;
        extras_rise = h.extras_rise;
      }

  packages_right : HasRightFiles c → (bs : List Locked) → Each IsPackage bs → Each IsPackage (map today bs)
  packages_right files [] h = tt
  packages_right files (b ∷ bs) h = (package_right files b h.0, packages_right files bs h.1)

  before_to : (b : Locked) (bs : List Locked) → Before block_less b bs → Before block_less (today b) (map today bs)
  before_to b [] h = tt
  before_to b (a ∷ bs) h = h

  rises_to : (bs : List Locked) → Rising block_less bs → Rising block_less (map today bs)
  rises_to [] h = tt
  rises_to (b ∷ bs) h = (before_to b bs h.0, rises_to bs h.1)

  count_to : (name : List ℕ) (bs : List Locked) → count_named name (map today bs) ≡ count_named name bs
  count_to name [] = refl
  count_to name (b ∷ bs) =
      let one = λ (x : Locked). cond (bytes_eq x.name name) 1 0 in
      sum_by-cons one (today b) (map today bs) ∙ (ap (λ n. one b + n) (count_to name bs) ∙ sym (sum_by-cons one b bs))

  any_to : (e : Edge) (bs : List Locked) → list_any (is_target e) (map today bs) ≡ list_any (is_target e) bs
  any_to e [] = refl
  any_to e (b ∷ bs) = ap (λ x. is_target e b || x) (any_to e bs)

  target_to : (bs : List Locked) → has_target (map today bs) ≡ has_target bs
  unfolding has_target
  target_to bs = λ i e. any_to e bs i

  leads_in : (bs all : List Locked) → list_all (package_leads_on all) (map today bs) ≡ list_all (package_leads_on all) bs
  leads_in [] all = refl
  leads_in (b ∷ bs) all = ap (λ x. package_leads_on all b && x) (leads_in bs all)

  leads_to : (bs : List Locked) → all_lead_on (map today bs) ≡ all_lead_on bs
  leads_to bs = leads_in bs (map today bs)
      ∙ ap (λ (test : Edge → Bool). list_all (λ b. list_all test b.edges && list_all (λ x. list_all test x.edges) b.extras) bs) (target_to bs)

  -- where the catalog has files as documents have them
  pub well_formed_to : HasRightFiles c → (l : Lock) → IsWellFormed l → IsWellFormed (refreshed c l)
  well_formed_to files l h = record {
    root = h.root;
    supported = h.supported;
    forks = h.forks;
    several = h.several;
    packages = packages_right files l.packages h.packages;
    packages_rise = rises_to l.packages h.packages_rise;
    one_root = ap (λ n. n == 1) (count_to l.root l.packages) ∙ h.one_root;
    targets = leads_to l.packages ∙ h.targets;
  }

pub refreshed_promises : RefreshedPromises
refreshed_promises = record {
  again = refreshed_twice;
  verified = λ c p l. verified_to c l p;
  extras = λ c p l. lists_to c l p;
  well_formed = λ c l files. well_formed_to c files l;
}
