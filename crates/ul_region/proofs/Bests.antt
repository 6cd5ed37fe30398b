-- The best picks of a problem are, by their names, the best selection of the region.
use Rattle.std.proofs.Common.{◌≡◌, ℕ, zero, suc, ◌<◌, List, [], ◌∷◌, ◌++◌, map, find, not, is_some, Bool, true, false, cond, Option, Some, None, Contains, refl, sym, ap, subst, ◌∙◌, ⊎_elim, inl, inr, slice_get, get_or, nat_eq, eq-eqb, arith}
use Rattle.std.proofs.lemmas.Option.{none-some, same_Some}
use Rattle.std.proofs.lemmas.Bool.{eqb-true}
use Rattle.std.specs.Cmp.{both_ways}
use Rattle.std.specs.Ordering.{ordering_reverse}
use Rattle.std.specs.declared.cmp.Ordering.{Ordering}
use Rattle.std.specs.declared.cmp.Ordering.TheVariants.{Less, Equal, Greater}
use Rattle.ul_base.specs.declared.node.Node.{Node}
use Rattle.ul_base.specs.Nodes.{node_cmp, node_eq, node_cmp-total}
use Rattle.ul_version.specs.Fields.{Fields}
use Rattle.ul_problem.specs.Terms.{Selection as Places}
use Rattle.ul_problem.specs.Plain.{Plain, node_at, needs_in, order_in}
use Rattle.ul_problem.specs.Problems.{IsWellFormed, NodeBefore}
use Rattle.ul_problem.specs.Best.{is_decided, first_open, targets as place_targets, joined_needs, next_of, Agrees, Extends, IsFirst as IsFirstPlace, IsBestFrom as IsBestPlacesFrom}
use Rattle.ul_problem.specs.declared.problem.Need.{Need as PlaceNeed}
use Rattle.ul_problem.specs.declared.problem.NodeFacts.{NodeFacts}
use Rattle.ul_requirement.specs.Fields.{WishFields}
use Rattle.ul_base.specs.Kept.{IsFirst}
use Rattle.ul_index.specs.Regions.{Region}
use Rattle.ul_index.specs.Catalogs.{Packages}
use Rattle.ul_index.specs.Serves.{Selection, choice_of}
use Rattle.ul_index.specs.Preference.{preference}
use Rattle.ul_base.proofs.ForCallers.{contains_first, contains_later, none_in}
use Rattle.ul_base.proofs.ForCallers.{contains_cases}
use Rattle.ul_region.specs.Best.{Need, AreJoined, next, CanServe, IsBestFrom}
use Rattle.ul_region.specs.Problem.{IsAt, AreAt, AreVersionsAt, AreNeedsAt, HasNeedsAt, IsProblemOf}
use Rattle.ul_region.specs.Naming.{Matches, IsNamed, AreNamed}
use Rattle.ul_region.specs.Laws.{BestNames}
use Rattle.ul_region.proofs.Increasing.{one_place, version_place}
use Rattle.ul_region.proofs.Places.{node_whole}
use Rattle.ul_region.proofs.Bridge.{Picked, picked_at, named_at}
use Rattle.ul_region.proofs.Placing.{itself, same_node, before_trans, places_for, names_for}

level_itself : (o : Ordering) → o ≡ ordering_reverse o → o ≡ Less → ⊥
level_itself Less e h = cc
level_itself Equal e h = cc
level_itself Greater e h = cc

not_before : (f g : NodeFacts) → f.node ≡ g.node → NodeBefore f g → ⊥
not_before f g e h = level_itself (node_cmp g.node g.node) (node_cmp-total.antisymm g.node g.node) (subst (λ (n : Node). node_cmp n g.node ≡ Less) e h)

-- a node stands at one place
node_place : (p : Plain) (j k : ℕ) (f g : NodeFacts) → IsWellFormed p → node_at p j ≡ Some f → node_at p k ≡ Some g → f.node ≡ g.node → j ≡ k
node_place p j k f g wf d e same = one_place NodeBefore before_trans p.nodes j k f g wf.increasing d e (not_before f g same) (not_before g f (sym same))

-- ---- what is decided

module _ (p : Plain) (wf : IsWellFormed p) where
  place_tests : (e : ℕ × ℕ) (d : Node × Fields) (k : ℕ) (f : NodeFacts) → IsNamed p e d → node_at p k ≡ Some f → nat_eq e.0 k ≡ node_eq d.0 f.node
  place_tests e d k f h at = both_ways (nat_eq e.0 k) (node_eq d.0 f.node)
      (λ t. let same : h.facts ≡ f = same_Some h.facts f (sym h.at ∙ (ap (node_at p) (eqb-true e.0 k t) ∙ at)) in
      subst (λ (n : Node). node_eq n f.node ≡ true) (sym (ap (λ (g : NodeFacts). g.node) same) ∙ h.node) (itself f.node))
      (λ t. eq-eqb e.0 k (node_place p e.0 k h.facts f wf h.at at (h.node ∙ same_node d.0 f.node t)))

  decided_head : (a b : Bool) (x : Bool) (o : Option Fields) (v : Fields) → a ≡ b → x ≡ is_some o → cond a true x ≡ is_some (cond b (Some v) o)
  decided_head true true x o v e h = refl
  decided_head true false x o v e h = cc
  decided_head false true x o v e h = cc
  decided_head false false x o v e h = h

  decided_alike : (d : List (ℕ × ℕ)) (ds : Selection) → AreNamed p d ds → (k : ℕ) (f : NodeFacts) → node_at p k ≡ Some f → is_decided k d ≡ is_some (choice_of ds f.node)
  unfolding choice_of
  decided_alike [] [] h k f at = refl
  decided_alike [] (x ∷ xs) h k f at = absurd h
  decided_alike (e ∷ d) [] h k f at = absurd h
  decided_alike (e ∷ d) (x ∷ xs) h k f at = decided_head (nat_eq e.0 k) (node_eq x.0 f.node) (is_decided k d) (choice_of xs f.node) x.1 (place_tests e x k f h.0 at) (decided_alike d xs h.1 k f at)

  -- the first open place and the first undecided node
  abbrev OpenAlike : Option ℕ → Option Node → Type 0
  OpenAlike None None = Unit {0}
  OpenAlike None (Some n) = ⊥
  OpenAlike (Some k) None = ⊥
  OpenAlike (Some k) (Some n) = IsAt p k n

  open_head : (b : Bool) (x : Bool) (k : ℕ) (n : Node) (o : Option ℕ) (q : Option Node) → b ≡ x → IsAt p k n → OpenAlike o q → OpenAlike (cond b o (Some k)) (cond (not x) (Some n) q)
  open_head true true k n o q e at h = h
  open_head true false k n o q e at h = cc
  open_head false true k n o q e at h = cc
  open_head false false k n o q e at h = at

  open_alike : (d : List (ℕ × ℕ)) (ds : Selection) → AreNamed p d ds → (ks : List ℕ) (ns : List Node) → AreAt p ks ns → OpenAlike (first_open d ks) (find (λ n. not (is_some (choice_of ds n))) ns)
  open_alike d ds h [] [] a = tt
  open_alike d ds h [] (n ∷ ns) a = absurd a
  open_alike d ds h (k ∷ ks) [] a = absurd a
  open_alike d ds h (k ∷ ks) (n ∷ ns) a = open_head (is_decided k d) (is_some (choice_of ds n)) k n (first_open d ks) (find (λ n. not (is_some (choice_of ds n))) ns)
      (decided_alike d ds h k a.0.0 a.0.1 ∙ ap (λ (m : Node). is_some (choice_of ds m)) a.0.2) a.0 (open_alike d ds h ks ns a.1)

  none_open : (o : Option ℕ) (q : Option Node) → OpenAlike o q → o ≡ None → q ≡ None
  none_open None None h e = refl
  none_open None (Some n) h e = absurd h
  none_open (Some k) q h e = cc

  some_open : (o : Option ℕ) (q : Option Node) (k : ℕ) → OpenAlike o q → o ≡ Some k → (n : Node) × (q ≡ Some n) × IsAt p k n
  some_open None q k h e = absurd (none-some k e)
  some_open (Some j) None k h e = absurd h
  some_open (Some j) (Some n) k h e = (n, refl, subst (λ i. IsAt p i n) (same_Some j k e) h)

at_joined : (p : Plain) (ks js : List ℕ) (ns ms : List Node) → AreAt p ks ns → AreAt p js ms → AreAt p (ks ++ js) (ns ++ ms)
at_joined p [] js [] ms a b = b
at_joined p [] js (n ∷ ns) ms a b = absurd a
at_joined p (k ∷ ks) js [] ms a b = absurd a
at_joined p (k ∷ ks) js (n ∷ ns) ms a b = (a.0, at_joined p ks js ns ms a.1 b)

targets_at : (p : Plain) (ks : List PlaceNeed) (ts : List Need) → AreNeedsAt p ks ts → AreAt p (place_targets ks) (map (λ t. t.node) ts)
targets_at p [] [] h = tt
targets_at p [] (t ∷ ts) h = absurd h
targets_at p (k ∷ ks) [] h = absurd h
targets_at p (k ∷ ks) (t ∷ ts) h = ((h.0.facts, h.0.at, h.0.node), targets_at p ks ts h.1)

map_joined : (xs ys : List Need) → map (λ (t : Need). t.node) (xs ++ ys) ≡ map (λ (t : Need). t.node) xs ++ map (λ (t : Need). t.node) ys
map_joined [] ys = refl
map_joined (x ∷ xs) ys = ap (λ r. x.node ∷ r) (map_joined xs ys)

named_more : (p : Plain) (d : List (ℕ × ℕ)) (ds : Selection) (e : ℕ × ℕ) (x : Node × Fields) → AreNamed p d ds → IsNamed p e x → AreNamed p (d ++ e ∷ []) (ds ++ x ∷ [])
named_more p [] [] e x h n = (n, tt)
named_more p [] (y ∷ ys) e x h n = absurd h
named_more p (a ∷ d) [] e x h n = absurd h
named_more p (a ∷ d) (y ∷ ys) e x h n = (h.0, named_more p d ys e x h.1 n)

-- the first place of an order is the first of the versions that stand there
first_at : (versions : List Fields) (P : ℕ → Type 0) (Q : Fields → Type 0) (to : (w : ℕ) (x : Fields) → slice_get versions w ≡ Some x → P w → Q x) (from : (w : ℕ) (x : Fields) → slice_get versions w ≡ Some x → Q x → P w)
    (ks : List ℕ) (xs : List Fields) → AreVersionsAt versions ks xs → (i v : ℕ) → slice_get ks i ≡ Some v → P v → ((j w : ℕ) → j < i → slice_get ks j ≡ Some w → P w → ⊥) → (x : Fields) → slice_get versions v ≡ Some x → IsFirst Q xs x
first_at versions P Q to from [] [] h i v e y passed x s = absurd (none-some v e)
first_at versions P Q to from [] (z ∷ zs) h i v e y passed x s = absurd h
first_at versions P Q to from (k ∷ ks) [] h i v e y passed x s = absurd h
first_at versions P Q to from (k ∷ ks) (z ∷ zs) h zero v e y passed x s =
    let same : z ≡ x = same_Some z x (sym h.0 ∙ (ap (slice_get versions) (same_Some k v e) ∙ s)) in
    inl (record { holds = to k z h.0 (subst P (sym (same_Some k v e)) y); is = sym same })
first_at versions P Q to from (k ∷ ks) (z ∷ zs) h (suc i) v e y passed x s =
    inr (record { fails = λ q. passed 0 k (omega arith) refl (from k z h.0 q); more = first_at versions P Q to from ks zs h.1 i v e y (λ j w l a b. passed (suc j) w (omega (arith, l)) a b) x s })

module _ (c : Packages) (starts : List Node) (wish : WishFields) (R : Region) (p : Plain) (is : IsProblemOf c starts wish R p) where
  -- ---- needs
  record Joined (d : List (ℕ × ℕ)) (ds : Selection) : Type 0 where
    needs : List Need
    are : AreJoined c R ds needs
    at : AreAt p (joined_needs p d) (map (λ t. t.node) needs)

  own_needs : (e : ℕ × ℕ) (x : Node × Fields) (h : IsNamed p e x) → HasNeedsAt c R p x.0 x.1 (needs_in (node_at p e.0) e.1)
  own_needs e x h = subst (λ (o : Option NodeFacts). HasNeedsAt c R p x.0 x.1 (needs_in o e.1)) (sym h.at)
      (subst (λ (n : Node). HasNeedsAt c R p n x.1 (get_or h.facts.needs e.1 [])) h.node ((is.facts e.0 h.facts h.at).needs e.1 x.1 h.version))

  joined_more : (e : ℕ × ℕ) (x : Node × Fields) (d : List (ℕ × ℕ)) (ds : Selection) → HasNeedsAt c R p x.0 x.1 (needs_in (node_at p e.0) e.1) → Joined d ds → Joined (e ∷ d) (x ∷ ds)
  joined_more e x d ds own rest = record {
    needs = own.needs ++ rest.needs;
    are = record { own = own.needs; rest = rest.needs; of_own = own.are; of_rest = rest.are; joined = refl };
    at = subst (λ l. AreAt p (place_targets (needs_in (node_at p e.0) e.1) ++ joined_needs p d) l) (sym (map_joined own.needs rest.needs))
        (at_joined p (place_targets (needs_in (node_at p e.0) e.1)) (joined_needs p d) (map (λ t. t.node) own.needs) (map (λ t. t.node) rest.needs) (targets_at p (needs_in (node_at p e.0) e.1) own.needs own.at) rest.at);
  }

  joined : (d : List (ℕ × ℕ)) (ds : Selection) → AreNamed p d ds → Joined d ds
  joined [] [] h = record { needs = []; are = refl; at = tt }
  joined [] (x ∷ xs) h = absurd h
  joined (e ∷ d) [] h = absurd h
  joined (e ∷ d) (x ∷ xs) h = joined_more e x d xs (own_needs e x h.0) (joined d xs h.1)

  next_alike : (d : List (ℕ × ℕ)) (ds : Selection) → AreNamed p d ds → (j : Joined d ds) → OpenAlike p is.well_formed (next_of p d) (next starts ds j.needs)
  next_alike d ds h j = open_alike p is.well_formed d ds h (p.roots ++ joined_needs p d) (starts ++ map (λ t. t.node) j.needs) (at_joined p p.roots (joined_needs p d) starts (map (λ t. t.node) j.needs) is.roots j.at)

  -- ---- what can be extended
  pick_named : (σ : Places) (s : Selection) → Matches p σ s → (e : ℕ × ℕ) (x : Node × Fields) (h : IsNamed p e x) → σ e.0 ≡ Some e.1 → Picked h.facts (σ e.0) (choice_of s h.facts.node) → choice_of s x.0 ≡ Some x.1
  pick_named σ s m e x h a t =
      let place : t.v ≡ e.1 = same_Some t.v e.1 (sym t.placed ∙ a) in
      let here : slice_get h.facts.versions e.1 ≡ Some t.x = subst (λ (v : ℕ). slice_get h.facts.versions v ≡ Some t.x) place t.stands in
      ap (choice_of s) (sym h.node) ∙ (t.named ∙ ap Some (same_Some t.x x.1 (sym here ∙ h.version)))

  agrees_names : (σ : Places) (s : Selection) → Matches p σ s → (d : List (ℕ × ℕ)) (ds : Selection) → AreNamed p d ds → Agrees σ d → (x : Node × Fields) → Contains ds x → choice_of s x.0 ≡ Some x.1
  agrees_names σ s m [] [] h a x i = absurd (none_in x i)
  agrees_names σ s m [] (y ∷ ys) h a x i = absurd h
  agrees_names σ s m (e ∷ d) [] h a x i = absurd h
  agrees_names σ s m (e ∷ d) (y ∷ ys) h a x i = ⊎_elim
      (λ q. subst (λ (z : Node × Fields). choice_of s z.0 ≡ Some z.1) (sym q) (pick_named σ s m e y h.0 a.0 (picked_at c starts wish R p σ s is m e.0 e.1 h.0.facts h.0.at a.0)))
      (λ r. agrees_names σ s m d ys h.1 a.1 x r) (contains_cases y ys x i)

  place_named : (σ : Places) (s : Selection) (e : ℕ × ℕ) (x : Node × Fields) (h : IsNamed p e x) → choice_of s h.facts.node ≡ Some x.1 → Picked h.facts (σ e.0) (choice_of s h.facts.node) → σ e.0 ≡ Some e.1
  place_named σ s e x h a t =
      let version : t.x ≡ x.1 = same_Some t.x x.1 (sym t.named ∙ a) in
      let here : slice_get h.facts.versions t.v ≡ Some x.1 = subst (λ (y : Fields). slice_get h.facts.versions t.v ≡ Some y) version t.stands in
      t.placed ∙ ap Some (version_place h.facts.versions t.v e.1 x.1 (node_whole p e.0 h.facts is.well_formed h.at).increasing here h.version)

  agrees_places : (σ : Places) (s : Selection) → Matches p σ s → (d : List (ℕ × ℕ)) (ds : Selection) → AreNamed p d ds → ((x : Node × Fields) → Contains ds x → choice_of s x.0 ≡ Some x.1) → Agrees σ d
  agrees_places σ s m [] [] h a = tt
  agrees_places σ s m [] (y ∷ ys) h a = absurd h
  agrees_places σ s m (e ∷ d) [] h a = absurd h
  agrees_places σ s m (e ∷ d) (y ∷ ys) h a =
      let named : choice_of s h.0.facts.node ≡ Some y.1 = ap (choice_of s) h.0.node ∙ a y (contains_first y ys) in (
        place_named σ s e y h.0 named (named_at c starts wish R p σ s is m e.0 h.0.facts y.1 h.0.at named),
        agrees_places σ s m d ys h.1 (λ x i. a x (contains_later y ys x i)),
      )

  to_serve : (d : List (ℕ × ℕ)) (ds : Selection) → AreNamed p d ds → Extends p d → CanServe c starts wish R ds
  to_serve d ds h e = let s = names_for c starts wish R p e.0 is e.1 in
      record { selection = s.0; serves = s.3; agrees = λ n v i. agrees_names e.0 s.0 s.1 d ds h e.2 (n, v) i }

  to_extend : (d : List (ℕ × ℕ)) (ds : Selection) → AreNamed p d ds → CanServe c starts wish R ds → Extends p d
  to_extend d ds h e = let σ = places_for c starts wish R p e.selection is e.serves in
      (σ.0, σ.2, agrees_places σ.0 e.selection σ.1 d ds h (λ x i. e.agrees x.0 x.1 i))

  -- ---- the first version
  first_named : (d : List (ℕ × ℕ)) (ds : Selection) → AreNamed p d ds → (n v : ℕ) (f : NodeFacts) (x : Fields) → node_at p n ≡ Some f → slice_get f.versions v ≡ Some x → IsFirstPlace p d n v
      → IsFirst (λ y. CanServe c starts wish R (ds ++ (f.node, y) ∷ [])) (preference c wish f.node.name) x
  first_named d ds h n v f x at stands first = first_at f.versions (λ w. Extends p (d ++ (n, w) ∷ [])) (λ y. CanServe c starts wish R (ds ++ (f.node, y) ∷ []))
      (λ w y s. to_serve (d ++ (n, w) ∷ []) (ds ++ (f.node, y) ∷ []) (named_more p d ds (n, w) (f.node, y) h (record { facts = f; at = at; node = refl; version = s })))
      (λ w y s. to_extend (d ++ (n, w) ∷ []) (ds ++ (f.node, y) ∷ []) (named_more p d ds (n, w) (f.node, y) h (record { facts = f; at = at; node = refl; version = s })))
      f.order (preference c wish f.node.name) (is.facts n f at).order first.0 v (in_order first.0 v first.1) first.2 (λ j w l e. first.3 j w l (from_order j w e)) x stands
    where
      in_order : (i u : ℕ) → slice_get (order_in (node_at p n)) i ≡ Some u → slice_get f.order i ≡ Some u
      in_order i u e = subst (λ (o : Option NodeFacts). slice_get (order_in o) i ≡ Some u) at e

      from_order : (i u : ℕ) → slice_get f.order i ≡ Some u → slice_get (order_in (node_at p n)) i ≡ Some u
      from_order i u e = subst (λ (o : Option NodeFacts). slice_get (order_in o) i ≡ Some u) (sym at) e

  same_at : (k : ℕ) (f : NodeFacts) (n : Node) → node_at p k ≡ Some f → IsAt p k n → n ≡ f.node
  same_at k f n at i = sym i.2 ∙ ap (λ (g : NodeFacts). g.node) (same_Some i.0 f (sym i.1 ∙ at))

  next_named : (d : List (ℕ × ℕ)) (ds : Selection) (e : ℕ × ℕ) (x : Node × Fields) (j : Joined d ds) → IsNamed p e x → ((n : Node) × (next starts ds j.needs ≡ Some n) × IsAt p e.0 n) → next starts ds j.needs ≡ Some x.0
  next_named d ds e x j h n = n.1 ∙ ap Some (same_at e.0 h.facts n.0 h.at n.2 ∙ h.node)

  first_of : (d : List (ℕ × ℕ)) (ds : Selection) → AreNamed p d ds → (e : ℕ × ℕ) (x : Node × Fields) (h : IsNamed p e x) → IsFirstPlace p d e.0 e.1 → IsFirst (λ y. CanServe c starts wish R (ds ++ (x.0, y) ∷ [])) (preference c wish x.0.name) x.1
  first_of d ds a e x h first = subst (λ (n : Node). IsFirst (λ y. CanServe c starts wish R (ds ++ (n, y) ∷ [])) (preference c wish n.name) x.1) h.node
      (first_named d ds a e.0 e.1 h.facts x.1 h.at h.version first)

  best_from : (d es : List (ℕ × ℕ)) (done ds : Selection) → AreNamed p d done → AreNamed p es ds → IsBestPlacesFrom p d es → IsBestFrom c starts wish R done ds
  best_from d [] done [] h a b = let j = joined d done h in
      record { needs = j.needs; of_needs = j.are; last = none_open p is.well_formed (next_of p d) (next starts done j.needs) (next_alike d done h j) b }
  best_from d [] done (x ∷ xs) h a b = absurd a
  best_from d (e ∷ es) done [] h a b = absurd a
  best_from d (e ∷ es) done (x ∷ xs) h a b = let j = joined d done h in record {
    needs = j.needs;
    of_needs = j.are;
    node = next_named d done e x j a.0 (some_open p is.well_formed (next_of p d) (next starts done j.needs) e.0 (next_alike d done h j) b.0);
    version = first_of d done h e x a.0 b.1;
    more = best_from (d ++ e ∷ []) es (done ++ x ∷ []) xs (named_more p d done e x h a.0) a.1 b.2;
  }

pub best_names : BestNames
best_names c starts wish R p es ds is h b = best_from c starts wish R p is [] es [] ds tt h b
