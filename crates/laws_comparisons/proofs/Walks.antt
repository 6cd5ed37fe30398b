-- What a lock gives at a node asks no comparisons but the lock's.
use Rattle.std.proofs.Common.{◌≡◌, ◌↔◌, ◌∙◌, ◌++◌, ⊎_elim, ℕ, zero, suc, List, [], ◌∷◌, flat_map, None, Option, Some, refl, sym, ap, subst}
use Rattle.std.specs.Prelude.{Contains}
use Rattle.std.proofs.lemmas.Bool.Decides.{Decides-like, same_from_decides}
use Rattle.std.proofs.lemmas.List.Elements.{Contains-append_left, Contains-append_right}
use Rattle.ul_base.proofs.ForCallers.{contains_cases, contains_first, contains_flat, none_in}
use Rattle.ul_comparison.specs.Atoms.{AtomFields, has_atom}
use Rattle.ul_comparison.specs.Worlds.{WorldFields}
use Rattle.ul_nodes.specs.Levels.{IsKey, atom_level}
use Rattle.ul_nodes.specs.Plain.{Plain, truth, node, Branches, done, branch, carried_part, carries}
use Rattle.ul_nodes.specs.Reduced.{Fits, FitsAll, HasBranch}
use Rattle.ul_tree.specs.Sample.{atom_of}
use Rattle.ul_tree.specs.Values.{has_level, mark_of, tree_holds, value_of}
use Rattle.ul_tree.proofs.ForCallers.{atom_back}
use Rattle.ul_lock.specs.declared.parts.Edge.{Edge}
use Rattle.ul_lock.specs.declared.parts.Lock.{Lock}
use Rattle.ul_lock.specs.declared.parts.Locked.{Locked}
use Rattle.ul_lines.specs.Reader.{Each}
use Rattle.ul_lock.specs.WellFormed.{IsEdge, IsListed, IsPackage, IsWellFormed}
use Rattle.ul_lock.specs.Walk.{AgreeAt, AgreeAtAll, HasEdge, IsEdgeOf, Pick as NodeAt, Walk}
use Rattle.ul_lock.proofs.ForCallers.{walks_agree}
use Rattle.ul_filter.specs.Comparisons.{branch_atoms, edge_atoms, extra_atoms, level_atoms, lock_atoms, package_atoms, tree_atoms}
use Rattle.laws_comparisons.specs.Comparisons.{HaveAlike, WalksAskTheirs, with_truths}
use Rattle.laws_comparisons.proofs.Asked.{AreAsked, asks_itself, back, front, had}
use Rattle.laws_comparisons.proofs.OfTrees.{simpler_asks}

-- ---- trees

first_key : (bs : Branches) (l : List ℕ) (d : Plain) → HasBranch bs → FitsAll bs l d → (k : List ℕ) × IsKey l k
first_key done l d h f = absurd h
first_key (branch k c rest) l d h f = (k, f.0)

-- worlds that differ in comparisons that aren't asked
module _ (asked : List AtomFields) (w : WorldFields) (ts : List AtomFields) (alike : HaveAlike asked w.truths ts) where
  level_agrees : (l k : List ℕ) → IsKey l k → AreAsked asked (level_atoms l)
      → value_of w [] l ≡ value_of (with_truths w ts) [] l
  level_agrees [] k i h = absurd i
  level_agrees (zero ∷ []) k i h = refl
  level_agrees (suc zero ∷ []) k i h = refl
  level_agrees (suc (suc n) ∷ []) k i h = refl
  level_agrees (a ∷ b ∷ rest) k i h =
      let l : List ℕ = a ∷ b ∷ rest in
      let x : AtomFields = i.0.0 in
      let e : l ≡ atom_level x = i.0.2 in
      let told = h (atom_of l) (contains_first (atom_of l) []) in
      let is : atom_of l ≡ x = ap atom_of e ∙ atom_back x in
      ap (λ z. mark_of (has_level w.truths z)) e
      ∙ (ap mark_of (alike x (sym (ap (has_atom asked) is) ∙ told)) ∙ ap (λ z. mark_of (has_level ts z)) (sym e))

  mutual
    pub tree_agrees : (t : Plain) (b : List ℕ) → Fits t b → AreAsked asked (tree_atoms t)
        → AgreeAt w (with_truths w ts) t
    tree_agrees (truth x) b f h = tt
    tree_agrees (node l d bs) b f h =
        let key = first_key bs l d f.1 f.3 in
        let parts = back asked (level_atoms l) (tree_atoms d ++ branch_atoms bs) h in (
          level_agrees l key.0 key.1 (front asked (level_atoms l) (tree_atoms d ++ branch_atoms bs) h),
          tree_agrees d l f.2 (front asked (tree_atoms d) (branch_atoms bs) parts),
          branches_agree bs l d f.3 (back asked (tree_atoms d) (branch_atoms bs) parts),
        )

    branches_agree : (bs : Branches) (l : List ℕ) (d : Plain) → FitsAll bs l d → AreAsked asked (branch_atoms bs)
        → AgreeAtAll w (with_truths w ts) bs
    branches_agree done l d f h = tt
    branches_agree (branch k c rest) l d f h = (
      tree_agrees c l f.2 (front asked (tree_atoms c) (branch_atoms rest) h),
      branches_agree rest l (carried_part (carries l) c d) f.4 (back asked (tree_atoms c) (branch_atoms rest) h),
    )

-- ---- locks

each_at : {A : Type 0} (P : A → Type 0) (xs : List A) (x : A) → Each P xs → Contains xs x → P x
each_at P [] x h at = absurd (none_in x at)
each_at P (y ∷ ys) x h at =
    ⊎_elim (λ e. subst P (sym e) h.0) (λ later. each_at P ys x h.1 later) (contains_cases y ys x at)

-- the edges of a well formed lock are edges
edge_of : (b : Locked) (x : Option (List ℕ)) (e : Edge) → IsPackage b → IsEdgeOf b x e → IsEdge e
edge_of b None e h at = each_at IsEdge b.edges e h.edges.each at
edge_of b (Some x) e h (y, listed, named, at) =
    each_at IsEdge y.edges e (each_at IsListed b.extras y h.extras listed).edges.each at

is_edge : (l : Lock) (p : NodeAt) (e : Edge) → IsWellFormed l → HasEdge l p e → IsEdge e
is_edge l p e well has =
    edge_of has.from.block p.0.extra e (each_at IsPackage l.packages has.from.block well.packages has.from.listed) has.edge

of_edges : (es : List Edge) (e : Edge) (a : AtomFields) → Contains es e → Contains (tree_atoms e.marker) a
    → Contains (edge_atoms es) a
of_edges es e a at h = contains_flat (λ (x : Edge). tree_atoms x.marker) es e a at h

-- an edge's comparisons are among its package's
of_package : (b : Locked) (x : Option (List ℕ)) (e : Edge) (a : AtomFields) → IsEdgeOf b x e
    → Contains (tree_atoms e.marker) a → Contains (package_atoms b) a
of_package b None e a at h =
    Contains-append_left (edge_atoms b.edges) (flat_map extra_atoms b.extras) a (of_edges b.edges e a at h)
of_package b (Some x) e a (y, listed, named, at) h =
    Contains-append_right (edge_atoms b.edges) (flat_map extra_atoms b.extras) a
    (contains_flat extra_atoms b.extras y a listed (of_edges y.edges e a at h))

-- and so they are among the lock's
edge_asks : (l : Lock) (p : NodeAt) (e : Edge) → HasEdge l p e → AreAsked (lock_atoms l) (tree_atoms e.marker)
edge_asks l p e has =
    asks_itself (lock_atoms l) (tree_atoms e.marker) (λ a h.
    let packages = flat_map package_atoms l.packages in
    Contains-append_right (tree_atoms l.supported) (flat_map tree_atoms l.forks ++ packages) a
    (Contains-append_right (flat_map tree_atoms l.forks) packages a
    (contains_flat package_atoms l.packages has.from.block a has.from.listed
    (of_package has.from.block p.0.extra e a has.edge h))))

-- worlds that differ in comparisons that the lock doesn't ask have one walk
walks_alike : (l : Lock) (xs : List (List ℕ)) (p : NodeAt) (w : WorldFields) (ts : List AtomFields) → IsWellFormed l
    → HaveAlike (lock_atoms l) w.truths ts → Walk l w xs p ↔ Walk l (with_truths w ts) xs p
walks_alike l xs p w ts well alike =
    walks_agree l w (with_truths w ts) xs (λ n e has.
    tree_agrees (lock_atoms l) w ts alike e.marker [] (is_edge l n e well has).marker.reduced (edge_asks l n e has)) p

pub walks_ask_theirs : WalksAskTheirs
walks_ask_theirs l xs p t well h =
    had (lock_atoms l) (tree_atoms t)
    (simpler_asks (lock_atoms l) h.tree l.supported t h.reduced (λ x w ts world other alike.
    let walks = walks_alike l xs p w ts well alike in
    same_from_decides (tree_holds h.tree w x) (tree_holds h.tree (with_truths w ts) x) (h.truth w x world)
    (Decides-like (tree_holds h.tree (with_truths w ts) x) walks.1 walks.0 (h.truth (with_truths w ts) x other)))
    h.simplifies)
