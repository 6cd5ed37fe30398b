-- The walk is least, and agrees in worlds that agree.
use Rattle.std.proofs.Common.{◌≡◌, ℕ, List, [], Bool, true, refl, sym, ◌∙◌}
use Rattle.ul_base.specs.Reached.{begun, led}
use Rattle.ul_base.proofs.ForCallers.{reached_in}
use Rattle.ul_comparison.specs.Worlds.{WorldFields}
use Rattle.ul_nodes.specs.Plain.{Plain, truth, node, Branches, done, branch, by_order, carries, carried_part, text_cmp, holds_of, holds_in}
use Rattle.ul_tree.specs.Values.{value_of}
use Rattle.ul_lock.specs.declared.parts.Lock.{Lock}
use Rattle.ul_lock.specs.Walk.{Pick, WalkBegins, WalkLeads, Walk, WalkIsLeast, AgreeAt, AgreeAtAll, AgreeOnLock, WalksAgree}

least_has : (l : Lock) (w : WorldFields) (xs : List (List ℕ)) (has : Pick → Bool)
    → ((p : Pick) → WalkBegins l xs p → has p ≡ true)
    → ((p q : Pick) → has p ≡ true → WalkLeads l w p q → has q ≡ true)
    → (p : Pick) → Walk l w xs p → has p ≡ true
least_has l w xs has b s p r = reached_in {B = WalkBegins l xs} {S = WalkLeads l w} (λ q. has q ≡ true) b (λ q t _ e h. s q t e h) r

-- the walk is the least set
pub walk_is_least : WalkIsLeast
walk_is_least = record {
  begins = λ l w xs p h. begun p h;
  leads = λ l w xs p q r h. led p q r h;
  least = least_has;
}

-- ---- worlds that agree on a tree

mutual
  -- worlds that agree on a tree's comparisons give it one truth
  pub holds_alike : (w v : WorldFields) (t : Plain) → AgreeAt w v t → holds_of t (value_of w []) ≡ holds_of t (value_of v [])
  holds_alike w v (truth b) h = refl
  holds_alike w v (node l d bs) h = alike_in w v bs (carries l) (value_of w [] l) (value_of v [] l) (holds_of d (value_of w [])) (holds_of d (value_of v [])) h.0 (holds_alike w v d h.1) h.2

  alike_in : (w v : WorldFields) (bs : Branches) (m : Bool) (k k' : List ℕ) (t t' : Bool) → k ≡ k' → t ≡ t' → AgreeAtAll w v bs
      → holds_in bs m k t (value_of w []) ≡ holds_in bs m k' t' (value_of v [])
  alike_in w v done m k k' t t' e f h = f
  alike_in w v (branch key part rest) m k k' t t' e f h =
      let g = holds_alike w v part h.0 in
      let r = alike_in w v rest m k k' (carried_part m (holds_of part (value_of w [])) t) (carried_part m (holds_of part (value_of v [])) t') e (λ i. carried_part m (g i) (f i)) h.1 in
      λ i. by_order (text_cmp (e i) key) (f i) (g i) (r i)

along : (l : Lock) (w v : WorldFields) (p q : Pick) → AgreeOnLock l w v → WalkLeads l w p q → WalkLeads l v p q
along l w v p q a (e, has, holds, to, at) = (e, has, sym (holds_alike w v e.marker (a p e has)) ∙ holds, to, at)

mutual
  agree_back : (w v : WorldFields) (t : Plain) → AgreeAt w v t → AgreeAt v w t
  agree_back w v (truth b) h = tt
  agree_back w v (node l d bs) h = (sym h.0, agree_back w v d h.1, agree_back_all w v bs h.2)

  agree_back_all : (w v : WorldFields) (bs : Branches) → AgreeAtAll w v bs → AgreeAtAll v w bs
  agree_back_all w v done h = tt
  agree_back_all w v (branch k c rest) h = (agree_back w v c h.0, agree_back_all w v rest h.1)

walk_along : (l : Lock) (w v : WorldFields) (xs : List (List ℕ)) → AgreeOnLock l w v → (p : Pick) → Walk l w xs p → Walk l v xs p
walk_along l w v xs a p r = reached_in {B = WalkBegins l xs} {S = WalkLeads l w} (λ q. Walk l v xs q) (λ q h. begun q h) (λ q t _ e h. led q t e (along l w v q t a h)) r

-- worlds that agree on the lock's comparisons have one walk
pub walks_agree : WalksAgree
walks_agree l w v xs a p = (walk_along l w v xs a p, walk_along l v w xs (λ q e has. agree_back w v e.marker (a q e has)) p)
