-- What is known of the logs of an interner, and of marks that stand in them.
use Rattle.std.proofs.Common.{◌≡◌, ◌≢◌, ℕ, zero, suc, ◌<◌, ◌%◌, List, [], ◌∷◌, ◌++◌, length, map, set, replicate, Some, None, Ok, sym, refl, ap, ◌∙◌, subst, ◌⊎◌, inl, inr, ⊎_elim, arith, get_or-set_same, get_or-set_other, length-set}
use Rattle.std.proofs.lemmas.List.{length-replicate}
use Rattle.std.specs.List.{slice_get}
use mathlib.Core.Logic.{dite}
use native.Mathlib.Decide.{ℕ_discrete}
use Rattle.ul_core.specs.declared.trees.Tree.TheFolds.{every_here-Tree}
use Rattle.ul_core.specs.declared.trees.Tree.TheViews.{out-Tree, roll-out-Tree}
use Rattle.ul_core.specs.declared.events.Event.TheVariants.{Publish}
use Rattle.ul_core.specs.Trees.{Has, parts_of}
use Rattle.ul_core.specs.Core.{first_core, log_of, shard_of, Stands}
use Rattle.ul_core.specs.Steps.{Takes, MayPublish, after_tree}
use Rattle.ul_core.specs.Laws.{IsSound}
use Rattle.ul_core.proofs.ForCallers.{each_run_is_sound, run_more, parts_of_tree_with, label_of_tree_with}
use Rattle.ul_interner.specs.Marked.{Node, Marked, label_of, id_of, stored_hash, plain, hash_at}
use Rattle.ul_interner.specs.Logs.{at, AllBegin, core_of, StandsIn, StandsHere, KnownIn, AreLogs, AreSeen}
use Rattle.ul_interner.proofs.Grown.{plain_is}
use Rattle.ul_interner.proofs.Lists.{some_is, begins_refl, begins_more, got_begins, got_snoc, got_last, knows_set, get_map, map_get, at_map, set_map, append_map, length_map, at_empty}

module _ {L : Type 0} where
  -- a mark that stands in some logs stands in all that begin with them
  pub stands_on : (xs ys : List (List (Marked L))) (m : Marked L) → AllBegin xs ys → StandsIn xs m → StandsIn ys m
  stands_on xs ys m k s = got_begins (at xs (id_of m).0) (at ys (id_of m).0) (id_of m).1 m (k (id_of m).0) s

  -- a known mark stands in the logs
  pub known_stands : (logs : List (List (Marked L))) (m : Marked L) → KnownIn logs m → StandsIn logs m
  known_stands logs m k = subst (StandsIn logs) (roll-out-Tree (Node L) m) (every_here-Tree (Node L) (StandsHere logs) m k)

  -- marks of one identity are one
  pub one_mark : (logs : List (List (Marked L))) (a b : Marked L) → StandsIn logs a → StandsIn logs b → id_of a ≡ id_of b → a ≡ b
  one_mark logs a b sa sb e = some_is a b (sym sa ∙ (ap (λ z. slice_get (at logs z.0) z.1) e ∙ sb))

  pub plain_parts : (m : Marked L) → parts_of (plain m) ≡ map plain (parts_of m)
  plain_parts m = ap parts_of (plain_is m) ∙ parts_of_tree_with (label_of m) (map plain (parts_of m))

  pub plain_label : (m : Marked L) → (out-Tree L (plain m)).label ≡ label_of m
  plain_label m = ap (λ z. (out-Tree L z).label) (plain_is m) ∙ label_of_tree_with (label_of m) (map plain (parts_of m))

  module _ (f : L → ℕ) (n : ℕ) where
    pub wide_core : (logs : List (List (Marked L))) → AreLogs f n logs → length (core_of logs).logs ≡ n
    wide_core logs r = length_map (map plain) logs ∙ r.wide

    pub sound : (logs : List (List (Marked L))) → AreLogs f n logs → IsSound f (core_of logs)
    sound logs r = (each_run_is_sound f n r.run.0 r.run.1 (core_of logs) (omega (arith, r.some)) r.run.2).1

    -- the tree of a mark that stands in the logs
    plain_at : (logs : List (List (Marked L))) (m : Marked L) → StandsIn logs m → slice_get (log_of (core_of logs) (id_of m).0) (id_of m).1 ≡ Some (plain m)
    plain_at logs m s = ap (λ z. slice_get z (id_of m).1) (at_map plain logs (id_of m).0) ∙ map_get plain (at logs (id_of m).0) (id_of m).1 m s

    -- marks of one tree have one identity
    pub one_id : (logs : List (List (Marked L))) (a b : Marked L) → AreLogs f n logs → StandsIn logs a → StandsIn logs b → plain a ≡ plain b → id_of a ≡ id_of b
    one_id logs a b r sa sb e =
        let d = (sound logs r).differ (id_of a).0 (id_of b).0 (id_of a).1 (id_of b).1 (plain a) (plain_at logs a sa) (plain_at logs b sb ∙ ap Some (sym e)) in
        λ i. (d.0 i, d.1 i)

    -- a tree stands in the core where its mark stands in the logs
    pub stands_plain : (logs : List (List (Marked L))) (m : Marked L) → AreLogs f n logs → StandsIn logs m → Stands f (core_of logs) (plain m)
    stands_plain logs m r s =
        let here = plain_at logs m s in
        let own : (id_of m).0 ≡ shard_of f (core_of logs) (plain m) = (sound logs r).own (id_of m).0 (plain m) ((id_of m).1, here) in
        ((id_of m).1, subst (λ z. slice_get (log_of (core_of logs) z) (id_of m).1 ≡ Some (plain m)) own here)

    -- the mark x may be published as the next one of its shard k
    pub record MayGrow (logs : List (List (Marked L))) (k : ℕ) (x : Marked L) : Type 0 where
      pub below : k < n
      pub own : hash_at f x % n ≡ k
      pub id : id_of x ≡ (k, length (at logs k))
      pub hash : stored_hash x ≡ hash_at f x
      pub fresh : (i : ℕ) (m : Marked L) → slice_get (at logs k) i ≡ Some m → plain m ≢ plain x
      pub parts : (p : Marked L) → Has (parts_of x) p → StandsIn logs p

    pub may_publish : (logs : List (List (Marked L))) (k : ℕ) (x : Marked L) → AreLogs f n logs → MayGrow logs k x → MayPublish f (core_of logs) k (plain x)
    may_publish logs k x r may =
        let own : k ≡ shard_of f (core_of logs) (plain x) = sym may.own ∙ ap (λ z. hash_at f x % z) (sym (wide_core logs r)) in record {
          own = own;
          fresh = λ h. let g = get_map plain (at logs k) h.0 (plain x) (subst (λ z. slice_get z h.0 ≡ Some (plain x)) (ap (log_of (core_of logs)) (sym own) ∙ at_map plain logs k) h.1) in may.fresh h.0 g.0 g.1 g.2;
          parts = λ p h. let g = get_map plain (parts_of x) h.0 p (subst (λ z. slice_get z h.0 ≡ Some p) (plain_parts x) h.1) in
              subst (Stands f (core_of logs)) g.2 (stands_plain logs g.0 r (may.parts g.0 (h.0, g.1)));
        }

    pub core_grown : (logs : List (List (Marked L))) (k : ℕ) (x : Marked L) → core_of (set logs k (at logs k ++ x ∷ [])) ≡ after_tree (core_of logs) k (plain x)
    core_grown logs k x =
        ap (λ z. record { logs = z; claims = 0 }) (set_map (map plain) logs k (at logs k ++ x ∷ [])
        ∙ ap (set (map (map plain) logs) k) (append_map plain (at logs k) (x ∷ []) ∙ ap (λ z. z ++ plain x ∷ []) (sym (at_map plain logs k))))

    pub takes_grown : (logs : List (List (Marked L))) (k : ℕ) (x : Marked L) → AreLogs f n logs → MayGrow logs k x → Takes f (core_of logs) (Publish k (plain x)) None (core_of (set logs k (at logs k ++ x ∷ [])))
    takes_grown logs k x r may = (may_publish logs k x r may, refl, core_grown logs k x)

    -- the logs with one mark more
    pub logs_grown : (logs : List (List (Marked L))) (k : ℕ) (x : Marked L) → AreLogs f n logs → MayGrow logs k x → AreLogs f n (set logs k (at logs k ++ x ∷ []))
    logs_grown logs k x r may =
        let log : List (Marked L) = at logs k ++ x ∷ [] in
        let now : List (List (Marked L)) = set logs k log in
        let inside : k < length logs = omega (arith, r.wide, may.below) in
        let more : AllBegin logs now = knows_set logs k log inside (begins_more (at logs k) (at logs k) (x ∷ []) (begins_refl (at logs k))) in
        -- a mark of the new logs is one of the old logs, or the new one
        let split : (j i : ℕ) (m : Marked L) → slice_get (at now j) i ≡ Some m → (slice_get (at logs j) i ≡ Some m) ⊎ ((j ≡ k) × (i ≡ length (at logs k)) × (x ≡ m)) = λ j i m e. dite (ℕ_discrete j k)
        (λ is. ⊎_elim (λ p. inl (subst (λ z. slice_get (at logs z) i ≡ Some m) (sym is) p)) (λ q. inr (is, q.0, q.1))
        (got_snoc (at logs k) x i m (subst (λ z. slice_get z i ≡ Some m) (ap (at now) is ∙ get_or-set_same logs k log [] inside) e)))
        (λ no. inl (subst (λ z. slice_get z i ≡ Some m) (get_or-set_other logs k j log [] no) e)) in record {
          some = r.some;
          wide = length-set logs k log ∙ r.wide;
          run = (r.run.0 ++ Publish k (plain x) ∷ [], r.run.1 ++ Ok None ∷ [], run_more f (first_core n) r.run.0 r.run.1 (core_of logs) (Publish k (plain x)) (Ok None) (core_of now) r.run.2 (takes_grown logs k x r may));
          ids = λ j i m e. ⊎_elim (λ p. r.ids j i m p) (λ q. ap id_of (sym q.2) ∙ (may.id ∙ (λ z. (sym q.0 z, sym q.1 z)))) (split j i m e);
          hashes = λ j i m e. ⊎_elim (λ p. r.hashes j i m p) (λ q. subst (λ z. stored_hash z ≡ hash_at f z) q.2 may.hash) (split j i m e);
          parts = λ j i m p e h. stands_on logs now p more (⊎_elim (λ o. r.parts j i m p o h) (λ q. may.parts p (subst (λ z. Has (parts_of z) p) (sym q.2) h)) (split j i m e));
        }

    map_empty : (n : ℕ) → core_of {L = L} (replicate n []) ≡ first_core n
    map_empty n = ap (λ z. record { logs = z; claims = 0 }) (empties n)
      where
        empties : (n : ℕ) → map (map (plain {L = L})) (replicate n []) ≡ replicate n []
        empties zero = refl
        empties (suc n) = ap (λ z. [] ∷ z) (empties n)

    pub logs_begin : 0 < n → AreLogs f n (replicate n [])
    logs_begin some = record {
      some = some;
      wide = length-replicate n [];
      run = ([], [], map_empty n);
      ids = λ k i m e. absurd (none k i m e);
      hashes = λ k i m e. absurd (none k i m e);
      parts = λ k i m p e h. absurd (none k i m e);
    }
      where
        none : (k i : ℕ) (m : Marked L) → slice_get (at (replicate n []) k) i ≡ Some m → ⊥
        none k i m e = Rattle.ul_interner.proofs.Lists.none_got i m (subst (λ z. slice_get z i ≡ Some m) (at_empty n k) e)

    -- of two known marks the identities are equal where the trees are
    pub same_id : (seen : List (List (Marked L))) (a b : Marked L) → AreSeen f n seen → KnownIn seen a → KnownIn seen b → plain a ≡ plain b → id_of a ≡ id_of b
    same_id seen a b r ka kb e = one_id r.all a b r.are (stands_on seen r.all a r.begins (known_stands seen a ka)) (stands_on seen r.all b r.begins (known_stands seen b kb)) e

  -- and the trees where the identities are
  pub same_tree : (seen : List (List (Marked L))) (a b : Marked L) → KnownIn seen a → KnownIn seen b → id_of a ≡ id_of b → plain a ≡ plain b
  same_tree seen a b ka kb e = ap plain (one_mark seen a b (known_stands seen a ka) (known_stands seen b kb) e)
