-- What make finds in a body, and what it adds to it.
use Rattle.std.proofs.Common.{◌≡◌, ◌≢◌, ℕ, suc, List, [], ◌∷◌, ◌++◌, length, map, set, Some, sym, refl, ap, ◌∙◌, subst, arith, get_or-set_same}
use Rattle.std.specs.List.{slice_get, fold}
use Rattle.ul_core.specs.declared.trees.Tree.TheViews.{out-Tree}
use Rattle.ul_core.specs.Hashes.{next_hash}
use Rattle.ul_core.specs.Trees.{Has, parts_of}
use Rattle.ul_interner.specs.declared.views.View.{View}
use Rattle.ul_interner.specs.Marked.{Marked, mark_with, label_of, id_of, stored_hash, plain, hash_at, IsNode}
use Rattle.ul_interner.specs.Logs.{at, Begins, AllBegin, StandsIn, KnownIn, AllKnownIn, AreLogs}
use Rattle.ul_interner.specs.Marked.{IsMade}
use Rattle.ul_interner.specs.Rule.{HasLooked}
use Rattle.ul_interner.proofs.Grown.{label_in, id_in, hash_in, parts_in, hash_is}
use Rattle.ul_interner.proofs.Lists.{got_begins, got_last, begins_more, begins_refl, knows_set}
use Rattle.ul_interner.proofs.Seen.{stands_on, one_mark, one_id, known_stands, plain_parts, plain_label}
use Rattle.ul_interner.proofs.Knowing.{known_made, all_stay}

module _ {L : Type 0} where
  abbrev AllStand : List (List (Marked L)) → List (Marked L) → Type 0
  AllStand logs ms = (i : ℕ) (m : Marked L) → slice_get ms i ≡ Some m → StandsIn logs m

  -- marks that stand in one list of logs are equal where their identities are
  same_marks : (logs : List (List (Marked L))) (xs ys : List (Marked L)) → AllStand logs xs → AllStand logs ys → map id_of xs ≡ map id_of ys → xs ≡ ys
  same_marks logs [] [] a b e = refl
  same_marks logs [] (y ∷ ys) a b e = absurd (cc)
  same_marks logs (x ∷ xs) [] a b e = absurd (cc)
  same_marks logs (x ∷ xs) (y ∷ ys) a b e =
      let h : id_of x ≡ id_of y = cc in let t : map id_of xs ≡ map id_of ys = cc in
      let one = one_mark logs x y (a 0 x refl) (b 0 y refl) h in
      let rest = same_marks logs xs ys (λ i m g. a (suc i) m g) (λ i m g. b (suc i) m g) t in
      λ i. one i ∷ rest i

  -- and so are their identities where their trees are
  same_ids : (f : L → ℕ) (n : ℕ) (logs : List (List (Marked L))) (xs ys : List (Marked L)) → AreLogs f n logs → AllStand logs xs → AllStand logs ys → map plain xs ≡ map plain ys → map id_of xs ≡ map id_of ys
  same_ids f n logs [] [] r a b e = refl
  same_ids f n logs [] (y ∷ ys) r a b e = absurd (cc)
  same_ids f n logs (x ∷ xs) [] r a b e = absurd (cc)
  same_ids f n logs (x ∷ xs) (y ∷ ys) r a b e =
      let h : plain x ≡ plain y = cc in let t : map plain xs ≡ map plain ys = cc in
      let one = one_id f n logs x y r (a 0 x refl) (b 0 y refl) h in
      let rest = same_ids f n logs xs ys r (λ i m g. a (suc i) m g) (λ i m g. b (suc i) m g) t in
      λ i. one i ∷ rest i

  module _ (f : L → ℕ) (n k : ℕ) (v : View L) (l : L) (ps : List (Marked L)) (looked : HasLooked f n k v) (known : AllKnownIn v.logs ps) where
    abbrev all : List (List (Marked L))
    all = looked.seen.all

    given_stand : AllStand all ps
    given_stand i p e = stands_on v.logs all p looked.seen.begins (known_stands v.logs p (known i p e))

    in_all : (i : ℕ) (m : Marked L) → slice_get v.hand i ≡ Some m → slice_get (at all k) i ≡ Some m
    in_all i m e = got_begins (at v.logs k) (at all k) i m (looked.seen.begins k) (ap (λ z. slice_get z i) looked.here ∙ e)

    parts_stand : (i : ℕ) (m : Marked L) → slice_get v.hand i ≡ Some m → AllStand all (parts_of m)
    parts_stand i m e j p h = looked.seen.are.parts k i m p (in_all i m e) (j, h)

    id_at : (i : ℕ) (m : Marked L) → slice_get v.hand i ≡ Some m → id_of m ≡ (k, i)
    id_at i m e = looked.seen.are.ids k i m (in_all i m e)

    -- a mark of the body with this label and with parts of the identities of these has just these parts
    parts_are : (i : ℕ) (m : Marked L) → slice_get v.hand i ≡ Some m → IsNode l ps m → parts_of m ≡ ps
    parts_are i m e node = same_marks all (parts_of m) ps (parts_stand i m e) given_stand node.1

    -- the stored hashes of marks that stand in the logs are those of their trees
    stored : (ms : List (Marked L)) → AllStand all ms → map stored_hash ms ≡ map (hash_at f) ms
    stored [] stand = refl
    stored (m ∷ ms) stand =
        let here : stored_hash m ≡ hash_at f m = looked.seen.are.hashes (id_of m).0 (id_of m).1 m (stand 0 m refl) in
        let rest = stored ms (λ i p e. stand (suc i) p e) in
        λ i. here i ∷ rest i

    pub node_hash : (i : ℕ) (m : Marked L) → slice_get v.hand i ≡ Some m → IsNode l ps m → stored_hash m ≡ fold next_hash (f l) (map stored_hash ps)
    node_hash i m e node =
        let parts = parts_are i m e node in
        looked.seen.are.hashes k i m (in_all i m e) ∙ (hash_is f m ∙ ((λ j. fold next_hash (f (node.0 j)) (map (hash_at f) (parts j))) ∙ ap (fold next_hash (f l)) (sym (stored ps given_stand))))

    pub found : (i : ℕ) (m : Marked L) → slice_get v.hand i ≡ Some m → IsNode l ps m → IsMade l ps m × KnownIn v.logs m
    found i m e node =
        let parts = parts_are i m e node in
        let stands : StandsIn v.logs m = ap (λ z. slice_get (at v.logs z.0) z.1) (id_at i m e) ∙ (ap (λ z. slice_get z i) looked.here ∙ e) in
        ((node.0, parts), known_made v.logs m stands (subst (AllKnownIn v.logs) (sym parts) known))

    module _ (hash : ℕ) (x : Marked L) (is : mark_with l k (length v.hand) hash ps ≡ x) where
      -- the hash that is stored with the new mark is that of its tree
      pub new_hash : hash ≡ fold next_hash (f l) (map stored_hash ps) → (stored_hash x ≡ hash_at f x) × (hash_at f x ≡ hash)
      new_hash h =
          let tree : hash_at f x ≡ hash = hash_is f x
          ∙ ((λ j. fold next_hash (f (label_in l k (length v.hand) hash ps x is j)) (map (hash_at f) (parts_in l k (length v.hand) hash ps x is j)))
          ∙ (ap (fold next_hash (f l)) (sym (stored ps given_stand)) ∙ sym h)) in
          (hash_in l k (length v.hand) hash ps x is ∙ sym tree, tree)

      pub new_parts : (p : Marked L) → Has (parts_of x) p → StandsIn v.logs p
      new_parts p h = known_stands v.logs p (known h.0 p (ap (λ z. slice_get z h.0) (sym (parts_in l k (length v.hand) hash ps x is)) ∙ h.1))

      -- where no mark of the body has the label and these parts, none has the tree
      pub new_fresh : ((i : ℕ) (m : Marked L) → slice_get v.hand i ≡ Some m → ¬ IsNode l ps m) → (i : ℕ) (m : Marked L) → slice_get v.hand i ≡ Some m → plain m ≢ plain x
      new_fresh none i m e same =
          let label : label_of m ≡ l = sym (plain_label m) ∙ (ap (λ z. (out-Tree L z).label) same ∙ (plain_label x ∙ label_in l k (length v.hand) hash ps x is)) in
          let parts : map plain (parts_of m) ≡ map plain ps = sym (plain_parts m) ∙ (ap parts_of same ∙ (plain_parts x ∙ ap (map plain) (parts_in l k (length v.hand) hash ps x is))) in
          none i m e (label, same_ids f n all (parts_of m) ps looked.seen.are (parts_stand i m e) given_stand parts)

      pub new_knows : AllBegin v.logs (set v.logs k (v.hand ++ x ∷ []))
      new_knows = knows_set v.logs k (v.hand ++ x ∷ []) (omega (arith, looked.long, looked.below)) (subst (λ z. Begins z (v.hand ++ x ∷ [])) (sym looked.here) (begins_more v.hand v.hand (x ∷ []) (begins_refl v.hand)))

      pub new_made : IsMade l ps x × KnownIn (set v.logs k (v.hand ++ x ∷ [])) x
      new_made =
          let logs : List (List (Marked L)) = set v.logs k (v.hand ++ x ∷ []) in
          let parts : parts_of x ≡ ps = parts_in l k (length v.hand) hash ps x is in
          let stands : StandsIn logs x = ap (λ z. slice_get (at logs z.0) z.1) (id_in l k (length v.hand) hash ps x is)
          ∙ (ap (λ z. slice_get z (length v.hand)) (get_or-set_same v.logs k (v.hand ++ x ∷ []) [] (omega (arith, looked.long, looked.below))) ∙ got_last v.hand x (length v.hand) refl) in
          ((label_in l k (length v.hand) hash ps x is, parts), known_made logs x stands (subst (AllKnownIn logs) (sym parts) (all_stay v.logs logs new_knows ps known)))
