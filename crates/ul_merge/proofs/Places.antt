-- Where the first pick stands whose node has a number, and the version that is chosen for a node.
use Rattle.std.proofs.Common.{◌≡◌, ◌+◌, ◌<◌, ℕ, List, [], ◌∷◌, drop, find, length, get_or, Bool, true, false, cond, Option, Some, None, refl, sym, ap, ◌∙◌}
use Rattle.std.specs.Prelude.{nat_eq}
use Rattle.std.proofs.lemmas.List.{drop_more}
use Rattle.std.proofs.lemmas.Option.{slice_get_read}
use Rattle.std.specs.List.{slice_get}
use Rattle.std.specs.Ordering.{is_eq}
use Rattle.std.specs.declared.cmp.Ordering.{Ordering}
use Rattle.std.specs.declared.cmp.Ordering.TheVariants.{Less, Equal, Greater}
use Rattle.std.proofs.lemmas.Bool.Decides.{Decides-eqb}
use Rattle.ul_base.specs.Nodes.{node_cmp, node_eq, node_ties}
use Rattle.ul_base.proofs.ForCallers.{node_cmp_same}
use Rattle.ul_base.specs.declared.node.Node.{Node}
use Rattle.ul_version.specs.Fields.{Fields}
use Rattle.ul_index.specs.Results.{option_bind}
use Rattle.ul_index.specs.Serves.{Selection, choice_of}
use Rattle.ul_merge.specs.Chosen.{first_of}
use Rattle.ul_merge.specs.Numbers.{node_number}

-- the first such pick from a place on
abbrev pub first_from : Selection → ℕ → ℕ → Option (Node × Fields)
first_from s place u = first_of (drop place s) u

one_more : (same : Bool) (s : Selection) (i : ℕ) (d : Node × Fields) (found : Option (Node × Fields)) (was : Option ℕ) → slice_get s i ≡ Some d → option_bind was (slice_get s) ≡ found
    → option_bind (cond same (Some i) was) (slice_get s) ≡ cond same (Some d) found
one_more true s i d found was here have = here
one_more false s i d found was here have = have

-- a place before the ones that are known
pub places_more : (s : Selection) (next i : ℕ) (d : Node × Fields) (key u : ℕ) (was now : Option ℕ)
    → next ≡ i + 1 → i < length s → d ≡ get_or s i d → key ≡ node_number (get_or s i d).0 → now ≡ cond (nat_eq key u) (Some i) was
    → option_bind was (slice_get s) ≡ first_from s next u
    → option_bind now (slice_get s) ≡ first_from s i u
places_more s next i d key u was now e lt at numbered is have =
    let keyed : key ≡ node_number d.0 = numbered ∙ ap (λ (x : Node × Fields). node_number x.0) (sym at) in
    let here : drop i s ≡ d ∷ drop next s =
    drop_more s i d lt ∙ ap (λ x. x ∷ drop (i + 1) s) (sym at) ∙ ap (λ m. d ∷ drop m s) (sym e) in
    let there : slice_get s i ≡ Some d = slice_get_read s (length s) i d refl lt at in
    ap (λ o. option_bind o (slice_get s)) (is ∙ ap (λ k. cond (nat_eq k u) (Some i) was) keyed)
    ∙ one_more (nat_eq (node_number d.0) u) s i d (first_from s next u) was there have
    ∙ sym (rw here refl)

-- ---- the version for a node

level_is : (o : Ordering) → is_eq o ≡ true → o ≡ Equal
level_is Equal e = refl
level_is Less e = cc
level_is Greater e = cc

same_node : (a b : Node) → node_eq a b ≡ true → a ≡ b
same_node a b e = node_cmp_same a b (level_is (node_cmp a b) (sym (node_ties a b) ∙ e))

same_number : (a b : Node) → node_eq a b ≡ true → nat_eq (node_number a) (node_number b) ≡ true
same_number a b e = (Decides-eqb (node_number a) (node_number b)).1 (ap node_number (same_node a b e))

module _ (d : Node × Fields) (s : Selection) (n : Node) where
  -- a pick whose node has another number isn't of the node
  none_step : (number same : Bool) → (same ≡ true → number ≡ true) → cond number (Some d) (first_of s (node_number n)) ≡ None → (first_of s (node_number n) ≡ None → choice_of s n ≡ None)
      → cond same (Some d.1) (choice_of s n) ≡ None
  none_step true same tells e later = cc
  none_step false true tells e later = absurd (not_false (tells refl))
    where
      not_false : false ≡ true → ⊥
      not_false q = cc
  none_step false false tells e later = later e

  some_step : (number same : Bool) (f : Node × Fields) → (same ≡ true → number ≡ true) → (d ≡ f → node_eq f.0 n ≡ true → same ≡ true) → cond number (Some d) (first_of s (node_number n)) ≡ Some f → node_eq f.0 n ≡ true
      → (first_of s (node_number n) ≡ Some f → choice_of s n ≡ Some f.1) → cond same (Some d.1) (choice_of s n) ≡ Some f.1
  some_step true true f tells is e m later = ap (λ (x : Node × Fields). Some x.1) (same_some e)
    where
      same_some : Some d ≡ Some f → d ≡ f
      same_some q = cc
  some_step true false f tells is e m later = absurd (not_true (is (same_some e) m))
    where
      same_some : Some d ≡ Some f → d ≡ f
      same_some q = cc

      not_true : false ≡ true → ⊥
      not_true q = cc
  some_step false true f tells is e m later = absurd (not_true (tells refl))
    where
      not_true : false ≡ true → ⊥
      not_true q = cc
  some_step false false f tells is e m later = later e

-- no pick has the node where none has its number
pub none_numbered : (s : Selection) (n : Node) → first_of s (node_number n) ≡ None → choice_of s n ≡ None
unfolding choice_of
none_numbered [] n e = refl
none_numbered (d ∷ ds) n e = none_step d ds n (nat_eq (node_number d.0) (node_number n)) (node_eq d.0 n) (same_number d.0 n) e (none_numbered ds n)

-- the first pick with the node's number is the node's, if it has the node
pub some_numbered : (s : Selection) (n : Node) (f : Node × Fields) → first_of s (node_number n) ≡ Some f → node_eq f.0 n ≡ true → choice_of s n ≡ Some f.1
unfolding choice_of
some_numbered [] n f e m = cc
some_numbered (d ∷ ds) n f e m = some_step d ds n (nat_eq (node_number d.0) (node_number n)) (node_eq d.0 n) f (same_number d.0 n) (λ q k. ap (λ (x : Node × Fields). node_eq x.0 n) q ∙ k) e m (λ q. some_numbered ds n f q m)

-- in the words of a call
pub no_version : (s : Selection) (n : Node) (u : ℕ) → u ≡ node_number n → None ≡ first_of s u → None ≡ choice_of s n
no_version s n u e f = sym (none_numbered s n (sym (f ∙ ap (first_of s) e)))

pub own_version : (s : Selection) (n : Node) (u : ℕ) (d : Node × Fields) → u ≡ node_number n → Some d ≡ first_of s u → node_eq d.0 n ≡ true → Some d.1 ≡ choice_of s n
own_version s n u d e f m = sym (some_numbered s n d (sym (f ∙ ap (first_of s) e)) m)
