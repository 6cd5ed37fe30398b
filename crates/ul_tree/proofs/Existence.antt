-- A reduced tree that isn't false holds somewhere.
use Rattle.std.proofs.Common.{◌≡◌, ◌≢◌, ℕ, zero, suc, List, [], ◌∷◌, true, false, refl, ap, sym, ◌∙◌, arith, inl}
use Rattle.ul_comparison.specs.Worlds.{WorldFields, IsWorld}
use Rattle.ul_nodes.specs.Levels.{IsExtra, extra_level}
use Rattle.ul_nodes.specs.Plain.{Plain, truth, node, Branches, done, branch, pick, holds_of}
use Rattle.ul_nodes.specs.Reduced.{IsReduced, Fits}
use Rattle.ul_tree.specs.Sample.{key_lengths, sample_of, asks_extra, HoldsSomewhere}
use Rattle.ul_tree.specs.Values.{value_of, tree_holds}
use Rattle.ul_nodes.proofs.ForCallers.{at_key}
use Rattle.ul_tree.proofs.Extras.{pick_beside, zs, zs_extra, zs_fresh}
use Rattle.ul_tree.proofs.JoinedTrees.{seen_extra}
use Rattle.ul_tree.proofs.Walks.{sample_below, sample_law}

abbrev Somewhere : Plain → Type 0
Somewhere t = (w : WorldFields) × (x : List ℕ) × IsWorld w × IsExtra x × (tree_holds t w x ≡ true)

-- the part of an extra, where it isn't false
by_part : (d : Plain) (bs : Branches) (x : List ℕ) (c : Plain) → IsReduced (node extra_level d bs) → IsExtra x → pick bs false x d ≡ c → Fits c extra_level → c ≢ truth false → Somewhere (node extra_level d bs)
by_part d bs x c h e p f n =
    let s = sample_below c f n in
    (sample_of c, x, s.0, e, (seen_extra (node extra_level d bs) h).truths (value_of (sample_of c) x) ∙ ap (λ z. holds_of z (value_of (sample_of c) x)) p ∙ s.1 x)

by_extra : (d : Plain) (bs : Branches) → IsReduced (node extra_level d bs) → Somewhere (node extra_level d bs)
by_extra d done h = absurd h.1
by_extra d (branch k c rest) h = go c refl
  where
    own : c ≢ truth false → Somewhere (node extra_level d (branch k c rest))
    own n = by_part d (branch k c rest) k c h h.3.0 (at_key k c d rest false) h.3.2 n

    other : c ≡ truth false → Somewhere (node extra_level d (branch k c rest))
    other e =
        let bs = branch k c rest in
        by_part d bs (zs (key_lengths bs)) d h (zs_extra (key_lengths bs)) (pick_beside (zs (key_lengths bs)) bs d (zs_fresh (key_lengths bs) bs (omega arith))) h.2 (λ q. h.3.3 (e ∙ sym q))

    go : (z : Plain) → z ≡ c → Somewhere (node extra_level d (branch k c rest))
    go (node j a more) e = own (λ r. let q = e ∙ r in cc)
    go (truth true) e = own (λ r. let q : truth true ≡ truth false = e ∙ r in let u : true ≡ false = cc in cc)
    go (truth false) e = other (sym e)

without : (t : Plain) → IsReduced t → t ≢ truth false → asks_extra t ≡ false → Somewhere t
without t h n a = (sample_of t, [], sample_law.world t h n a, inl refl, sample_law.holds t h n a [])

somewhere : (t : Plain) → IsReduced t → t ≢ truth false → Somewhere t
somewhere (truth b) h n = without (truth b) h n refl
somewhere (node [] d bs) h n = without (node [] d bs) h n refl
somewhere (node (zero ∷ []) d bs) h n = by_extra d bs h
somewhere (node (suc i ∷ []) d bs) h n = without (node (suc i ∷ []) d bs) h n refl
somewhere (node (a ∷ b ∷ rest) d bs) h n = without (node (a ∷ b ∷ rest) d bs) h n (asks a)
  where
    asks : (a : ℕ) → asks_extra (node (a ∷ b ∷ rest) d bs) ≡ false
    asks zero = refl
    asks (suc i) = refl

pub holds_somewhere : HoldsSomewhere
holds_somewhere = record {
  world = somewhere;
  without_extra = λ t h n a. (sample_of t, sample_law.world t h n a, sample_law.holds t h n a);
}
