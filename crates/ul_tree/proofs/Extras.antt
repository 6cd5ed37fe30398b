-- An extra that is no point may be replaced by any other: so it is enough to know the truth at names.
use Rattle.std.proofs.Common.{◌≡◌, ◌<◌, ◌≢◌, ℕ, suc, zero, ◌+◌, ◌-◌, ◌≤◌, List, [], ◌∷◌, length, get_or, true, false, refl, ap, sym, ◌∙◌, subst, arith, Less, Equal, Greater, Ordering, ◌⊎◌, inl, inr}
use Rattle.std.specs.List.{list_all}
use Rattle.std.specs.Str.{str_to_ascii_lowercase}
use Rattle.ul_base.proofs.ForCallers.{name_reads}
use Rattle.ul_base.specs.Names.{normal_form, single_hyphens, has_ends, is_name_byte}
use Rattle.ul_comparison.specs.Worlds.{WorldFields}
use Rattle.ul_nodes.specs.Apply.{branches_at, rest_at}
use Rattle.ul_tree.specs.Laws.{OneTruthOneTree}
use Rattle.ul_nodes.specs.Levels.{IsExtra, extra_level}
use Rattle.ul_nodes.specs.Plain.{Plain, Branches, done, branch, text_cmp, by_order, pick, holds_of}
use Rattle.ul_nodes.specs.Reduced.{IsReduced, FitsAll}
use Rattle.ul_tree.specs.Sample.{key_lengths}
use Rattle.ul_tree.specs.Values.{value_of, tree_holds}
use Rattle.ul_nodes.proofs.ForCallers.{cmp_equal, cmp_itself}
use Rattle.ul_tree.proofs.Picks.{holds_alike}
use Rattle.ul_tree.proofs.JoinedTrees.{seen_extra, below_extra}
use Rattle.ul_tree.proofs.RealWorlds.{unique_at_ascii}

-- no branch has this key
abbrev pub NoKey : List ℕ → Branches → Type 0
NoKey x done = Unit {0}
NoKey x (branch k c rest) = (x ≢ k) × NoKey x rest

pub pick_beside : (x : List ℕ) (bs : Branches) (d : Plain) → NoKey x bs → pick bs false x d ≡ d
pick_beside x done d n = refl
pick_beside x (branch k c rest) d n = go (text_cmp x k) refl (pick_beside x rest d n.1)
  where
    go : (o : Ordering) → text_cmp x k ≡ o → pick rest false x d ≡ d → by_order o d c (pick rest false x d) ≡ d
    go Less e ih = refl
    go Equal e ih = absurd (n.0 (cmp_equal x k e))
    go Greater e ih = ih

-- a text is a point, and so an extra, or no point
extra_or_none : (x : List ℕ) (bs : Branches) (d : Plain) → FitsAll bs extra_level d → IsExtra x ⊎ NoKey x bs
extra_or_none x done d h = inr tt
extra_or_none x (branch k c rest) d h = go (text_cmp x k) refl (extra_or_none x rest d h.4)
  where
    unlike : (o : Ordering) → text_cmp x k ≡ o → o ≢ Equal → x ≢ k
    unlike o e n q = n (sym e ∙ ap (λ z. text_cmp z k) q ∙ cmp_itself k)

    more : x ≢ k → IsExtra x ⊎ NoKey x rest → IsExtra x ⊎ NoKey x (branch k c rest)
    more n (inl e) = inl e
    more n (inr m) = inr (n, m)

    go : (o : Ordering) → text_cmp x k ≡ o → IsExtra x ⊎ NoKey x rest → IsExtra x ⊎ NoKey x (branch k c rest)
    go Less e ih = more (unlike Less e (λ q. cc)) ih
    go Equal e ih = inl (subst IsExtra (sym (cmp_equal x k e)) h.0)
    go Greater e ih = more (unlike Greater e (λ q. cc)) ih

-- the letter z, once more than a number
abbrev pub zs : ℕ → List ℕ
zs zero = 122 ∷ []
zs (suc n) = 122 ∷ zs n

length_zs : (n : ℕ) → length (zs n) ≡ suc n
length_zs zero = refl
length_zs (suc n) = ap suc (length_zs n)

last_zs : (n : ℕ) → get_or (zs n) n 0 ≡ 122
last_zs zero = refl
last_zs (suc n) = last_zs n

zs_ends : (n : ℕ) → has_ends (zs n) ≡ true
zs_ends zero = refl
zs_ends (suc n) =
    let e : length (zs (suc n)) - 1 ≡ suc n = omega (arith, length_zs (suc n)) in
    rw (e, last_zs n) refl

zs_bytes : (n : ℕ) → list_all is_name_byte (zs n) ≡ true
zs_bytes zero = refl
zs_bytes (suc n) = zs_bytes n

zs_form : (n : ℕ) → str_to_ascii_lowercase (single_hyphens (zs n)) ≡ zs n
zs_form zero = refl
zs_form (suc n) = ap (λ t. 122 ∷ t) (zs_form n)

zs_normal : (n : ℕ) → zs n ≡ normal_form (zs n)
unfolding normal_form
zs_normal n = sym (zs_form n)

pub zs_extra : (n : ℕ) → IsExtra (zs n)
zs_extra n = inr (name_reads (zs n) (zs n) (zs_ends n) (zs_bytes n) (zs_normal n))

-- a text longer than every key is none
pub no_key_long : (bs : Branches) (x : List ℕ) → key_lengths bs < length x → NoKey x bs
no_key_long done x h = tt
no_key_long (branch k c rest) x h = (λ q. let p = ap (length {A = ℕ}) q in absurd (omega (arith, p)), no_key_long rest x (omega arith))

pub zs_fresh : (n : ℕ) (bs : Branches) → key_lengths bs ≤ n → NoKey (zs n) bs
zs_fresh n bs h = let p = length_zs n in no_key_long bs (zs n) (omega (arith, p))

-- the truth at extras that are no points is one
beside_alike : (t : Plain) (w : WorldFields) (x y : List ℕ) → IsReduced t → NoKey x (branches_at extra_level t) → NoKey y (branches_at extra_level t) → tree_holds t w x ≡ tree_holds t w y
beside_alike t w x y h n m =
    let s = seen_extra t h in
    s.truths (value_of w x) ∙ ap (λ z. holds_of z (value_of w x)) (pick_beside x (branches_at extra_level t) (rest_at extra_level t) n)
    ∙ holds_alike (rest_at extra_level t) extra_level (value_of w x) (value_of w y) s.rest (below_extra w y x)
    ∙ ap (λ z. holds_of z (value_of w y)) (sym (pick_beside y (branches_at extra_level t) (rest_at extra_level t) m)) ∙ sym (s.truths (value_of w y))

at_any : (s t : Plain) (w : WorldFields) (x : List ℕ) → IsReduced s → IsReduced t → ((y : List ℕ) → IsExtra y → tree_holds s w y ≡ tree_holds t w y) → tree_holds s w x ≡ tree_holds t w x
at_any s t w x hs ht alike =
    go (extra_or_none x (branches_at extra_level s) (rest_at extra_level s) (seen_extra s hs).branches) (extra_or_none x (branches_at extra_level t) (rest_at extra_level t) (seen_extra t ht).branches)
  where
    n : ℕ
    n = key_lengths (branches_at extra_level s) + key_lengths (branches_at extra_level t)

    go : IsExtra x ⊎ NoKey x (branches_at extra_level s) → IsExtra x ⊎ NoKey x (branches_at extra_level t) → tree_holds s w x ≡ tree_holds t w x
    go (inl e) m = alike x e
    go (inr i) (inl e) = alike x e
    go (inr i) (inr j) =
        beside_alike s w x (zs n) hs i (zs_fresh n (branches_at extra_level s) (omega arith)) ∙ alike (zs n) (zs_extra n)
        ∙ sym (beside_alike t w x (zs n) ht j (zs_fresh n (branches_at extra_level t) (omega arith)))

pub one_truth_one_tree : OneTruthOneTree
one_truth_one_tree s t hs ht alike = unique_at_ascii s t hs ht (λ w x world ascii text. at_any s t w x hs ht (λ y e. alike w y world ascii e))
