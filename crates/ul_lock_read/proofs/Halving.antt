-- Looking up a package by halves.
use Rattle.std.proofs.Common.{◌≡◌, ℕ, zero, suc, ◌+◌, ◌<◌, ◌≤◌, List, [], ◌∷◌, Bool, true, false, Some, None, length, slice_get, arith, refl, sym, ap, subst, ◌∙◌, inl, inr}
use Rattle.std.specs.Prelude.{bytes_eq, ◌||◌, ◌↔◌, IsTrue}
use Rattle.std.specs.List.{list_any}
use Rattle.std.specs.declared.cmp.Ordering.{Ordering}
use Rattle.std.specs.declared.cmp.Ordering.TheVariants.{Less, Equal, Greater}
use Rattle.std.specs.Cmp.{IsTotalOrder, then_total, on_total, first_so, second_so, both_ways}
use Rattle.std.specs.Cmp.Lexicographic.{nat_list_cmp_total}
use Rattle.std.specs.Ordering.{ordering_reverse, is_lt}
use Rattle.std.proofs.lemmas.Bool.{cases_order}
use Rattle.std.proofs.lemmas.Option.{none-some, same_Some, slice_get_within}
use Rattle.ul_version.specs.Fields.{Fields, IsVersion}
use Rattle.ul_version.specs.Texts.{version_text}
use Rattle.ul_version.proofs.ForCallers.{version_total, tells}
use Rattle.ul_lines.specs.Reader.{Each}
use Rattle.ul_lines.proofs.ForCallers.{same_text, bytes_eq_self}
use Rattle.ul_lock.specs.declared.parts.Edge.{Edge}
use Rattle.ul_lock.specs.declared.parts.Locked.{Locked}
use Rattle.ul_lock_read.specs.Automaton.{plain_block}
use Rattle.ul_lock_read.specs.Finding.{HasVersion, AreSorted, IsFound}
use Rattle.ul_lock.specs.Orders.{package_cmp, block_less}
use Rattle.ul_lock.specs.Increasing.{Rising}
use Rattle.ul_lock.specs.Targets.{is_named, is_target, has_target}

package_total : IsTotalOrder package_cmp
package_total = then_total (on_total (λ (b : Locked). b.name) nat_list_cmp_total) (on_total (λ (b : Locked). b.version) version_total)

is_less : (o : Ordering) → is_lt o ≡ true → o ≡ Less
is_less Less h = refl
is_less Equal h = absurd cc
is_less Greater h = absurd cc

-- a later package is greater
rises_from : (b : Locked) (bs : List Locked) (j : ℕ) (d : Locked) → Rising block_less (b ∷ bs) → slice_get bs j ≡ Some d → package_cmp b d ≡ Less
rises_from b [] j d h e = absurd (none-some d e)
rises_from b (c ∷ bs) zero d h e = subst (λ z. package_cmp b z ≡ Less) (same_Some c d e) (is_less (package_cmp b c) h.0)
rises_from b (c ∷ bs) (suc j) d h e = package_total.trans b c d (is_less (package_cmp b c) h.0) (rises_from c bs j d h.1 e)

rises_between : (bs : List Locked) (i j : ℕ) (b d : Locked) → Rising block_less bs → i < j → slice_get bs i ≡ Some b → slice_get bs j ≡ Some d → package_cmp b d ≡ Less
rises_between [] i j b d h l e f = absurd (none-some b e)
rises_between (c ∷ bs) i zero b d h l e f = absurd (omega arith)
rises_between (c ∷ bs) zero (suc j) b d h l e f = subst (λ z. package_cmp z d ≡ Less) (same_Some c b e) (rises_from c bs j d h f)
rises_between (c ∷ bs) (suc i) (suc j) b d h l e f = rises_between bs i j b d h.1 (omega arith) e f

-- each package before a place is less, and each from a place on is greater
pub record IsHalved (bs : List Locked) (key : Locked) (low high : ℕ) : Type 0 where
  pub order : low ≤ high
  pub within : high ≤ length bs
  pub below : (k : ℕ) (b : Locked) → k < low → slice_get bs k ≡ Some b → package_cmp b key ≡ Less
  pub above : (k : ℕ) (b : Locked) → high ≤ k → slice_get bs k ≡ Some b → package_cmp b key ≡ Greater

pub halves_begin : (bs : List Locked) (key : Locked) (n : ℕ) → n ≡ length bs → IsHalved bs key 0 n
halves_begin bs key n e = record {
  order = omega arith;
  within = omega arith;
  below = λ k b l. absurd (omega arith);
  above = λ k b l g. absurd (let i = slice_get_within bs k b g in omega arith);
}

less_greater : (a b : Locked) → package_cmp b a ≡ Greater → package_cmp a b ≡ Less
less_greater a b e = package_total.antisymm a b ∙ ap ordering_reverse e

greater_less : (a b : Locked) → package_cmp b a ≡ Less → package_cmp a b ≡ Greater
greater_less a b e = package_total.antisymm a b ∙ ap ordering_reverse e

pub halves_up : (bs : List Locked) (key : Locked) (low high middle : ℕ) (b : Locked) → AreSorted bs → IsHalved bs key low high → low ≤ middle → middle < high
    → slice_get bs middle ≡ Some b → package_cmp b key ≡ Less → IsHalved bs key (middle + 1) high
halves_up bs key low high middle b inc h l m e less = record {
  order = omega arith;
  within = h.within;
  below = λ k g a i. elim (cases_order k middle) [
    | inl s ↦ subst (λ (x : Locked). package_cmp x key ≡ Less) (same_Some b g (sym e ∙ ap (slice_get bs) (sym s) ∙ i)) less
    | inr (inl s) ↦ package_total.trans g b key (rises_between bs k middle g b inc.rise s i e) less
    | inr (inr s) ↦ absurd (omega arith)
  ];
  above = h.above;
}

pub halves_down : (bs : List Locked) (key : Locked) (low high middle : ℕ) (b : Locked) → AreSorted bs → IsHalved bs key low high → low ≤ middle → middle < high
    → slice_get bs middle ≡ Some b → package_cmp b key ≡ Greater → IsHalved bs key low middle
halves_down bs key low high middle b inc h l m e greater = record {
  order = l;
  within = let w = h.within in omega arith;
  below = h.below;
  above = λ k g a i. elim (cases_order k middle) [
    | inl s ↦ subst (λ (x : Locked). package_cmp x key ≡ Greater) (same_Some b g (sym e ∙ ap (slice_get bs) (sym s) ∙ i)) greater
    | inr (inl s) ↦ absurd (omega arith)
    | inr (inr s) ↦ greater_less g key (package_total.trans key b g (less_greater key b greater) (rises_between bs middle k b g inc.rise s e i))
  ];
}

level_less : (o : Ordering) → o ≡ Equal → o ≡ Less → ⊥
level_less o e f = let z : Equal ≡ Less = sym e ∙ f in absurd cc

level_greater : (o : Ordering) → o ≡ Equal → o ≡ Greater → ⊥
level_greater o e f = let z : Equal ≡ Greater = sym e ∙ f in absurd cc

pub halves_end : (bs : List Locked) (key : Locked) (low high : ℕ) → IsHalved bs key low high → high ≤ low → IsFound bs key None
halves_end bs key low high h l = λ k (b, e, s). elim (cases_order k low) [
  | inl i ↦ level_greater (package_cmp b key) s (h.above k b (omega arith) e)
  | inr (inl i) ↦ level_less (package_cmp b key) s (h.below k b i e)
  | inr (inr i) ↦ level_greater (package_cmp b key) s (h.above k b (omega arith) e)
]

-- ---- the target of an edge

level_self : (b : Locked) → package_cmp b b ≡ Equal
level_self b = level (package_cmp b b) (package_total.antisymm b b)
  where
    level : (o : Ordering) → o ≡ ordering_reverse o → o ≡ Equal
    level Less h = cc
    level Equal h = refl
    level Greater h = cc

abbrev pub key_of : Edge → Locked
key_of e = plain_block e.target.name e.version [] [] []

-- what is named by an edge is level with it
named_level : (e : Edge) (b : Locked) → IsVersion e.version → IsVersion b.version → is_named e b ≡ true → package_cmp b (key_of e) ≡ Equal
named_level e b v w h =
    let n : b.name ≡ e.target.name = same_text b.name e.target.name (first_so _ _ h) in
    let t : version_text b.version ≡ version_text e.version = same_text (version_text b.version) (version_text e.version) (second_so _ _ h) in
    let q : b.version ≡ e.version = tells b.version e.version w v t in
    level_by e b n q
  where
    level_by : (e : Edge) (b : Locked) → b.name ≡ e.target.name → b.version ≡ e.version → package_cmp b (key_of e) ≡ Equal
    level_by e b n q = subst (λ z. package_cmp b (plain_block z e.version [] [] []) ≡ Equal) n (subst (λ z. package_cmp b (plain_block b.name z [] [] []) ≡ Equal) q (level_self b))

target_level : (e : Edge) (b : Locked) → IsVersion e.version → IsVersion b.version → is_target e b ≡ true → package_cmp b (key_of e) ≡ Equal
target_level e b v w h = named_level e b v w (first_so _ _ h)

-- a package at a place has a version
version_at : (bs : List Locked) (k : ℕ) (b : Locked) → Each HasVersion bs → slice_get bs k ≡ Some b → IsVersion b.version
version_at [] k b h e = absurd (none-some b e)
version_at (c ∷ bs) zero b h e = subst (λ (z : Locked). IsVersion z.version) (same_Some c b e) h.0
version_at (c ∷ bs) (suc k) b h e = version_at bs k b h.1 e

any_by : (p : Locked → Bool) (b : Locked) (bs : List Locked) (q : Bool) → p b ≡ q
    → (list_any p bs ≡ true → (k : ℕ) × (d : Locked) × (slice_get bs k ≡ Some d) × (p d ≡ true))
    → (q || list_any p bs) ≡ true → (k : ℕ) × (d : Locked) × (slice_get (b ∷ bs) k ≡ Some d) × (p d ≡ true)
any_by p b bs true e again g = (0, b, refl, e)
any_by p b bs false e again g = let r = again g in (suc r.0, r.1, r.2, r.3)

-- one that passes stands somewhere
any_at : (p : Locked → Bool) (bs : List Locked) → list_any p bs ≡ true → (k : ℕ) × (b : Locked) × (slice_get bs k ≡ Some b) × (p b ≡ true)
any_at p [] h = absurd cc
any_at p (b ∷ bs) h = any_by p b bs (p b) refl (any_at p bs) h

at_any : (p : Locked → Bool) (bs : List Locked) (k : ℕ) (b : Locked) → slice_get bs k ≡ Some b → p b ≡ true → list_any p bs ≡ true
at_any p [] k b e h = absurd (none-some b e)
at_any p (c ∷ bs) zero b e h = let q : p c ≡ true = ap p (same_Some c b e) ∙ h in rw q refl
at_any p (c ∷ bs) (suc k) b e h = or_true (p c) (list_any p bs) (at_any p bs k b e h)
  where
    or_true : (x y : Bool) → y ≡ true → (x || y) ≡ true
    or_true true y g = refl
    or_true false y g = g

-- versions are the same where their texts are
pub same_texts : (v w : Fields) (r : Bool) → IsVersion v → IsVersion w → IsTrue r ↔ (v ≡ w) → r ≡ bytes_eq (version_text v) (version_text w)
same_texts v w r h k e = both_ways r (bytes_eq (version_text v) (version_text w))
    (λ q. subst (λ z. bytes_eq (version_text v) (version_text z) ≡ true) (e.0 q) (bytes_eq_self (version_text v)))
    (λ q. e.1 (tells v w h k (same_text (version_text v) (version_text w) q)))

false_by : (b : Bool) → (b ≡ true → ⊥) → false ≡ b
false_by true h = absurd (h refl)
false_by false h = refl

-- an edge leads nowhere if no package is level with it
pub none_found : (bs : List Locked) (e : Edge) → AreSorted bs → IsVersion e.version → IsFound bs (key_of e) None → false ≡ has_target bs e
unfolding has_target
none_found bs e s v h = false_by (list_any (is_target e) bs) (λ g.
    let r = any_at (is_target e) bs g in
    h r.0 (r.1, r.2, target_level e r.1 v (version_at bs r.0 r.1 s.versions r.2) r.3))

-- and else leads to the one that is, or to none
pub some_found : (bs : List Locked) (e : Edge) (k : ℕ) (b : Locked) → AreSorted bs → IsVersion e.version → slice_get bs k ≡ Some b → package_cmp b (key_of e) ≡ Equal → is_target e b ≡ has_target bs e
unfolding has_target
some_found bs e k b s v f level = both_ways (is_target e b) (list_any (is_target e) bs) (at_any (is_target e) bs k b f) (λ g.
    let r = any_at (is_target e) bs g in
    let l : package_cmp r.1 (key_of e) ≡ Equal = target_level e r.1 v (version_at bs r.0 r.1 s.versions r.2) r.3 in
    same_place r.0 r.1 r.2 l r.3)
  where
    reversed : (o : Ordering) → o ≡ Equal → ordering_reverse o ≡ Equal
    reversed Less q = cc
    reversed Equal q = refl
    reversed Greater q = cc

    tied : (d : Locked) → package_cmp d (key_of e) ≡ Equal → package_cmp d b ≡ Equal
    tied d l = package_total.congr d (key_of e) b l ∙ (package_total.antisymm (key_of e) b ∙ reversed (package_cmp b (key_of e)) level)

    tied_back : (d : Locked) → package_cmp d (key_of e) ≡ Equal → package_cmp b d ≡ Equal
    tied_back d l = package_total.antisymm b d ∙ reversed (package_cmp d b) (tied d l)

    same_place : (j : ℕ) (d : Locked) → slice_get bs j ≡ Some d → package_cmp d (key_of e) ≡ Equal → is_target e d ≡ true → is_target e b ≡ true
    same_place j d g l t = elim (cases_order j k) [
      | inl i ↦ subst (λ (z : Locked). is_target e z ≡ true) (same_Some d b (sym g ∙ ap (slice_get bs) i ∙ f)) t
      | inr (inl i) ↦ absurd (level_less (package_cmp d b) (tied d l) (rises_between bs j k d b s.rise i g f))
      | inr (inr i) ↦ absurd (level_less (package_cmp b d) (tied_back d l) (rises_between bs k j b d s.rise i f g))
    ]
