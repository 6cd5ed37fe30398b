-- What is read is spelled so, and what is spelled so is read: names, versions, sets and numbers.
use Rattle.std.proofs.Common.{◌≡◌, ℕ, zero, suc, ◌<◌, ◌^◌, List, [], ◌∷◌, ◌++◌, map, length, get_or, Bool, true, false, cond, ◌&&◌, not, eqb, refl, sym, ap, subst, ◌∙◌, arith, Option, Some, None, rules}
use Rattle.std.specs.Prelude.{option_and_then, option_map, codes, IfSome, nat_lt}
use Rattle.std.specs.Char.{is_ascii_digit}
use Rattle.std.specs.Cmp.{first_so, second_so}
use Rattle.std.specs.Fmt.{decimal}
use Rattle.std.specs.List.{join_with_byte, list_all, slice_split}
use Rattle.std.specs.Ordering.{is_lt}
use Rattle.std.specs.Str.Parse.{digits_value}
use Rattle.std.specs.declared.cmp.Ordering.{Ordering}
use Rattle.std.specs.declared.cmp.Ordering.TheVariants.{Less, Equal, Greater}
use Rattle.std.proofs.lemmas.Bool.{lt-ltb, ltb-true, eqb-true}
use Rattle.std.proofs.lemmas.Fmt.{decimal-digits_value, decimal_digit, decimal_nonempty, digits_decimal, digits_value-decimal, first_decimal}
use Rattle.std.proofs.lemmas.List.{append-nil}
use Rattle.std.proofs.lemmas.List.Splits.{join_with_byte-slice_split}
use Rattle.std.proofs.lemmas.Str.Parse.{IsNumeralModel, numerals_by_value}
use Rattle.ul_base.specs.Names.{IsNormalName, is_normal_byte}
use Rattle.ul_base.specs.declared.node.Node.{Node}
use Rattle.ul_lines.specs.Pieces.{cut_end, has, strip, until}
use Rattle.ul_lines.specs.Reader.{Each}
use Rattle.ul_lines.proofs.ForCallers.{some_is, bind_some, map_some, has_none, inside_is, inside_again, strip_is, until_is, until_again}
use Rattle.ul_lock_lines.proofs.ForCallers.{name_is, name_again, name_has, version_is, version_again, version_has}
use Rattle.ul_problem.specs.Problems.{Increases, IncreasesFrom, VersionBefore}
use Rattle.ul_report.specs.Texts.{extra_text, node_text, versions_text}
use Rattle.ul_lock_lines.specs.LineReading.{name_at, version_at}
use Rattle.ul_report_read.specs.Proofs.{IsNamed, IsSet}
use Rattle.ul_report_read.specs.Tokens.{base_node, each_version, extra_node, extra_of, is_decimal, joined_at, kept_versions, leads_well, node_at, node_of_parts, number_at, onto_versions, placed_in, placed_of, placed_of_parts, rises, rises_from, set_at, version_less, versions_at, with_set}
use Rattle.ul_report_read.proofs.Cutting.{pick_true, has_join, until_none, split_none, split_at}
use Rattle.ul_version.specs.Fields.{Fields, IsVersion}
use Rattle.ul_version.specs.Order.{version_cmp}
use Rattle.ul_version.specs.Texts.{version_text, is_text_byte}
use Rattle.ul_version.proofs.ForCallers.{plain as text_is_plain}

-- ---- nodes

base_text : (n : List ℕ) → node_text (base_node n) ≡ n
unfolding node_text
base_text n = append-nil n

some_extra_text : (n x : List ℕ) → node_text (extra_node n x) ≡ n ++ 91 ∷ (x ++ 93 ∷ [])
unfolding node_text
some_extra_text n x = refl

end_is : (back inner : List ℕ) → cut_end (codes "]") back ≡ Some inner → inner ++ 93 ∷ [] ≡ back
end_is back inner e = inside_is [] (93 ∷ []) back inner e

end_again : (inner : List ℕ) → cut_end (codes "]") (inner ++ 93 ∷ []) ≡ Some inner
end_again inner = inside_again [] (93 ∷ []) inner

node_by : (t : List ℕ) (o : Option (List ℕ × List ℕ)) (node : Node) → until 91 t ≡ o → node_of_parts t o ≡ Some node → (node_text node ≡ t) × IsNamed node
node_by t None node u e =
    let m = map_some (name_at t) base_node node e in
    let k = name_is t m.0 m.1 in
    subst (λ z. (node_text z ≡ t) × IsNamed z) m.2 (base_text m.0 ∙ k.0, record { name = k.1; extra = tt })
node_by t (Some p) node u e =
    let c = until_is 91 t p.0 p.1 u in
    let a = bind_some (cut_end (codes "]") p.1) (extra_of p.0) node e in
    let n = bind_some (name_at p.0) (λ n. option_map (extra_node n) (name_at a.0)) node a.2 in
    let x = map_some (name_at a.0) (extra_node n.0) node n.2 in
    let kn = name_is p.0 n.0 n.1 in
    let kx = name_is a.0 x.0 x.1 in
    subst (λ z. (node_text z ≡ t) × IsNamed z) x.2 (
      some_extra_text n.0 x.0 ∙ (ap (λ z. z ++ 91 ∷ (x.0 ++ 93 ∷ [])) kn.0 ∙ (ap (λ z. p.0 ++ 91 ∷ (z ++ 93 ∷ [])) kx.0 ∙ (ap (λ z. p.0 ++ 91 ∷ z) (end_is p.1 a.0 a.1) ∙ c.0))),
      record { name = kn.1; extra = kx.1 },
    )

pub node_is : (t : List ℕ) (node : Node) → node_at t ≡ Some node → (node_text node ≡ t) × IsNamed node
unfolding node_at
node_is t node e = node_by t (until 91 t) node refl e

extra_again : (n : List ℕ) (x : Option (List ℕ)) → IsNormalName n → IfSome x IsNormalName → node_of_parts (n ++ extra_text x) (until 91 (n ++ extra_text x)) ≡ Some (record { name = n; extra = x })
extra_again n None h k =
    let e : n ++ [] ≡ n = append-nil n in
    subst (λ z. node_of_parts z (until 91 z) ≡ Some (base_node n)) (sym e)
    (ap (node_of_parts n) (until_none 91 n (name_has 91 n refl h)) ∙ ap (option_map base_node) (name_again n h))
extra_again n (Some x) h k =
    ap (node_of_parts (n ++ 91 ∷ (x ++ 93 ∷ []))) (until_again 91 n (x ++ 93 ∷ []) (name_has 91 n refl h))
    ∙ (ap (option_and_then (extra_of n)) (end_again x)
    ∙ (ap (option_and_then (λ m. option_map (extra_node m) (name_at x))) (name_again n h) ∙ ap (option_map (extra_node n)) (name_again x k)))

pub node_again : (node : Node) → IsNamed node → node_at (node_text node) ≡ Some node
unfolding node_at node_text
node_again node h = extra_again node.name node.extra h.name h.extra

extra_has : (c : ℕ) (x : Option (List ℕ)) → is_normal_byte c ≡ false → eqb 91 c ≡ false → eqb 93 c ≡ false → IfSome x IsNormalName → has c (extra_text x) ≡ false
extra_has c None k a b h = refl
extra_has c (Some x) k a b h = rw a (has_join c x (93 ∷ []) (name_has c x k h) (rw b refl))

-- a byte of no node
pub node_has : (c : ℕ) (node : Node) → is_normal_byte c ≡ false → eqb 91 c ≡ false → eqb 93 c ≡ false → IsNamed node → has c (node_text node) ≡ false
unfolding node_text
node_has c node k a b h = has_join c node.name (extra_text node.extra) (name_has c node.name k h.name) (extra_has c node.extra k a b h.extra)

-- ---- versions joined by commas

joined_text : (v : Fields) (vs : List Fields) → version_text v ++ versions_text false vs ≡ join_with_byte 44 (version_text v ∷ map version_text vs)
joined_text v [] = append-nil (version_text v)
joined_text v (w ∷ ws) = ap (λ z. version_text v ++ 44 ∷ z) (joined_text w ws)

all_joined : (vs : List Fields) → versions_text true vs ≡ join_with_byte 44 (map version_text vs)
all_joined [] = refl
all_joined (v ∷ vs) = joined_text v vs

each_is : (ts : List (List ℕ)) (vs : List Fields) → each_version ts ≡ Some vs → (map version_text vs ≡ ts) × Each IsVersion vs
each_is [] vs e = let q : [] ≡ vs = some_is [] vs e in subst (λ z. (map version_text z ≡ []) × Each IsVersion z) q (refl, tt)
each_is (t ∷ ts) vs e =
    let a = bind_some (version_at t) (onto_versions (each_version ts)) vs e in
    let m = map_some (each_version ts) (λ ws. a.0 ∷ ws) vs a.2 in
    let k = version_is t a.0 a.1 in
    let r = each_is ts m.0 m.1 in
    subst (λ z. (map version_text z ≡ t ∷ ts) × Each IsVersion z) m.2 (ap (λ z. z ∷ map version_text m.0) k.0 ∙ ap (λ z. t ∷ z) r.0, (k.1, r.1))

joined_is : (t : List ℕ) (vs : List Fields) → joined_at t ≡ Some vs → (versions_text true vs ≡ t) × Each IsVersion vs
joined_is t vs e =
    let k = each_is (slice_split (λ b. eqb b 44) t) vs e in
    (all_joined vs ∙ (ap (join_with_byte 44) k.0 ∙ join_with_byte-slice_split 44 t), k.1)

versions_is : (t : List ℕ) (vs : List Fields) → versions_at t ≡ Some vs → (versions_text true vs ≡ t) × Each IsVersion vs
versions_is [] vs e = let q : [] ≡ vs = some_is [] vs e in subst (λ z. (versions_text true z ≡ []) × Each IsVersion z) q (refl, tt)
versions_is (b ∷ t) vs e = joined_is (b ∷ t) vs e

each_again : (v : Fields) (vs : List Fields) → IsVersion v → Each IsVersion vs → each_version (slice_split (λ b. eqb b 44) (version_text v ++ versions_text false vs)) ≡ Some (v ∷ vs)
each_again v [] h k =
    ap (λ z. each_version (slice_split (λ b. eqb b 44) z)) (append-nil (version_text v))
    ∙ (ap each_version (split_none 44 (version_text v) (version_has 44 v refl h))
    ∙ ap (option_and_then (onto_versions (Some []))) (version_again v h))
each_again v (w ∷ ws) h k =
    let rest = slice_split (λ b. eqb b 44) (version_text w ++ versions_text false ws) in
    ap each_version (split_at 44 (version_text v) (version_text w ++ versions_text false ws) (version_has 44 v refl h))
    ∙ (ap (option_and_then (onto_versions (each_version rest))) (version_again v h) ∙ ap (option_map (λ us. v ∷ us)) (each_again w ws k.0 k.1))

filled_at : (t : List ℕ) → 0 < length t → versions_at t ≡ joined_at t
filled_at [] h = absurd (omega arith)
filled_at (b ∷ t) h = refl

longer : (a b : List ℕ) → 0 < length a → 0 < length (a ++ b)
longer [] b h = absurd (omega arith)
longer (x ∷ a) b h = omega arith

versions_again : (vs : List Fields) → Each IsVersion vs → versions_at (versions_text true vs) ≡ Some vs
versions_again [] h = refl
versions_again (v ∷ vs) h =
    filled_at (version_text v ++ versions_text false vs) (longer (version_text v) (versions_text false vs) (text_is_plain v h.0).1) ∙ each_again v vs h.0 h.1

more_has : (c : ℕ) (vs : List Fields) → is_text_byte c ≡ false → eqb 44 c ≡ false → Each IsVersion vs → has c (versions_text false vs) ≡ false
more_has c [] k a h = refl
more_has c (v ∷ vs) k a h = rw a (has_join c (version_text v) (versions_text false vs) (version_has c v k h.0) (more_has c vs k a h.1))

-- a byte of no set
pub set_has : (c : ℕ) (vs : List Fields) → is_text_byte c ≡ false → eqb 44 c ≡ false → IsSet vs → has c (versions_text true vs) ≡ false
set_has c [] k a h = refl
set_has c (v ∷ vs) k a h = has_join c (version_text v) (versions_text false vs) (version_has c v k h.each.0) (more_has c vs k a h.each.1)

-- ---- lists that increase

pub less_is : (o : Ordering) → is_lt o ≡ true → o ≡ Less
less_is Less h = refl
less_is Equal h = absurd cc
less_is Greater h = absurd cc

module _ {A : Type 0} (less : A → A → Bool) (R : A → A → Type 0) where
  rising_from : ((x y : A) → less x y ≡ true → R x y) → (x : A) (xs : List A) → rises_from less x xs ≡ true → IncreasesFrom R x xs
  rising_from w x [] h = tt
  rising_from w x (y ∷ ys) h = (w x y (first_so _ _ h), rising_from w y ys (second_so _ _ h))

  pub rises_is : ((x y : A) → less x y ≡ true → R x y) → (xs : List A) → rises less xs ≡ true → Increases R xs
  rises_is w [] h = tt
  rises_is w (x ∷ xs) h = rising_from w x xs h

  again_from : ((x y : A) → R x y → less x y ≡ true) → (x : A) (xs : List A) → IncreasesFrom R x xs → rises_from less x xs ≡ true
  again_from w x [] h = refl
  again_from w x (y ∷ ys) h = ap (λ b. b && rises_from less y ys) (w x y h.0) ∙ again_from w y ys h.1

  pub rises_again : ((x y : A) → R x y → less x y ≡ true) → (xs : List A) → Increases R xs → rises less xs ≡ true
  rises_again w [] h = refl
  rises_again w (x ∷ xs) h = again_from w x xs h

pub set_is : (t : List ℕ) (vs : List Fields) → set_at t ≡ Some vs → (versions_text true vs ≡ t) × IsSet vs
unfolding set_at
set_is t vs e =
    let a = bind_some (versions_at t) kept_versions vs e in
    let k = pick_true (rises version_less a.0) (Some a.0) vs a.2 in
    let q : a.0 ≡ vs = some_is a.0 vs k.1 in
    let v = versions_is t a.0 a.1 in
    subst (λ z. (versions_text true z ≡ t) × IsSet z) q
    (v.0, record { each = v.1; increase = rises_is version_less VersionBefore (λ x y h. less_is (version_cmp x y) h) a.0 k.0 })

pub set_again : (vs : List Fields) → IsSet vs → set_at (versions_text true vs) ≡ Some vs
unfolding set_at
set_again vs h =
    ap (option_and_then kept_versions) (versions_again vs h.each)
    ∙ ap (λ b. cond b (Some vs) None) (rises_again version_less VersionBefore (λ x y r. ap is_lt r) vs h.increase)

-- ---- a node and a set

-- a node and a set without the closing brace
abbrev pub placed_body : Node → List Fields → List ℕ
placed_body node vs = node_text node ++ 32 ∷ 123 ∷ versions_text true vs

pub record IsPlacedText (t : List ℕ) (n : Node) (vs : List Fields) : Type 0 where
  pub text : placed_body n vs ≡ t
  pub node : IsNamed n
  pub set : IsSet vs

pub placed_is : (t : List ℕ) (a : Node × List Fields) → placed_in t ≡ Some a → IsPlacedText t a.0 a.1
unfolding placed_in
placed_is t a e =
    let u = bind_some (until 32 t) placed_of_parts a e in
    let c = until_is 32 t u.0.0 u.0.1 u.1 in
    let s = bind_some (strip (codes "{") u.0.1) (placed_of u.0.0) a u.2 in
    let n = bind_some (node_at u.0.0) (λ n. option_map (with_set n) (set_at s.0)) a s.2 in
    let v = map_some (set_at s.0) (with_set n.0) a n.2 in
    let kn = node_is u.0.0 n.0 n.1 in
    let kv = set_is s.0 v.0 v.1 in
    subst (λ (z : Node × List Fields). IsPlacedText t z.0 z.1) v.2
    (record {
      text = ap (λ z. z ++ 32 ∷ 123 ∷ versions_text true v.0) kn.0 ∙ (ap (λ z. u.0.0 ++ 32 ∷ 123 ∷ z) kv.0 ∙ (ap (λ z. u.0.0 ++ 32 ∷ z) (strip_is (codes "{") u.0.1 s.0 s.1) ∙ c.0));
      node = kn.1;
      set = kv.1;
    })

pub placed_again : (node : Node) (vs : List Fields) → IsNamed node → IsSet vs → placed_in (placed_body node vs) ≡ Some (node, vs)
unfolding placed_in
placed_again node vs h k =
    ap (option_and_then placed_of_parts) (until_again 32 (node_text node) (123 ∷ versions_text true vs) (node_has 32 node refl refl refl h))
    ∙ (ap (option_and_then (λ n. option_map (with_set n) (set_at (versions_text true vs)))) (node_again node h)
    ∙ ap (option_map (with_set node)) (set_again vs k))

-- a byte of neither
pub body_has : (c : ℕ) (node : Node) (vs : List Fields) → is_normal_byte c ≡ false → is_text_byte c ≡ false → eqb 91 c ≡ false → eqb 93 c ≡ false → eqb 44 c ≡ false → eqb 32 c ≡ false → eqb 123 c ≡ false → IsNamed node → IsSet vs
    → has c (placed_body node vs) ≡ false
body_has c node vs k l p q r s t h i =
    has_join c (node_text node) (32 ∷ 123 ∷ versions_text true vs) (node_has c node k p q h) (rw (s, t) (set_has c vs l r i))

-- ---- numbers

own : IsNumeralModel (λ ds. list_all is_ascii_digit ds ≡ true) (digits_value 10)
own = numerals_by_value _ (search rules)

first_lead : (t : List ℕ) → leads_well t ≡ true → get_or t 0 0 ≡ 48 → length t ≡ 1
first_lead [] h e = absurd cc
first_lead (b ∷ []) h e = refl
first_lead (b ∷ c ∷ t) h e = absurd (by_digit (eqb b 48) (eq_byte b e) h)
  where
    eq_byte : (b : ℕ) → b ≡ 48 → eqb b 48 ≡ true
    eq_byte b e = ap (λ z. eqb z 48) e

    by_digit : (x : Bool) → x ≡ true → not x ≡ true → ⊥
    by_digit true p q = cc
    by_digit false p q = cc

filled : (t : List ℕ) → leads_well t ≡ true → 0 < length t
filled [] h = absurd cc
filled (b ∷ t) h = omega arith

pub number_is : (t : List ℕ) (n : ℕ) → number_at t ≡ Some n → (decimal n ≡ t) × (n < 2 ^ 64)
unfolding number_at
number_is t n e =
    let a = pick_true (is_decimal t) (cond (nat_lt (digits_value 10 t) (2 ^ 64)) (Some (digits_value 10 t)) None) n e in
    let b = pick_true (nat_lt (digits_value 10 t) (2 ^ 64)) (Some (digits_value 10 t)) n a.1 in
    let q : digits_value 10 t ≡ n = some_is (digits_value 10 t) n b.1 in
    let l : digits_value 10 t < 2 ^ 64 = ltb-true (digits_value 10 t) (2 ^ 64) b.0 in
    subst (λ z. (decimal z ≡ t) × (z < 2 ^ 64)) q
    (decimal-digits_value own t (first_so _ _ a.0) (filled t (second_so _ _ a.0)) (first_lead t (second_so _ _ a.0)) l, l)

well_led : (t : List ℕ) → 0 < length t → (get_or t 0 0 ≡ 48 → length t ≡ 1) → leads_well t ≡ true
well_led [] h k = absurd (omega arith)
well_led (b ∷ []) h k = refl
well_led (b ∷ c ∷ t) h k = by_digit (eqb b 48) refl
  where
    two : length (b ∷ c ∷ t) ≡ 1 → ⊥
    two e = omega arith

    by_digit : (x : Bool) → eqb b 48 ≡ x → not x ≡ true
    by_digit true p = absurd (two (k (eqb-true b 48 p)))
    by_digit false p = refl

one_digit : (n : ℕ) → n < 2 ^ 64 → get_or (decimal n) 0 0 ≡ 48 → length (decimal n) ≡ 1
one_digit zero h e = ap length (decimal_digit 0 (omega arith))
one_digit (suc n) h e = absurd (omega (arith, first_decimal (suc n) (omega arith) h, e))

pub number_again : (n : ℕ) → n < 2 ^ 64 → number_at (decimal n) ≡ Some n
unfolding number_at
number_again n h =
    let d : list_all is_ascii_digit (decimal n) ≡ true = digits_decimal own n h in
    let l : leads_well (decimal n) ≡ true = well_led (decimal n) (decimal_nonempty n h) (one_digit n h) in
    let v : digits_value 10 (decimal n) ≡ n = digits_value-decimal own n h in
    let s : nat_lt n (2 ^ 64) ≡ true = lt-ltb n (2 ^ 64) h in
    rw (d, l, v, s) refl

-- a byte that is no digit
pub number_has : (c : ℕ) (n : ℕ) → is_ascii_digit c ≡ false → n < 2 ^ 64 → has c (decimal n) ≡ false
number_has c n k h = has_none is_ascii_digit c (decimal n) k (digits_decimal own n h)

-- a number's text is digits
pub decimal_digits : (n : ℕ) → n < 2 ^ 64 → list_all is_ascii_digit (decimal n) ≡ true
decimal_digits n h = digits_decimal own n h
