-- Each step on the word keeps the rule.
use Rattle.std.proofs.Common.{◌≡◌, ◌≢◌, ℕ, zero, suc, ◌+◌, ◌-◌, ◌*◌, ◌%◌, ◌^◌, ◌<◌, ◌≤◌, ◌==◌, cond, List, [], ◌∷◌, ◌++◌, length, set, slice_index, sym, refl, ap, ◌∙◌, subst, ⊎_elim, arith, length-append, get_or-set_same, length-set}
use Rattle.std.proofs.lemmas.List.{set-get_or}
use Rattle.std.proofs.lemmas.Bool.Decides.{nat_tests}
use Rattle.std.proofs.Math.Nat.{mod-eq_of_lt}
use mathlib.Core.Option.{none, some, some-ne-none, some-injective}
use lib.ListN.{get_elem?}
use mathlib.Core.Logic.{dite}
use native.Mathlib.Decide.{ℕ_discrete}
use Rattle.atomic_table.specs.Table.{State, Me, step, stepped, keeps, opening, Allows, Splits, Joins}
use Rattle.atomic_table.proofs.Lists.{at_set, at_snoc}
use Rattle.ul_claims.specs.declared.steps.Tally.{Tally}
use Rattle.ul_claims.specs.Rule.{parts_in_all, tally, times, total, once_below, Fits, EachOnce, Draws, Looks, EachNumberHasOneSeat}
use Rattle.ul_claims.specs.Claimed.{Shows}
use Rattle.ul_claims.proofs.CoreClaims.{shows_first, claim_of, shows_more}
use Rattle.ul_claims.proofs.Numbers.{times-append, All-from_times, times_from_contains}

-- a seat's share of the total after a change of its view
total_set : (f : Tally → ℕ) (vs : List Tally) (j : ℕ) (v w : Tally) → get_elem? vs j ≡ some v → total f (set vs j w) + f v ≡ total f vs + f w
total_set f [] j v w e = absurd (some-ne-none v (sym e))
total_set f (u ∷ vs) zero v w e = omega (arith, ap f (some-injective u v e))
total_set f (u ∷ vs) (suc j) v w e = omega (arith, total_set f vs j v w e)

total_snoc : (f : Tally → ℕ) (vs : List Tally) (w : Tally) → total f (vs ++ w ∷ []) ≡ total f vs + f w
total_snoc f [] w = omega arith
total_snoc f (u ∷ vs) w = omega (arith, total_snoc f vs w)

total_ge : (f : Tally → ℕ) (vs : List Tally) (j : ℕ) (v : Tally) → get_elem? vs j ≡ some v → f v ≤ total f vs
total_ge f [] j v e = absurd (some-ne-none v (sym e))
total_ge f (u ∷ vs) zero v e = omega (arith, ap f (some-injective u v e))
total_ge f (u ∷ vs) (suc j) v e = omega (arith, total_ge f vs j v e)

abbrev Each : (Tally → Type 0) → List Tally → Type 0
Each F vs = (j : ℕ) (v : Tally) → get_elem? vs j ≡ some v → F v

total_le : (vs : List Tally) → Each Fits vs → total (λ v. length v.drawn) vs ≤ 2 ^ 32 * total (λ v. v.parts) vs
total_le [] all = omega arith
total_le (u ∷ vs) all = omega (arith, (all 0 u refl).1, total_le vs (λ j v e. all (suc j) v e))

each_set : (F : Tally → Type 0) (vs : List Tally) (j : ℕ) (w : Tally) → F w → Each F vs → Each F (set vs j w)
each_set F vs j w mine all k u e = ⊎_elim (λ t. subst F t.1 mine) (λ t. all k u t.1) (at_set vs j k w u e)

each_snoc : (F : Tally → Type 0) (vs : List Tally) (w : Tally) → F w → Each F vs → Each F (vs ++ w ∷ [])
each_snoc F vs w mine all k u e = ⊎_elim (λ t. all k u t) (λ t. subst F t mine) (at_snoc vs w u k e)

once_suc : (x n : ℕ) → once_below x (n + 1) ≡ once_below x n + cond (n == x) 1 0
once_suc x n = grind (arith, nat_tests)

below_once : (x n : ℕ) → 0 < once_below x n → x < n
below_once x n h = grind (arith, nat_tests)

one_seat : (j : ℕ) (u v : Tally) → Fits u → get_elem? (u ∷ []) j ≡ some v → Fits v
one_seat zero u v fits is = subst Fits (some-injective u v is) fits
one_seat (suc j) u v fits is = absurd (some-ne-none v (sym is))

-- the table as it begins
pub opens : EachOnce (opening (0 ∷ []) [] (tally parts_in_all []))
opens = record {
  width = refl;
  core = shows_first;
  parts = refl;
  once = λ x. grind (arith, nat_tests);
  sums = refl;
  fits = λ j v is. one_seat j (tally parts_in_all []) v ((λ z. refl), omega arith) is;
}

pub draws : (slots id : ℕ) (me : Me ℕ Tally) → 0 < me.0.parts → length me.0.drawn < 2 ^ 32
    → Allows EachOnce slots id me 0 (λ n. (n + 1) % 2 ^ 64) (Draws (step slots 0 1 0 none) me)
draws slots id me part few s r _ at small =
    let v : Tally = me.0 in
    let n : ℕ = slice_index s.words 0 in
    let w : Tally = tally v.parts (v.drawn ++ n ∷ []) in
    let top : n + 1 < 2 ^ 64 = omega (arith, total_le s.views r.fits, r.sums, r.parts) in
    let now : slice_index (set s.words 0 ((n + 1) % 2 ^ 64)) 0 ≡ n + 1 = get_or-set_same s.words 0 ((n + 1) % 2 ^ 64) 0 (omega (arith, r.width)) ∙ mod-eq_of_lt top in
    let after : State ℕ Tally = stepped s 0 ((n + 1) % 2 ^ 64) id me.1 w keeps in
    let kept : EachOnce after = record {
      width = length-set s.words 0 _ ∙ r.width;
      core = subst Shows (sym now) (shows_more n r.core top);
      parts = omega (arith, total_set (λ u. u.parts) s.views id v w at, r.parts);
      once = λ x. omega (arith, ap (once_below x) now, once_suc x n, total_set (λ u. times x u.drawn) s.views id v w at, r.once x, times-append x v.drawn (n ∷ []));
      sums = omega (arith, now, total_set (λ u. length u.drawn) s.views id v w at, r.sums, length-append v.drawn (n ∷ []));
      fits = each_set Fits s.views id w ((λ z. absurd (omega arith)), omega (arith, length-append v.drawn (n ∷ []))) r.fits;
    } in (
      w,
      keeps,
      tt,
      kept,
      (
        refl,
        All-from_times (λ x. x < n) v.drawn (λ x h. below_once x n (omega (arith, r.once x, total_ge (λ u. times x u.drawn) s.views id v at))),
        claim_of n r.core top,
        record { before = s; seat = id; rule_before = r; word = refl; here = at; after = after; word_after = now; views_after = refl; rule_after = kept },
      ),
    )

pub splits : (id : ℕ) (v : Tally) → 1 < v.parts → length v.drawn ≤ 2 ^ 32 → Splits EachOnce id v (tally (v.parts - 1) v.drawn) (tally 1 [])
splits id v parts few s r at =
    let l : Tally = tally (v.parts - 1) v.drawn in
    let w : Tally = tally 1 [] in
    let vs : List Tally = set s.views id l in record {
      width = r.width;
      core = r.core;
      parts = omega (arith, total_snoc (λ u. u.parts) vs w, total_set (λ u. u.parts) s.views id v l at, r.parts);
      once = λ x. omega (arith, total_snoc (λ u. times x u.drawn) vs w, total_set (λ u. times x u.drawn) s.views id v l at, r.once x);
      sums = omega (arith, total_snoc (λ u. length u.drawn) vs w, total_set (λ u. length u.drawn) s.views id v l at, r.sums);
      fits = each_snoc Fits vs w ((λ z. absurd (omega arith)), omega arith) (each_set Fits s.views id l ((λ z. absurd (omega arith)), omega arith) r.fits);
    }

pub joins : (id : ℕ) (v : Tally) (other : ℕ) (u : Tally) → Joins EachOnce id v other u (tally (v.parts + u.parts) (v.drawn ++ u.drawn)) (tally 0 [])
joins id v other u s r at two there =
    let b : Tally = tally (v.parts + u.parts) (v.drawn ++ u.drawn) in
    let w : Tally = tally 0 [] in
    let vs : List Tally = set s.views id b in
    let was : get_elem? s.views other ≡ some u = ⊎_elim (λ t. absurd (two t.0)) (λ t. t.1) (at_set s.views id other b u there) in
    let fv = r.fits id v at in let fu = r.fits other u was in record {
      width = r.width;
      core = r.core;
      parts = omega (arith, total_set (λ z. z.parts) vs other u w there, total_set (λ z. z.parts) s.views id v b at, r.parts);
      once = λ x. omega (arith, total_set (λ z. times x z.drawn) vs other u w there, total_set (λ z. times x z.drawn) s.views id v b at, r.once x, times-append x v.drawn u.drawn);
      sums = omega (arith, total_set (λ z. length z.drawn) vs other u w there, total_set (λ z. length z.drawn) s.views id v b at, r.sums, length-append v.drawn u.drawn);
      fits = each_set Fits vs other w ((λ z. refl), omega arith) (each_set Fits s.views id b ((λ z. ap (λ xs. xs ++ u.drawn) (fv.0 (omega arith)) ∙ fu.0 (omega arith)), omega (arith, fv.1, fu.1, length-append v.drawn u.drawn)) r.fits);
    }

-- only the seat with every part has drawn anything
alone : (f : Tally → ℕ) (vs : List Tally) (j : ℕ) (v : Tally) → ((u : Tally) → Fits u → u.parts ≡ 0 → f u ≡ 0) → Each Fits vs → get_elem? vs j ≡ some v → total (λ u. u.parts) vs ≡ v.parts → total f vs ≡ f v
alone f [] j v none_of all e h = absurd (some-ne-none v (sym e))
alone f (u ∷ vs) zero v none_of all e h = let is = some-injective u v e in omega (arith, ap f is, ap (λ (z : Tally). z.parts) is, none f vs none_of (λ j v e. all (suc j) v e) (omega (arith, ap (λ (z : Tally). z.parts) is)))
  where
    none : (f : Tally → ℕ) (vs : List Tally) → ((u : Tally) → Fits u → u.parts ≡ 0 → f u ≡ 0) → Each Fits vs → total (λ u. u.parts) vs ≡ 0 → total f vs ≡ 0
    none f [] none_of all h = refl
    none f (u ∷ vs) none_of all h = omega (arith, none_of u (all 0 u refl) (omega arith), none f vs none_of (λ j v e. all (suc j) v e) (omega arith))
alone f (u ∷ vs) (suc j) v none_of all e h = let le = total_ge (λ z. z.parts) vs j v e in omega (arith, none_of u (all 0 u refl) (omega arith), alone f vs j v none_of (λ j v e. all (suc j) v e) e (omega arith))

once_at_most : (x n : ℕ) → once_below x n ≤ 1
once_at_most x n = grind (arith, nat_tests)

-- two seats' share of the total
total_two : (f : Tally → ℕ) (vs : List Tally) (i j : ℕ) (v w : Tally) → i ≢ j → get_elem? vs i ≡ some v → get_elem? vs j ≡ some w → f v + f w ≤ total f vs
total_two f [] i j v w apart at there = absurd (some-ne-none v (sym at))
total_two f (u ∷ vs) zero zero v w apart at there = absurd (apart refl)
total_two f (u ∷ vs) zero (suc j) v w apart at there = omega (arith, ap f (some-injective u v at), total_ge f vs j w there)
total_two f (u ∷ vs) (suc i) zero v w apart at there = omega (arith, ap f (some-injective u w there), total_ge f vs i v at)
total_two f (u ∷ vs) (suc i) (suc j) v w apart at there = omega (arith, total_two f vs i j v w (λ e. apart (ap suc e)) at there)

pub one_seat_each : EachNumberHasOneSeat
one_seat_each s r x =
    let n : ℕ = slice_index s.words 0 in record {
      one = λ i j v w at there has has'. dite (ℕ_discrete i j) (λ e. e)
          (λ apart. absurd (omega (arith, total_two (λ u. times x u.drawn) s.views i j v w apart at there, times_from_contains x v.drawn has, times_from_contains x w.drawn has', r.once x, once_at_most x n)));
      once = λ i v at. omega (arith, total_ge (λ u. times x u.drawn) s.views i v at, r.once x, once_at_most x n);
      below = λ i v at has. below_once x n (omega (arith, r.once x, times_from_contains x v.drawn has, total_ge (λ u. times x u.drawn) s.views i v at));
    }

pub looks : (slots id : ℕ) (me : Me ℕ Tally) → Allows EachOnce slots id me 0 (λ n. n) (Looks (step slots 0 0 0 none) me)
looks slots id me s r _ at small =
    let v : Tally = me.0 in
    let n : ℕ = slice_index s.words 0 in (
      v,
      keeps,
      tt,
      record {
        width = length-set s.words 0 _ ∙ r.width;
        core = subst (λ ws. Shows (slice_index ws 0)) (sym (set-get_or s.words 0 0)) r.core;
        parts = omega (arith, total_set (λ u. u.parts) s.views id v v at, r.parts);
        once = λ x. omega (arith, ap (λ ws. once_below x (slice_index ws 0)) (set-get_or s.words 0 0), total_set (λ u. times x u.drawn) s.views id v v at, r.once x);
        sums = omega (arith, ap (λ ws. slice_index ws 0) (set-get_or s.words 0 0), total_set (λ u. length u.drawn) s.views id v v at, r.sums);
        fits = each_set Fits s.views id v (r.fits id v at) r.fits;
      },
      (
        refl,
        (λ x. omega (arith, r.once x, once_at_most x n, total_ge (λ u. times x u.drawn) s.views id v at)),
        λ every x. sym (alone (λ u. times x u.drawn) s.views id v (λ u f z. ap (times x) (f.0 z)) r.fits at (r.parts ∙ sym every)) ∙ r.once x,
      ),
    )
