-- The worked examples hold.
use Rattle.std.proofs.Common.{◌≡◌, ℕ, zero, suc, ◌+◌, ◌-◌, ◌<◌, ◌≤◌, ◌^◌, List, [], ◌∷◌, ◌++◌, length, slice_index, sym, refl, ap, subst, arith}
use Rattle.std.specs.Prelude.{All}
use Rattle.std.proofs.lemmas.Bool.Decides.{nat_tests}
use Rattle.std.proofs.lemmas.List.Elements.{All-nil, All-cons, All-contains}
use Rattle.atomic_table.specs.Seated.{TableId}
use mathlib.Core.Option.{some, some-ne-none, some-injective}
use lib.ListN.{get_elem?}
use Rattle.ul_claims.specs.declared.steps.Tally.{Tally}
use Rattle.ul_claims.specs.Claimed.{Shows, IsClaim}
use Rattle.ul_claims.specs.Rule.{parts_in_all, tally, times, total, once_below, Fits, EachOnce, IsDrawOf}
use Rattle.ul_claims.specs.Seats.{SeatView, HadNone}
use Rattle.ul_claims.specs.Vectors.{seat_with, two_seats, one_split, AreShown, AreNotShown, AreDraws, AreNotDraws, AreGathered}
use Rattle.ul_claims.proofs.Gathered.{times_from_drawn}
use Rattle.ul_claims.proofs.CoreClaims.{shows_first, shows_more, claim_of}

shows_any : (n : ℕ) → n < 2 ^ 64 → Shows n
shows_any zero room = shows_first
shows_any (suc n) room = subst Shows (let e : n + 1 ≡ suc n = omega arith in e) (shows_more n (shows_any n (omega arith)) (omega arith))

two_fit : (u v : Tally) → Fits u → Fits v → (j : ℕ) (w : Tally) → get_elem? (u ∷ v ∷ []) j ≡ some w → Fits w
two_fit u v a b zero w is = subst Fits (some-injective u w is) a
two_fit u v a b (suc zero) w is = subst Fits (some-injective v w is) b
two_fit u v a b (suc (suc j)) w is = absurd (some-ne-none w (sym is))

three_fit : (t u v : Tally) → Fits t → Fits u → Fits v → (j : ℕ) (w : Tally) → get_elem? (t ∷ u ∷ v ∷ []) j ≡ some w → Fits w
three_fit t u v a b c zero w is = subst Fits (some-injective t w is) a
three_fit t u v a b c (suc j) w is = two_fit u v b c j w is

fits_few : (parts : ℕ) (drawn : List ℕ) → 0 < parts → length drawn ≤ 4 → Fits (tally parts drawn)
fits_few parts drawn one few = ((λ none. absurd (omega arith)), omega arith)

pub shown : AreShown
shown = record {
  fresh = record { width = refl; core = shows_first; parts = refl; once = λ x. grind (arith, nat_tests); sums = refl; fits = two_fit _ _ (fits_few _ _ (omega arith) (omega arith)) (fits_few _ _ (omega arith) (omega arith)) };
  in_turn = record { width = refl; core = shows_any 3 (omega arith); parts = refl; once = λ x. grind (arith, nat_tests); sums = refl; fits = two_fit _ _ (fits_few _ _ (omega arith) (omega arith)) (fits_few _ _ (omega arith) (omega arith)) };
  three_seats = record { width = refl; core = shows_any 4 (omega arith); parts = refl; once = λ x. grind (arith, nat_tests); sums = refl; fits = three_fit _ _ _ (fits_few _ _ (omega arith) (omega arith)) (fits_few _ _ (omega arith) (omega arith)) (fits_few _ _ (omega arith) (omega arith)) };
  one_seat_alone = record { width = refl; core = shows_any 2 (omega arith); parts = refl; once = λ x. grind (arith, nat_tests); sums = refl; fits = two_fit _ _ (fits_few _ _ (omega arith) (omega arith)) (fits_few _ _ (omega arith) (omega arith)) };
}

pub not_shown : AreNotShown
not_shown = record {
  twice = λ g. absurd (omega (arith, g.sums));
  twice_in_one = λ g. absurd (omega (arith, g.once 0));
  left_out = λ g. absurd (omega (arith, g.once 1));
  not_reached = λ g. absurd (omega (arith, g.once 2));
  not_drawn = λ g. absurd (omega (arith, g.once 0));
  lost_part = λ g. absurd (omega (arith, g.parts));
}

claim_at : (n : ℕ) → n + 1 < 2 ^ 64 → IsClaim n
claim_at n room = claim_of n (shows_any n (omega arith)) room

two_below : (n x y : ℕ) → x < n → y < n → All (λ z. z < n) (x ∷ y ∷ [])
two_below n x y a b = All-cons (λ z. z < n) x (y ∷ []) a (All-cons (λ z. z < n) y [] b (All-nil (λ z. z < n)))

split_shown : (word : ℕ) (first second : List ℕ) → word < 2 ^ 64 → length first ≤ 4 → length second ≤ 4
    → ((x : ℕ) → total (λ v. times x v.drawn) (one_split word first second).views ≡ once_below x word) → length first + length second ≡ word → EachOnce (one_split word first second)
split_shown word first second room few few' once sums =
    record { width = refl; core = shows_any word room; parts = refl; once = once; sums = omega (arith, sums); fits = two_fit _ _ (fits_few _ _ (omega arith) (omega arith)) (fits_few _ _ (omega arith) (omega arith)) }

-- the split seat draws the number that the word has
draw_of : (word : ℕ) (first second : List ℕ) → EachOnce (one_split word first second) → EachOnce (one_split (word + 1) first (second ++ word ∷ [])) → IsDrawOf word (tally 1 second)
draw_of word first second before after = record {
  before = one_split word first second;
  seat = 1;
  rule_before = before;
  word = refl;
  here = refl;
  after = one_split (word + 1) first (second ++ word ∷ []);
  word_after = refl;
  views_after = refl;
  rule_after = after;
}

draw_0 : IsDrawOf 0 (tally 1 [])
draw_0 = draw_of 0 [] [] (split_shown 0 [] [] (omega arith) (omega arith) (omega arith) (λ x. grind (arith, nat_tests)) (omega arith)) (split_shown 1 [] (0 ∷ []) (omega arith) (omega arith) (omega arith) (λ x. grind (arith, nat_tests)) (omega arith))

draw_4 : IsDrawOf 4 (tally 1 (0 ∷ 3 ∷ []))
draw_4 = draw_of 4 (1 ∷ 2 ∷ []) (0 ∷ 3 ∷ [])
    (split_shown 4 (1 ∷ 2 ∷ []) (0 ∷ 3 ∷ []) (omega arith) (omega arith) (omega arith) (λ x. grind (arith, nat_tests)) (omega arith))
    (split_shown 5 (1 ∷ 2 ∷ []) (0 ∷ 3 ∷ 4 ∷ []) (omega arith) (omega arith) (omega arith) (λ x. grind (arith, nat_tests)) (omega arith))

draw_5 : IsDrawOf 5 (tally 1 (0 ∷ 3 ∷ []))
draw_5 = draw_of 5 (1 ∷ 2 ∷ 4 ∷ []) (0 ∷ 3 ∷ [])
    (split_shown 5 (1 ∷ 2 ∷ 4 ∷ []) (0 ∷ 3 ∷ []) (omega arith) (omega arith) (omega arith) (λ x. grind (arith, nat_tests)) (omega arith))
    (split_shown 6 (1 ∷ 2 ∷ 4 ∷ []) (0 ∷ 3 ∷ 5 ∷ []) (omega arith) (omega arith) (omega arith) (λ x. grind (arith, nat_tests)) (omega arith))

draw_6 : IsDrawOf 6 (tally 1 (0 ∷ 5 ∷ []))
draw_6 = draw_of 6 (1 ∷ 2 ∷ 3 ∷ 4 ∷ []) (0 ∷ 5 ∷ [])
    (split_shown 6 (1 ∷ 2 ∷ 3 ∷ 4 ∷ []) (0 ∷ 5 ∷ []) (omega arith) (omega arith) (omega arith) (λ x. grind (arith, nat_tests)) (omega arith))
    (split_shown 7 (1 ∷ 2 ∷ 3 ∷ 4 ∷ []) (0 ∷ 5 ∷ 6 ∷ []) (omega arith) (omega arith) (omega arith) (λ x. grind (arith, nat_tests)) (omega arith))

pub draws : (table : TableId) → AreDraws table
draws table = record {
  first = record { number = 0; word = draw_0; claim = claim_at 0 (omega arith); list = refl; greater = All-nil (λ z. z < 0); few = omega arith; reply = (refl, omega arith) };
  last_below = record { number = 4; word = draw_4; claim = claim_at 4 (omega arith); list = refl; greater = two_below 4 0 3 (omega arith) (omega arith); few = omega arith; reply = (refl, omega arith) };
  at_limit = record { number = 5; word = draw_5; claim = claim_at 5 (omega arith); list = refl; greater = two_below 5 0 3 (omega arith) (omega arith); few = omega arith; reply = omega arith };
  beyond = record { number = 6; word = draw_6; claim = claim_at 6 (omega arith); list = refl; greater = two_below 6 0 5 (omega arith) (omega arith); few = omega arith; reply = omega arith };
}

pub not_draws : (table : TableId) → AreNotDraws table
not_draws table = record {
  none_early = λ d. let n : 4 ≡ d.number = ap (λ (s : SeatView). slice_index s.drawn 2) d.list in absurd (omega (arith, d.reply));
  none_late = λ d. absurd (omega (arith, d.reply.0, d.reply.1));
  not_greater = λ d. let n : 2 ≡ d.number = ap (λ (s : SeatView). slice_index s.drawn 2) d.list in let above : 3 < d.number = d.greater 1 0 (omega arith) in absurd (omega arith);
  not_added = λ d. absurd (omega (arith, ap (λ (s : SeatView). length s.drawn) d.list));
  another = λ d. let n : 2 ≡ d.number = ap (λ (s : SeatView). slice_index s.drawn 2) d.list in absurd (omega (arith, d.reply.0));
  lost = λ d. absurd (omega (arith, ap (λ (s : SeatView). length s.drawn) d.list));
}

-- where each seat's numbers are below its limit, none was answered None
no_none : (seats : List SeatView) → All (λ s. All (λ n. n < s.claims.limit) s.drawn) seats → ¬ HadNone seats
no_none seats all (k, s, l, is, past) =
    let low : All (λ n. n < s.claims.limit) s.drawn = All-contains (λ s. All (λ n. n < s.claims.limit) s.drawn) seats s all (k, l, is) in
    let below_limit : past.1 < s.claims.limit = All-contains (λ n. n < s.claims.limit) s.drawn past.1 low (past.0, past.2, past.3) in
    absurd (omega (arith, past.4))

pub gathered : (table : TableId) → AreGathered table
gathered table = record {
  below_limit = refl;
  drawn = (1, seat_with table 3 (1 ∷ []), omega arith, refl, (0, omega arith, refl));
  drawn_beyond = (0, record (seat_with table 3 (0 ∷ 3 ∷ [])) { parts = parts_in_all - 1 }, omega arith, refl, (1, omega arith, refl));
  not_drawn = λ h. absurd (omega (arith, times_from_drawn 2 (two_seats table 3) h));
  once = refl;
  all = refl;
  not_all = λ e. absurd (omega (arith, e));
  had_none = (0, record (seat_with table 3 (0 ∷ 3 ∷ [])) { parts = parts_in_all - 1 }, omega arith, refl, (1, 3, omega arith, refl, omega arith));
  had_no_none = no_none (two_seats table 4)
      (All-cons (λ s. All (λ n. n < s.claims.limit) s.drawn) (record (seat_with table 4 (0 ∷ 3 ∷ [])) { parts = parts_in_all - 1 }) (seat_with table 4 (1 ∷ []) ∷ []) (two_below 4 0 3 (omega arith) (omega arith))
      (All-cons (λ s. All (λ n. n < s.claims.limit) s.drawn) (seat_with table 4 (1 ∷ [])) [] (All-cons (λ n. n < 4) 1 [] (omega arith) (All-nil (λ n. n < 4))) (All-nil (λ s. All (λ n. n < s.claims.limit) s.drawn))));
}
