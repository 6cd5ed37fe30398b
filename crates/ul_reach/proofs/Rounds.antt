-- Turns and rounds: in each world each round reaches a node more, until all that is known is reached.
use Rattle.std.proofs.Common.{◌≡◌, ◌≢◌, ◌⊎◌, ◌<◌, ◌≤◌, ◌+◌, ℕ, zero, suc, List, [], ◌∷◌, ◌++◌, length, Bool, true, false, cond, count_by, Some, None, Contains, get_or, take, refl, sym, ap, ◌∙◌, subst, inl, inr, ⊎_elim, arith}
use Rattle.std.specs.List.{slice_get}
use Rattle.std.proofs.lemmas.List.{take_all, take_more}
use Rattle.std.proofs.lemmas.List.Sums.{count_by-le-length, sum_by-cons}
use Rattle.std.proofs.lemmas.Option.{none-some, same_Some, slice_get_within}
use Rattle.ul_base.proofs.ForCallers.{long_map, none_in}
use Rattle.ul_comparison.specs.Worlds.{WorldFields, IsWorld}
use Rattle.ul_lock.specs.declared.parts.Lock.{Lock}
use Rattle.ul_lock.specs.WellFormed.{IsWellFormed}
use Rattle.ul_lock_nodes.specs.Flags.{LeadsTo, is_flagged}
use Rattle.ul_lock_nodes.specs.Places.{StandsAt}
use Rattle.ul_lock_nodes.specs.Routes.{Route, routes_of}
use Rattle.ul_lock.specs.Walk.{Pick as NodeAt}
use Rattle.ul_lock_nodes.proofs.ForCallers.{clash, in_more, stands_once}
use Rattle.ul_region.specs.Truths.{DiagramMark, PassView, region_at}
use Rattle.ul_region.specs.Unions.{some_holds}
use Rattle.ul_reach.specs.Reaching.{IsFollowed, IsJoined, IsKnownAt, IsReachedAt, IsReaching, IsSettled, Parts, flags_at}
use Rattle.ul_reach.specs.Rounds.{AreLeft, GrowsBy, IsPlaceStable, IsRound, IsStable, IsStableAt, IsTurned, ListsAll, reached_count}
use Rattle.ul_reach.specs.declared.reaching.Reaching.{Reaching}
use Rattle.ul_reach.proofs.Flagged.{from_flag, from_parts}

-- ---- counts of flags

abbrev count : List Bool → ℕ
count fs = count_by (λ (flag : Bool). flag) fs

count_true : (fs : List Bool) → count (true ∷ fs) ≡ 1 + count fs
count_true fs = sum_by-cons (λ (flag : Bool). cond flag 1 0) true fs

count_false : (fs : List Bool) → count (false ∷ fs) ≡ count fs
count_false fs = refl

-- the flags of the one list are flags of the other
abbrev Within : List Bool → List Bool → Type 0
Within fs gs = (k : ℕ) → is_flagged fs k ≡ true → is_flagged gs k ≡ true

-- there are more, or they are the same
abbrev MoreOrSame : List Bool → List Bool → Type 0
MoreOrSame fs gs = (count fs < count gs) ⊎ ((count fs ≡ count gs) × Within gs fs)

within_more : (f g : Bool) (fs gs : List Bool) → (g ≡ true → f ≡ true) → Within gs fs → Within (g ∷ gs) (f ∷ fs)
within_more f g fs gs h t zero e = h e
within_more f g fs gs h t (suc k) e = t k e

first_flags : (f g : Bool) (fs gs : List Bool) → (f ≡ true → g ≡ true) → MoreOrSame fs gs → MoreOrSame (f ∷ fs) (g ∷ gs)
first_flags true true fs gs h r = ⊎_elim (λ lt. inl (omega (arith, lt, count_true fs, count_true gs)))
    (λ q. inr (omega (arith, q.0, count_true fs, count_true gs), within_more true true fs gs (λ z. z) q.1)) r
first_flags true false fs gs h r = absurd (clash false refl (h refl))
first_flags false true fs gs h r = inl (omega (arith, count_false fs, count_true gs, ⊎_elim (λ lt. less lt) (λ q. level q.0) r))
  where
    less : count fs < count gs → count fs ≤ count gs
    less lt = omega (arith, lt)

    level : count fs ≡ count gs → count fs ≤ count gs
    level q = omega (arith, q)
first_flags false false fs gs h r = ⊎_elim (λ lt. inl (omega (arith, lt, count_false fs, count_false gs)))
    (λ q. inr (omega (arith, q.0, count_false fs, count_false gs), within_more false false fs gs (λ z. z) q.1)) r

more_or_same : (fs gs : List Bool) → length fs ≡ length gs → Within fs gs → MoreOrSame fs gs
more_or_same [] [] e up = inr (refl, λ k q. q)
more_or_same [] (g ∷ gs) e up = absurd (omega (arith, e))
more_or_same (f ∷ fs) [] e up = absurd (omega (arith, e))
more_or_same (f ∷ fs) (g ∷ gs) e up = first_flags f g fs gs (up 0) (more_or_same fs gs (omega (arith, e)) (λ k. up (suc k)))

-- what stays reached is no less
no_less : (a b : Reaching) (w : WorldFields) → MoreOrSame (flags_at a.reach.items w) (flags_at b.reach.items w) → reached_count a w ≤ reached_count b w
no_less a b w m = ⊎_elim (λ lt. omega (arith, lt)) (λ q. omega (arith, q.0)) m

reached_more : (a b : Reaching) (w : WorldFields) → length b.reach.items ≡ length a.reach.items → ((k : ℕ) → IsReachedAt a w k → IsReachedAt b w k)
    → MoreOrSame (flags_at a.reach.items w) (flags_at b.reach.items w)
reached_more a b w long stays = more_or_same (flags_at a.reach.items w) (flags_at b.reach.items w)
    (long_map (λ (m : DiagramMark). region_at m w) a.reach.items ∙ (sym long ∙ sym (long_map (λ (m : DiagramMark). region_at m w) b.reach.items))) stays

-- a place is another, or not
same_or_other : (k i : ℕ) → (k ≡ i) ⊎ (k ≢ i)
same_or_other zero zero = inl refl
same_or_other zero (suc i) = inr (λ q. omega (arith, q))
same_or_other (suc k) zero = inr (λ q. omega (arith, q))
same_or_other (suc k) (suc i) = ⊎_elim (λ q. inl (ap suc q)) (λ n. inr (λ q. n (omega (arith, q)))) (same_or_other k i)

-- what is known has a place
known_within : (s : Reaching) (w : WorldFields) (k n : ℕ) → length s.reach.items ≡ n → length s.gathered.items ≡ n → IsKnownAt s w k → k < n
known_within s w k n long size known = ⊎_elim
    (λ e. let z = from_flag s.reach.items k w e in omega (arith, long, slice_get_within s.reach.items k z.0 z.1))
    (λ e. let z = from_parts s.gathered.items k w e in omega (arith, size, slice_get_within s.gathered.items k z.0 z.1)) known

-- ---- turns

-- of a place that no node has
pub turned_past : (place n : ℕ) (a : Reaching) → length a.reach.items ≡ n → length a.gathered.items ≡ n → n ≤ place → IsTurned place a a
turned_past place n a long size past = record {
  stays = λ w k is e. e;
  keeps = λ w k is e. e;
  taken = λ w is known. absurd (omega (arith, past, known_within a w place n long size known));
  only = λ w k is stable e. e;
  left = λ stable k ps at. inr ((λ q. omega (arith, q, past, size, slice_get_within a.gathered.items k ps at)), at);
}

-- of a node for which nothing was gathered
pub turned_none : (place : ℕ) (none : Parts) (a : Reaching) → slice_get a.gathered.items place ≡ Some none → none.items ≡ [] → IsTurned place a a
turned_none place none a here empty = record {
  stays = λ w k is e. e;
  keeps = λ w k is e. e;
  taken = λ w is known. ⊎_elim (λ e. e) (λ e.
      let z = from_parts a.gathered.items place w e in
      absurd (clash (some_holds z.0.items w) (ap (λ (ms : List DiagramMark). some_holds ms w) (own z.0 z.1)) z.2)) known;
  only = λ w k is stable e. e;
  left = λ stable k ps at. ⊎_elim (λ q. inl (own ps (ap (slice_get a.gathered.items) (sym q) ∙ at))) (λ n. inr (n, at)) (same_or_other k place);
}
  where
    own : (ps : Parts) → slice_get a.gathered.items place ≡ Some ps → ps.items ≡ []
    own ps at = ap (λ (z : Parts). z.items) (same_Some ps none (sym at ∙ here)) ∙ empty

-- of a node that is reached nowhere anew
pub turned_same : (h : PassView) (place : ℕ) (a b : Reaching) → IsJoined h place None a b → GrowsBy place None a b → IsTurned place a b
turned_same h place a b j grows = record {
  stays = grows.stays;
  keeps = j.keeps;
  taken = grows.taken;
  only = λ w k is stable e. j.only w k is e;
  left = λ stable. grows.left;
}

-- of one that is reached in more worlds, and whose edges were followed
pub turned_on : (g h i : PassView) (l : Lock) (xs : List (List ℕ)) (place : ℕ) (a b c : Reaching) (region : DiagramMark) (r : Route) → IsWellFormed l → IsReaching g l xs a
    → IsJoined h place (Some region) a b → GrowsBy place (Some region) a b → slice_get (routes_of l.packages) place ≡ Some r
    → c.reach.items ≡ b.reach.items → IsFollowed i (routes_of l.packages) region r.1 b.gathered.items c.gathered.items → IsTurned place a c
turned_on g h i l xs place a b c region r ok x j grows here same f = record {
  stays = λ w k is e. to_c w k (grows.stays w k is e);
  keeps = λ w k is e. ⊎_elim (λ m. inl (to_c w k m)) (λ m. inr (f.more.keeps w k m)) (j.keeps w k is e);
  taken = λ w is known. to_c w place (grows.taken w is known);
  only = λ w k is stable e. ⊎_elim (λ m. j.only w k is (inl (to_b w k m))) (λ m. ⊎_elim (λ n. j.only w k is (inr n)) (led w k is stable) (f.only w k is m)) e;
  left = λ stable. absurd (none-some region (sym (grows.none (λ w is. stable w is place))));
}
  where
    to_b : (w : WorldFields) (k : ℕ) → IsReachedAt c w k → IsReachedAt b w k
    to_b w k e = subst (λ (ms : List DiagramMark). is_flagged (flags_at ms w) k ≡ true) same e

    to_c : (w : WorldFields) (k : ℕ) → IsReachedAt b w k → IsReachedAt c w k
    to_c w k e = subst (λ (ms : List DiagramMark). is_flagged (flags_at ms w) k ≡ true) (sym same) e

    -- what the edges lead to is known where the node was reached before
    led : (w : WorldFields) (k : ℕ) → IsWorld w → IsPlaceStable a w place → (region_at region w ≡ true) × ((p : NodeAt) × StandsAt (routes_of l.packages) k p × LeadsTo w r.1 p) → IsKnownAt a w k
    led w k is stable z =
        let reached = stable (j.only w place is (inl (j.reached w place is (refl, z.0)))) in
        let at = x.left w place is reached r z.1.0 here z.1.2 k z.1.1 in
        subst (IsKnownAt a w) (stands_once l.packages ok.packages_rise ok.packages at.0 k z.1.0 at.1 z.1.1) at.2

-- ---- a round

-- in the world no node is reached that wasn't before the round, nothing more is known, and what was known of the nodes
-- that had their turn is reached
pub record IsStillAt (w : WorldFields) (places : List ℕ) (before after : Reaching) : Type 0 where
  pub reached : (k : ℕ) → IsReachedAt after w k → IsReachedAt before w k
  pub known : (k : ℕ) → IsKnownAt after w k → IsKnownAt before w k
  pub taken : (k : ℕ) → Contains places k → IsKnownAt before w k → IsReachedAt after w k

-- the nodes at the places had their turn in a round
pub record IsRoundTo (places : List ℕ) (before after : Reaching) : Type 0 where
  pub long : length after.reach.items ≡ length before.reach.items
  pub stays : (w : WorldFields) (k : ℕ) → IsWorld w → IsReachedAt before w k → IsReachedAt after w k
  pub keeps : (w : WorldFields) (k : ℕ) → IsWorld w → IsKnownAt before w k → IsKnownAt after w k
  pub more : (w : WorldFields) → IsWorld w
      → (reached_count before w < reached_count after w) ⊎ IsStillAt w places before after
  pub stable : (w : WorldFields) → IsWorld w → IsStableAt before w → IsStableAt after w
  pub left : IsStable before → (k : ℕ) (ps : Parts) → slice_get after.gathered.items k ≡ Some ps → Contains places k
      → ps.items ≡ []

pub round_none : (s : Reaching) → IsRoundTo [] s s
round_none s = record {
  long = refl;
  stays = λ w k is e. e;
  keeps = λ w k is e. e;
  more = λ w is. inr (record { reached = λ k e. e; known = λ k e. e; taken = λ k c. absurd (none_in k c) });
  stable = λ w is q. q;
  left = λ q k ps at c. absurd (none_in k c);
}

-- one turn more
round_more : (places : List ℕ) (place : ℕ) (o a b : Reaching) → IsRoundTo places o a → length b.reach.items ≡ length a.reach.items → IsTurned place a b → IsRoundTo (places ++ place ∷ []) o b
round_more places place o a b r long t = record {
  long = long ∙ r.long;
  stays = λ w k is e. t.stays w k is (r.stays w k is e);
  keeps = λ w k is e. t.keeps w k is (r.keeps w k is e);
  more = λ w is. ⊎_elim (λ lt. inl (omega (arith, lt, no_less a b w (next w is)))) (λ still. ⊎_elim (λ lt. inl (omega (arith, lt, no_less o a w (before w is)))) (λ q. inr (on w is still q.1)) (next w is)) (r.more w is);
  stable = λ w is q k e. t.stays w k is (r.stable w is q k (t.only w k is (r.stable w is q place) e));
  left = λ q k ps at c. ⊎_elim (λ e. e) (λ n. ⊎_elim (r.left q k ps n.1) (λ z. absurd (n.0 z)) (in_more places place k c)) (t.left (λ w is. r.stable w is (q w is)) k ps at);
}
  where
    next : (w : WorldFields) → IsWorld w → MoreOrSame (flags_at a.reach.items w) (flags_at b.reach.items w)
    next w is = reached_more a b w long (λ k e. t.stays w k is e)

    before : (w : WorldFields) → IsWorld w → MoreOrSame (flags_at o.reach.items w) (flags_at a.reach.items w)
    before w is = reached_more o a w r.long (λ k e. r.stays w k is e)

    on : (w : WorldFields) → IsWorld w → IsStillAt w places o a → ((k : ℕ) → IsReachedAt b w k → IsReachedAt a w k) → IsStillAt w (places ++ place ∷ []) o b
    on w is still back = record {
      reached = λ k e. still.reached k (back k e);
      known = λ k e. still.known k (t.only w k is (λ known. back place (t.taken w is known)) e);
      taken = λ k c known. ⊎_elim (λ m. t.stays w k is (still.taken k m known)) (λ q. subst (IsReachedAt b w) (sym q) (t.taken w is (subst (IsKnownAt a w) q (r.keeps w k is known)))) (in_more places place k c);
    }

-- a loop's step
pub round_step : (places : List ℕ) (i d : ℕ) (o a b : Reaching) → i < length places → IsRoundTo (take i places) o a → length b.reach.items ≡ length a.reach.items → IsTurned (get_or places i d) a b
    → IsRoundTo (take (i + 1) places) o b
round_step places i d o a b lt r long t = subst (λ (ks : List ℕ). IsRoundTo ks o b) (sym (take_more places i d lt)) (round_more (take i places) (get_or places i d) o a b r long t)

-- each place had its turn
pub round_done : (n i : ℕ) (places : List ℕ) (o b : Reaching) → length places ≤ i → ListsAll n places → length b.reach.items ≡ n → length b.gathered.items ≡ n → IsRoundTo (take i places) o b → IsRound o b
round_done n i places o b past all long size part = record {
  more = λ w is. ⊎_elim inr (λ still. inl (λ k e. still.taken k (all k (known_within b w k n long size e)) (still.known k e))) (r.more w is);
  stable = r.stable;
  settles = λ q k ps at. r.left q k ps at (all k (omega (arith, size, slice_get_within b.gathered.items k ps at)));
}
  where
    r : IsRoundTo places o b
    r = subst (λ (ks : List ℕ). IsRoundTo ks o b) (take_all i places past) part

-- ---- rounds

-- so many rounds were gone: in each world all that is known is reached, or as many nodes are
abbrev pub HasRounds : ℕ → Reaching → Type 0
HasRounds turn s = (w : WorldFields) → IsWorld w → IsStableAt s w ⊎ (turn ≤ reached_count s w)

pub no_rounds : (s : Reaching) → HasRounds 0 s
no_rounds s w is = inr (omega arith)

pub rounds_more : (turn : ℕ) (a b : Reaching) → HasRounds turn a → IsRound a b → HasRounds (turn + 1) b
rounds_more turn a b has r w is = ⊎_elim (λ q. inl (r.stable w is q)) (λ le. ⊎_elim inl (λ lt. inr (omega (arith, le, lt))) (r.more w is)) (has w is)

-- no more nodes are reached than there are
pub rounds_over : (turn n : ℕ) (s : Reaching) → length s.reach.items ≡ n → n < turn → HasRounds turn s → IsStable s
rounds_over turn n s long over has w is = ⊎_elim (λ q. q) (λ le. absurd (omega (arith, le, over, few, long_map (λ (m : DiagramMark). region_at m w) s.reach.items, long))) (has w is)
  where
    few : reached_count s w ≤ length (flags_at s.reach.items w)
    few = count_by-le-length (λ (flag : Bool). flag) (flags_at s.reach.items w)
