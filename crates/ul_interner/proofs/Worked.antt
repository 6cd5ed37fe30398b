-- The worked examples hold.
use Rattle.std.proofs.Common.{◌≡◌, ◌≢◌, ℕ, zero, suc, ◌<◌, ◌≤◌, List, [], ◌∷◌, length, map, Some, None, sym, refl, ap, ◌∙◌, subst, arith, lit<}
use Rattle.std.specs.List.{slice_get}
use mathlib.Core.Option.{some, some-ne-none, some-injective}
use lib.ListN.{get_elem?}
use Rattle.ul_core.specs.Trees.{tree_with}
use Rattle.ul_core.specs.Core.{log_of}
use Rattle.ul_core.proofs.ForCallers.{each_run_is_sound}
use Rattle.ul_interner.specs.declared.views.View.{View}
use Rattle.ul_interner.specs.Marked.{Marked, mark_with, plain, id_of}
use Rattle.ul_interner.specs.Logs.{at, Begins, StandsIn, KnownIn, AllKnownIn}
use Rattle.ul_interner.specs.Rule.{view}
use Rattle.ul_interner.specs.Vectors.{three, five, four, over_three, over_three_elsewhere, seen_logs, fewer_logs, itself, empty_core, KnownVectors, NewestVectors, TableVectors}
use Rattle.ul_interner.proofs.Grown.{id_in, parts_in, plain_with}
use Rattle.ul_interner.proofs.Lists.{some_is, some_not, none_got}
use Rattle.ul_interner.proofs.Seen.{known_stands}
use Rattle.ul_interner.proofs.Knowing.{known_made, known_in_parts}

-- a mark stands at a place that is told
stands_at : (logs : List (List (Marked ℕ))) (m : Marked ℕ) (shard place : ℕ) → id_of m ≡ (shard, place) → slice_get (at logs shard) place ≡ Some m → StandsIn logs m
stands_at logs m shard place id here = ap (λ z. slice_get (at logs z.0) z.1) id ∙ here

leaf_known : (logs : List (List (Marked ℕ))) (l shard place hash : ℕ) → slice_get (at logs shard) place ≡ Some (mark_with l shard place hash []) → KnownIn logs (mark_with l shard place hash [])
leaf_known logs l shard place hash here = let m = mark_with l shard place hash [] in
    known_made logs m (stands_at logs m shard place (id_in l shard place hash [] m refl) here)
    (subst (AllKnownIn logs) (sym (parts_in l shard place hash [] m refl)) (λ i p e. absurd (none_got i p e)))

one_known : (logs : List (List (Marked ℕ))) (m : Marked ℕ) → KnownIn logs m → AllKnownIn logs (m ∷ [])
one_known logs m k zero p e = subst (KnownIn logs) (some_is m p e) k
one_known logs m k (suc i) p e = absurd (none_got i p e)

-- where a mark is known its place has it
known_at : (logs : List (List (Marked ℕ))) (m : Marked ℕ) (shard place : ℕ) → id_of m ≡ (shard, place) → KnownIn logs m → slice_get (at logs shard) place ≡ Some m
known_at logs m shard place id k = ap (λ z. slice_get (at logs z.0) z.1) (sym id) ∙ known_stands logs m k

pub known : KnownVectors
known = record {
  leaf = leaf_known seen_logs 5 1 1 5 refl;
  node = known_made seen_logs over_three (stands_at seen_logs over_three 0 0 (id_in 1 0 0 6364136223846793009 (three ∷ []) over_three refl) refl)
      (subst (AllKnownIn seen_logs) (sym (parts_in 1 0 0 6364136223846793009 (three ∷ []) over_three refl)) (one_known seen_logs three (leaf_known seen_logs 3 1 0 3 refl)));
  elsewhere = λ k. some_not over_three_elsewhere (sym (known_at seen_logs over_three_elsewhere 0 1 (id_in 1 0 1 6364136223846793009 (three ∷ []) over_three_elsewhere refl) k));
  no_leaf = λ k. some_not five (sym (known_at fewer_logs five 1 1 (id_in 5 1 1 5 [] five refl) k));
  no_part = λ k. some_not three (sym (known_at fewer_logs three 1 0 (id_in 3 1 0 3 [] three refl)
      (known_in_parts fewer_logs over_three k 0 three (ap (λ z. slice_get z 0) (parts_in 1 0 0 6364136223846793009 (three ∷ []) over_three refl)))));
  tree = plain_with 1 0 0 6364136223846793009 (three ∷ []) ∙ ap (λ z. tree_with 1 (z ∷ [])) (plain_with 3 1 0 3 []);
  id = id_in 1 0 0 6364136223846793009 (three ∷ []) over_three refl;
}

pub newest : NewestVectors
newest = record {
  later = record { within = lit< tt; here = λ p e. (let q : p ≡ 2 = omega arith in ap (λ z. Rattle.std.specs.Prelude.slice_index (7 ∷ 8 ∷ 7 ∷ 8 ∷ 9 ∷ []) z) q); none = λ p l u is. (let q : p ≡ 3 = omega arith in absurd (omega (arith, sym (ap (λ z. Rattle.std.specs.Prelude.slice_index (7 ∷ 8 ∷ 7 ∷ 8 ∷ 9 ∷ []) z) q) ∙ is))) };
  earlier = record { within = omega arith; here = λ p e. (let q : p ≡ 0 = omega arith in ap (λ z. Rattle.std.specs.Prelude.slice_index (7 ∷ 8 ∷ 7 ∷ 8 ∷ 9 ∷ []) z) q); none = λ p l u is. (let q : p ≡ 1 = omega arith in absurd (omega (arith, sym (ap (λ z. Rattle.std.specs.Prelude.slice_index (7 ∷ 8 ∷ 7 ∷ 8 ∷ 9 ∷ []) z) q) ∙ is))) };
  none = record { within = omega arith; here = λ p e. absurd (omega arith); none = none_of_nine };
  not_older = λ n. n.none 2 (omega arith) (omega arith) refl;
  not_another = λ n. (let e : 8 ≡ 7 = n.here 1 refl in absurd (omega (arith, e)));
  not_missed = λ n. n.none 4 (omega arith) (omega arith) refl;
}
  where
    none_of_nine : (p : ℕ) → 0 ≤ p → p < 4 → Rattle.std.specs.Prelude.slice_index (7 ∷ 8 ∷ 7 ∷ 8 ∷ 9 ∷ []) p ≢ 9
    none_of_nine zero l u e = absurd (omega (arith, e))
    none_of_nine (suc zero) l u e = absurd (omega (arith, e))
    none_of_nine (suc (suc zero)) l u e = absurd (omega (arith, e))
    none_of_nine (suc (suc (suc zero))) l u e = absurd (omega (arith, e))
    none_of_nine (suc (suc (suc (suc p)))) l u e = absurd (omega arith)

only_view : (P : View ℕ → ℕ → Type 0) (v : View ℕ) → ((k : ℕ) → P v k) → (j : ℕ) (u : View ℕ) (k : ℕ) → get_elem? (v ∷ []) j ≡ some u → P u k
only_view P v holds zero u k e = subst (λ z. P z k) (some-injective v u e) (holds k)
only_view P v holds (suc j) u k e = absurd (some-ne-none u (sym e))

no_logs : (k : ℕ) → Begins (map (plain {L = ℕ}) (at ([] ∷ []) k)) (log_of empty_core k)
no_logs zero = ([], refl)
no_logs (suc k) = ([], refl)

pub tables : TableVectors
tables = record {
  empty = record {
    run = ([], [], refl);
    sound = (each_run_is_sound itself 1 [] [] empty_core (omega arith) refl).1;
    shards = refl;
    counts = λ k l. (let q : k ≡ 0 = omega arith in rw q refl);
    bodies = λ k l z. (let q : k ≡ 0 = omega arith in ([], rw q refl, rw q refl));
    views = only_view (λ v k. Begins (map plain (at v.logs k)) (log_of empty_core k)) (view ([] ∷ []) [] None []) no_logs;
  };
  count_ahead = λ s. (let e : 1 ≡ 0 = s.counts 0 (omega arith) in absurd (omega (arith, e)));
  count_behind = λ s. (let e : 0 ≡ 1 = s.counts 0 (omega arith) in absurd (omega (arith, e)));
  body_behind = λ s. (let b = s.bodies 0 (omega arith) refl in
      let is : some (some (Some [])) ≡ some (some (Some b.0)) = b.1 in
      let same : Some [] ≡ Some b.0 = some-injective (Some []) (Some b.0) (some-injective (some (Some [])) (some (Some b.0)) is) in
      absurd (omega (arith, ap length (ap (map plain) (some_is [] b.0 same) ∙ b.2))));
  view_ahead = λ s. (let b = s.views 0 (view ((four ∷ []) ∷ []) [] None []) 0 refl in absurd (omega (arith, ap length b.1)));
}
