-- What a run keeps, by induction over the events.
use Rattle.std.proofs.Common.{◌≡◌, ◌≢◌, ℕ, zero, suc, ◌+◌, ◌<◌, ◌≤◌, ◌%◌, List, [], ◌∷◌, ◌++◌, length, Option, Some, None, Ok, Err, sym, refl, ap, ◌∙◌, subst, arith, ◌⊎◌, inl, inr, ⊎_elim, append_assoc, append-nil, get_or-set_same, get_or-set_other, length-set, All, count_by, is_ok}
use Rattle.std.proofs.lemmas.List.Elements.{All-nil, All-cons, All-head, All-tail, All-append}
use Rattle.std.proofs.lemmas.List.Sums.{sum_by-append, count_by-le-length}
use Rattle.std.specs.List.{slice_get, range_with_len}
use Rattle.std.proofs.Common.{cond, ◌==◌}
use Rattle.std.proofs.lemmas.Bool.{eq-eqb, ne_eqb}
use mathlib.Core.Logic.{dite}
use native.Mathlib.Decide.{ℕ_discrete}
use Rattle.ul_core.specs.declared.trees.Tree.{Tree}
use Rattle.ul_core.specs.declared.events.Event.{Event}
use Rattle.ul_core.specs.declared.events.Event.TheVariants.{Publish, Claim}
use Rattle.ul_core.specs.declared.events.EventFault.{EventFault}
use Rattle.ul_core.specs.declared.events.EventFault.TheVariants.{Shard, Known, Part, Full, NoMemory}
use Rattle.ul_core.specs.Hashes.{tree_hash}
use Rattle.ul_core.specs.Core.{Core, first_core, log_of, shard_of, Stands, IsPart}
use Rattle.ul_core.specs.Steps.{Answer, HadMemory, MayPublish, Takes, Refuses, Steps, Runs, RunsAll, after_tree, after_claim, draws, taken_trees}
use Rattle.ul_core.specs.Laws.{Begins, IsSound}

some_is : (a b : ℕ) → Some a ≡ Some b → a ≡ b
some_is a b e = cc

some_not : (a : ℕ) → Some a ≡ None → ⊥
some_not a e = cc

ok_count : (xs ys : List Answer) → count_by is_ok (xs ++ ys) ≡ count_by is_ok xs + count_by is_ok ys
ok_count xs ys = sum_by-append _ xs ys

ok_not : (o : Option ℕ) → (let a : Answer = Ok o in a) ≡ Err NoMemory → ⊥
ok_not o e = cc

err_is : (c d : EventFault) → (let a : Answer = Err c in a) ≡ Err d → c ≡ d
err_is c d e = cc

module _ {L : Type 0} where
  tree_not : (y : Tree L) → None ≡ Some y → ⊥
  tree_not y e = cc

  some_same : (a b : Tree L) → Some a ≡ Some b → a ≡ b
  some_same a b e = cc

  none_got : (i : ℕ) (y : Tree L) → slice_get [] i ≡ Some y → ⊥
  none_got zero y e = tree_not y e
  none_got (suc i) y e = tree_not y e

  got_begins : (xs rest : List (Tree L)) (i : ℕ) (y : Tree L) → slice_get xs i ≡ Some y → slice_get (xs ++ rest) i ≡ Some y
  got_begins [] rest i y e = absurd (none_got i y e)
  got_begins (x ∷ xs) rest zero y e = e
  got_begins (x ∷ xs) rest (suc i) y e = got_begins xs rest i y e

  -- a tree of a list with one tree more at its end
  got_snoc : (xs : List (Tree L)) (x y : Tree L) (i : ℕ) → slice_get (xs ++ x ∷ []) i ≡ Some y → (slice_get xs i ≡ Some y) ⊎ ((i ≡ length xs) × (x ≡ y))
  got_snoc [] x y zero e = inr (refl, some_same x y e)
  got_snoc [] x y (suc i) e = absurd (none_got i y e)
  got_snoc (z ∷ xs) x y zero e = inl e
  got_snoc (z ∷ xs) x y (suc i) e = ⊎_elim (λ p. inl p) (λ q. inr (omega (arith, q.0), q.1)) (got_snoc xs x y i e)

  -- a log of a core with one tree more
  pub log_here : (s : Core L) (k : ℕ) (t : Tree L) → k < length s.logs → log_of (after_tree s k t) k ≡ log_of s k ++ t ∷ []
  log_here s k t l = get_or-set_same s.logs k (log_of s k ++ t ∷ []) [] l

  pub log_else : (s : Core L) (k j : ℕ) (t : Tree L) → j ≢ k → log_of (after_tree s k t) j ≡ log_of s j
  log_else s k j t ne = get_or-set_other s.logs k j (log_of s k ++ t ∷ []) [] ne

  log_begins : (s : Core L) (k j : ℕ) (t : Tree L) → k < length s.logs → Begins (log_of s j) (log_of (after_tree s k t) j)
  log_begins s k j t l = dite (ℕ_discrete j k)
      (λ is. subst (λ z. Begins (log_of s z) (log_of (after_tree s k t) z)) (sym is) (t ∷ [], log_here s k t l))
      (λ no. ([], log_else s k j t no ∙ sym (append-nil (log_of s j))))

  log_got : (s : Core L) (k j i : ℕ) (t y : Tree L) → k < length s.logs → slice_get (log_of (after_tree s k t) j) i ≡ Some y
      → (slice_get (log_of s j) i ≡ Some y) ⊎ ((j ≡ k) × (i ≡ length (log_of s k)) × (t ≡ y))
  log_got s k j i t y l e = dite (ℕ_discrete j k)
      (λ is. ⊎_elim
      (λ p. inl (subst (λ z. slice_get (log_of s z) i ≡ Some y) (sym is) p))
      (λ q. inr (is, q.0, q.1))
      (got_snoc (log_of s k) t y i (subst (λ z. slice_get z i ≡ Some y) (ap (log_of (after_tree s k t)) is ∙ log_here s k t l) e)))
      (λ no. inl (subst (λ z. slice_get z i ≡ Some y) (log_else s k j t no) e))

  begins_got : (xs ys : List (Tree L)) (i : ℕ) (y : Tree L) → Begins xs ys → slice_get xs i ≡ Some y → slice_get ys i ≡ Some y
  begins_got xs ys i y b e = subst (λ z. slice_get z i ≡ Some y) (sym b.1) (got_begins xs b.0 i y e)

  begins_refl : (xs : List (Tree L)) → Begins xs xs
  begins_refl xs = ([], sym (append-nil xs))

  begins_trans : (xs ys zs : List (Tree L)) → Begins xs ys → Begins ys zs → Begins xs zs
  begins_trans xs ys zs a b = (a.0 ++ b.0, b.1 ∙ (ap (λ l. l ++ b.0) a.1 ∙ append_assoc xs a.0 b.0))

  module _ (f : L → ℕ) where
    -- what a step does to the core: nothing, one tree more, or one claim
    abbrev Changed : Core L → Core L → Type 0
    Changed s s' = (s' ≡ s) ⊎ (((k : ℕ) × (t : Tree L) × MayPublish f s k t × (s' ≡ after_tree s k t)) ⊎ (s' ≡ after_claim s))

    changed : (s : Core L) (e : Event L) (a : Answer) (s' : Core L) → Steps f s e a s' → Changed s s'
    changed s e (Err c) s' h = inl h.1
    changed s (Publish k t) (Ok o) s' h = inr (inl (k, t, h.0, h.2))
    changed s Claim (Ok o) s' h = inr (inr h.2)

    pub shard_below : (s : Core L) (t : Tree L) → 0 < length s.logs → shard_of f s t < length s.logs
    shard_below s t l = omega arith

    len_published : (s : Core L) (k : ℕ) (t : Tree L) → length (after_tree s k t).logs ≡ length s.logs
    len_published s k t = length-set s.logs k (log_of s k ++ t ∷ [])

    stands_on : (s : Core L) (k : ℕ) (t p : Tree L) → k < length s.logs → Stands f s p → Stands f (after_tree s k t) p
    stands_on s k t p l h = let same : shard_of f (after_tree s k t) p ≡ shard_of f s p = shard_same s k t p in
        (h.0, subst (λ z. slice_get (log_of (after_tree s k t) z) h.0 ≡ Some p) (sym same) (begins_got _ _ h.0 p (log_begins s k (shard_of f s p) t l) h.1))
      where
        shard_same : (s : Core L) (k : ℕ) (t p : Tree L) → shard_of f (after_tree s k t) p ≡ shard_of f s p
        shard_same s k t p = ap (λ n. tree_hash f p % n) (len_published s k t)

    sound_published : (s : Core L) (k : ℕ) (t : Tree L) → 0 < length s.logs → MayPublish f s k t → IsSound f s → IsSound f (after_tree s k t)
    sound_published s k t some m w =
        let l : k < length s.logs = omega (arith, m.own, shard_below s t some) in
        -- the new tree stands nowhere in the old logs
        let new : (j i : ℕ) (y : Tree L) → slice_get (log_of s j) i ≡ Some y → t ≡ y → ⊥ = λ j i y e is.
        let here : slice_get (log_of s j) i ≡ Some t = e ∙ ap Some (sym is) in
        m.fresh (i, subst (λ z. slice_get (log_of s z) i ≡ Some t) (w.own j t (i, here)) here) in
        record {
          differ = λ j j' i i' y e e'. ⊎_elim
              (λ p. ⊎_elim
              (λ p'. w.differ j j' i i' y p p')
              (λ q'. absurd (new j i y p q'.2))
              (log_got s k j' i' t y l e'))
              (λ q. ⊎_elim
              (λ p'. absurd (new j' i' y p' q.2))
              (λ q'. (q.0 ∙ sym q'.0, q.1 ∙ sym q'.1))
              (log_got s k j' i' t y l e'))
              (log_got s k j i t y l e);
          own = λ j y h. ⊎_elim (λ p. w.own j y (h.0, p)) (λ q. q.0 ∙ (m.own ∙ ap (shard_of f s) q.2)) (log_got s k j h.0 t y l h.1) ∙ sym (ap (λ n. tree_hash f y % n) (len_published s k t));
          parts = λ j y p h part. stands_on s k t p l (⊎_elim
              (λ old. w.parts j y p (h.0, old) part)
              (λ q. m.parts p (subst (IsPart p) (sym q.2) part))
              (log_got s k j h.0 t y l h.1));
        }

    sound_step : (s : Core L) (e : Event L) (a : Answer) (s' : Core L) → 0 < length s.logs → IsSound f s → Steps f s e a s' → (length s'.logs ≡ length s.logs) × IsSound f s'
    sound_step s e a s' some w h = ⊎_elim
        (λ is. subst (λ z. (length z.logs ≡ length s.logs) × IsSound f z) (sym is) (refl, w))
        (λ q. ⊎_elim
        (λ p. subst (λ z. (length z.logs ≡ length s.logs) × IsSound f z) (sym p.3) (len_published s p.0 p.1, sound_published s p.0 p.1 some p.2 w))
        (λ is. subst (λ z. (length z.logs ≡ length s.logs) × IsSound f z) (sym is) (refl, record { differ = w.differ; own = w.own; parts = w.parts }))
        q)
        (changed s e a s' h)

    pub sound_run : (s : Core L) (events : List (Event L)) (answers : List Answer) (s' : Core L) → 0 < length s.logs → IsSound f s → Runs f s events answers s' → (length s'.logs ≡ length s.logs) × IsSound f s'
    sound_run s [] [] s' some w r = subst (λ z. (length z.logs ≡ length s.logs) × IsSound f z) (sym r) (refl, w)
    sound_run s [] (a ∷ answers) s' some w r = absurd r
    sound_run s (e ∷ events) [] s' some w r = absurd r
    sound_run s (e ∷ events) (a ∷ answers) s' some w r =
        let here = sound_step s e a r.0 some w r.1 in
        let there = sound_run r.0 events answers s' (omega (arith, here.0)) here.1 r.2 in
        (there.0 ∙ here.0, there.1)

    empty_log : (n k : ℕ) → log_of {L = L} (first_core n) k ≡ []
    empty_log zero k = refl
    empty_log (suc n) zero = refl
    empty_log (suc n) (suc k) = empty_log n k

    empty_got : (n k i : ℕ) (t : Tree L) → slice_get (log_of {L = L} (first_core n) k) i ≡ Some t → ⊥
    empty_got n k i t e = none_got i t (subst (λ z. slice_get z i ≡ Some t) (empty_log n k) e)

    length_replicate : (n : ℕ) → length (first_core {L = L} n).logs ≡ n
    length_replicate zero = refl
    length_replicate (suc n) = omega (arith, length_replicate n)

    pub each_run_is_sound : (shards : ℕ) (events : List (Event L)) (answers : List Answer) (s : Core L) → 1 ≤ shards → Runs f (first_core shards) events answers s → (length s.logs ≡ shards) × IsSound f s
    each_run_is_sound shards events answers s some r =
        let begin : IsSound f (first_core shards) = record {
          differ = λ j k i m t e e'. absurd (empty_got shards j i t e);
          own = λ k t h. absurd (empty_got shards k h.0 t h.1);
          parts = λ k t p h part. absurd (empty_got shards k h.0 t h.1);
        } in
        let all = sound_run (first_core shards) events answers s (omega (arith, length_replicate shards)) begin r in
        (all.0 ∙ length_replicate shards, all.1)

    step_begins : (s : Core L) (e : Event L) (a : Answer) (s' : Core L) → 0 < length s.logs → Steps f s e a s' → (0 < length s'.logs) × ((k : ℕ) → Begins (log_of s k) (log_of s' k))
    step_begins s e a s' some h = ⊎_elim
        (λ is. subst (λ z. (0 < length z.logs) × ((k : ℕ) → Begins (log_of s k) (log_of z k))) (sym is) (some, λ k. begins_refl (log_of s k)))
        (λ q. ⊎_elim
        (λ p. subst (λ z. (0 < length z.logs) × ((k : ℕ) → Begins (log_of s k) (log_of z k))) (sym p.3)
        (omega (arith, len_published s p.0 p.1), λ k. log_begins s p.0 k p.1 (omega (arith, p.2.own, shard_below s p.1 some))))
        (λ is. subst (λ z. (0 < length z.logs) × ((k : ℕ) → Begins (log_of s k) (log_of z k))) (sym is) (some, λ k. begins_refl (log_of s k)))
        q)
        (changed s e a s' h)

    run_begins : (s : Core L) (events : List (Event L)) (answers : List Answer) (s' : Core L) → 0 < length s.logs → Runs f s events answers s' → (k : ℕ) → Begins (log_of s k) (log_of s' k)
    run_begins s [] [] s' some r k = subst (λ z. Begins (log_of s k) (log_of z k)) (sym r) (begins_refl (log_of s k))
    run_begins s [] (a ∷ answers) s' some r k = absurd r
    run_begins s (e ∷ events) [] s' some r k = absurd r
    run_begins s (e ∷ events) (a ∷ answers) s' some r k =
        let here = step_begins s e a r.0 some r.1 in
        begins_trans _ _ _ (here.1 k) (run_begins r.0 events answers s' here.0 r.2 k)

    pub each_tree_stays : (s s' : Core L) (events : List (Event L)) (answers : List Answer) → 1 ≤ length s.logs → Runs f s events answers s'
        → (k : ℕ) → Begins (log_of s k) (log_of s' k) × ((i : ℕ) (t : Tree L) → slice_get (log_of s k) i ≡ Some t → slice_get (log_of s' k) i ≡ Some t)
    each_tree_stays s s' events answers some r k = let b = run_begins s events answers s' (omega arith) r k in (b, λ i t e. begins_got _ _ i t b e)

    -- the log of a shard after one tree was taken
    log_taken : (s : Core L) (shard k : ℕ) (t : Tree L) → shard < length s.logs → log_of (after_tree s shard t) k ≡ log_of s k ++ cond (shard == k) (t ∷ []) []
    log_taken s shard k t l = dite (ℕ_discrete k shard)
        (λ is. subst (λ z. log_of (after_tree s shard t) z ≡ log_of s z ++ cond (shard == z) (t ∷ []) []) (sym is) (log_here s shard t l ∙ ap (λ b. log_of s shard ++ cond b (t ∷ []) []) (sym (eq-eqb shard shard refl))))
        (λ no. log_else s shard k t no ∙ (sym (append-nil (log_of s k)) ∙ ap (λ b. log_of s k ++ cond b (t ∷ []) []) (sym (ne_eqb shard k (λ e. no (sym e))))))

    pub each_log_is_what_was_taken : (s s' : Core L) (events : List (Event L)) (answers : List Answer) → 1 ≤ length s.logs → Runs f s events answers s' → (k : ℕ) → log_of s' k ≡ log_of s k ++ taken_trees k events answers
    each_log_is_what_was_taken s s' [] [] some r k = ap (λ z. log_of z k) r ∙ sym (append-nil (log_of s k))
    each_log_is_what_was_taken s s' [] (a ∷ answers) some r k = absurd r
    each_log_is_what_was_taken s s' (e ∷ events) [] some r k = absurd r
    each_log_is_what_was_taken s s' (Publish shard t ∷ events) (Ok o ∷ answers) some r k =
        let m = r.1.0 in
        let long = step_begins s (Publish shard t) (Ok o) r.0 (omega arith) r.1 in
        let rest = each_log_is_what_was_taken r.0 s' events answers (omega (arith, long.0)) r.2 k in
        let here = ap (λ z. log_of z k) r.1.2 ∙ log_taken s shard k t (omega (arith, m.own, shard_below s t (omega arith))) in
        rest ∙ (ap (λ z. z ++ taken_trees k events answers) here ∙ append_assoc (log_of s k) _ _)
    each_log_is_what_was_taken s s' (Publish shard t ∷ events) (Err c ∷ answers) some r k =
        each_log_is_what_was_taken r.0 s' events answers (subst (λ z. 1 ≤ length z.logs) (sym r.1.1) some) r.2 k ∙ ap (λ z. log_of z k ++ taken_trees k events answers) r.1.1
    each_log_is_what_was_taken s s' (Claim ∷ events) (Ok o ∷ answers) some r k =
        each_log_is_what_was_taken r.0 s' events answers (subst (λ z. 1 ≤ length z.logs) (sym r.1.2) some) r.2 k ∙ ap (λ z. log_of z k ++ taken_trees k events answers) r.1.2
    each_log_is_what_was_taken s s' (Claim ∷ events) (Err c ∷ answers) some r k =
        each_log_is_what_was_taken r.0 s' events answers (subst (λ z. 1 ≤ length z.logs) (sym r.1.1) some) r.2 k ∙ ap (λ z. log_of z k ++ taken_trees k events answers) r.1.1

    -- the draws of a run from any core
    drawn : (s : Core L) (events : List (Event L)) (answers : List Answer) (s' : Core L) → Runs f s events answers s' → (n : ℕ) × (s'.claims ≡ s.claims + n) × (draws answers ≡ range_with_len s.claims n)
    drawn s [] [] s' r = (0, omega (arith, ap (λ z. z.claims) r), refl)
    drawn s [] (a ∷ answers) s' r = absurd r
    drawn s (e ∷ events) [] s' r = absurd r
    drawn s (e ∷ events) (Err c ∷ answers) s' r =
        let d = drawn r.0 events answers s' r.2 in let same = ap (λ z. z.claims) r.1.1 in
        (d.0, omega (arith, d.1, same), d.2 ∙ ap (λ c. range_with_len c d.0) same)
    drawn s (Publish k t ∷ events) (Ok None ∷ answers) s' r =
        let d = drawn r.0 events answers s' r.2 in let same = ap (λ z. z.claims) r.1.2 in
        (d.0, omega (arith, d.1, same), d.2 ∙ ap (λ c. range_with_len c d.0) same)
    drawn s (Publish k t ∷ events) (Ok (Some n) ∷ answers) s' r = absurd (some_not n r.1.1)
    drawn s (Claim ∷ events) (Ok None ∷ answers) s' r = absurd (some_not s.claims (sym r.1.1))
    drawn s (Claim ∷ events) (Ok (Some n) ∷ answers) s' r =
        let d = drawn r.0 events answers s' r.2 in let more = ap (λ z. z.claims) r.1.2 in
        (suc d.0, omega (arith, d.1, more), (λ i. some_is n s.claims r.1.1 i ∷ (d.2 ∙ ap (λ c. range_with_len c d.0) more) i))

    pub each_number_is_drawn_once : (shards : ℕ) (events : List (Event L)) (answers : List Answer) (s : Core L) → Runs f (first_core shards) events answers s → draws answers ≡ range_with_len 0 s.claims
    each_number_is_drawn_once shards events answers s r = let d = drawn (first_core shards) events answers s r in d.2 ∙ ap (range_with_len 0) (omega (arith, d.1))

    -- two causes of one refusal are one
    one_cause : (s : Core L) (e : Event L) (c d : EventFault) → Refuses f s e c → Refuses f s e d → c ≢ NoMemory → d ≢ NoMemory → c ≡ d
    one_cause s (Publish k t) Shard Shard p q m n = refl
    one_cause s (Publish k t) Shard Known p q m n = absurd (p q.0)
    one_cause s (Publish k t) Shard Part p q m n = absurd (p q.0)
    one_cause s (Publish k t) Known Shard p q m n = absurd (q p.0)
    one_cause s (Publish k t) Known Known p q m n = refl
    one_cause s (Publish k t) Known Part p q m n = absurd (q.1 p.1)
    one_cause s (Publish k t) Part Shard p q m n = absurd (q p.0)
    one_cause s (Publish k t) Part Known p q m n = absurd (p.1 q.1)
    one_cause s (Publish k t) Part Part p q m n = refl
    one_cause s (Publish k t) Full d p q m n = absurd p
    one_cause s (Publish k t) NoMemory d p q m n = absurd (m refl)
    one_cause s (Publish k t) Shard Full p q m n = absurd q
    one_cause s (Publish k t) Known Full p q m n = absurd q
    one_cause s (Publish k t) Part Full p q m n = absurd q
    one_cause s (Publish k t) Shard NoMemory p q m n = absurd (n refl)
    one_cause s (Publish k t) Known NoMemory p q m n = absurd (n refl)
    one_cause s (Publish k t) Part NoMemory p q m n = absurd (n refl)
    one_cause s Claim Full Full p q m n = refl
    one_cause s Claim Full Shard p q m n = absurd q
    one_cause s Claim Full Known p q m n = absurd q
    one_cause s Claim Full Part p q m n = absurd q
    one_cause s Claim Full NoMemory p q m n = absurd q
    one_cause s Claim Shard d p q m n = absurd p
    one_cause s Claim Known d p q m n = absurd p
    one_cause s Claim Part d p q m n = absurd p
    one_cause s Claim NoMemory d p q m n = absurd p

    -- an event that is taken has no cause but want of memory
    taken_or_refused : (s : Core L) (e : Event L) (o : Option ℕ) (c : EventFault) (s' : Core L) → Takes f s e o s' → Refuses f s e c → c ≢ NoMemory → ⊥
    taken_or_refused s (Publish k t) o Shard s' p q n = q p.0.own
    taken_or_refused s (Publish k t) o Known s' p q n = p.0.fresh q.1
    taken_or_refused s (Publish k t) o Part s' p q n = q.2.2 (p.0.parts q.2.0 q.2.1)
    taken_or_refused s (Publish k t) o Full s' p q n = q
    taken_or_refused s (Publish k t) o NoMemory s' p q n = n refl
    taken_or_refused s Claim o Full s' p q n = omega (arith, p.0, q)
    taken_or_refused s Claim o Shard s' p q n = q
    taken_or_refused s Claim o Known s' p q n = q
    taken_or_refused s Claim o Part s' p q n = q
    taken_or_refused s Claim o NoMemory s' p q n = q

    one_taking : (s : Core L) (e : Event L) (o p : Option ℕ) (s₁ s₂ : Core L) → Takes f s e o s₁ → Takes f s e p s₂ → (o ≡ p) × (s₁ ≡ s₂)
    one_taking s (Publish k t) o p s₁ s₂ g h = (g.1 ∙ sym h.1, g.2 ∙ sym h.2)
    one_taking s Claim o p s₁ s₂ g h = (g.1 ∙ sym h.1, g.2 ∙ sym h.2)

    one_step : (s : Core L) (e : Event L) (a b : Answer) (s₁ s₂ : Core L) → a ≢ Err NoMemory → b ≢ Err NoMemory → Steps f s e a s₁ → Steps f s e b s₂ → (a ≡ b) × (s₁ ≡ s₂)
    one_step s e (Ok o) (Ok p) s₁ s₂ m n g h = let q = one_taking s e o p s₁ s₂ g h in (ap (λ z. Ok z) q.0, q.1)
    one_step s e (Ok o) (Err d) s₁ s₂ m n g h = absurd (taken_or_refused s e o d s₁ g h.0 (λ is. n (ap (λ z. Err z) is)))
    one_step s e (Err c) (Ok p) s₁ s₂ m n g h = absurd (taken_or_refused s e p c s₂ h g.0 (λ is. m (ap (λ z. Err z) is)))
    one_step s e (Err c) (Err d) s₁ s₂ m n g h = (ap (λ z. Err z) (one_cause s e c d g.0 h.0 (λ is. m (ap (λ z. Err z) is)) (λ is. n (ap (λ z. Err z) is))), g.1 ∙ sym h.1)

    one_run : (events : List (Event L)) (az bs : List Answer) (s s₁ s₂ : Core L) → All HadMemory az → All HadMemory bs → Runs f s events az s₁ → Runs f s events bs s₂ → (az ≡ bs) × (s₁ ≡ s₂)
    one_run [] [] [] s s₁ s₂ m n g h = (refl, g ∙ sym h)
    one_run [] [] (b ∷ bs) s s₁ s₂ m n g h = absurd h
    one_run [] (a ∷ az) bs s s₁ s₂ m n g h = absurd g
    one_run (e ∷ events) [] bs s s₁ s₂ m n g h = absurd g
    one_run (e ∷ events) (a ∷ az) [] s s₁ s₂ m n g h = absurd h
    one_run (e ∷ events) (a ∷ az) (b ∷ bs) s s₁ s₂ m n g h =
        let here = one_step s e a b g.0 h.0 (All-head HadMemory a az m) (All-head HadMemory b bs n) g.1 h.1 in
        let there = one_run events az bs h.0 s₁ s₂ (All-tail HadMemory a az m) (All-tail HadMemory b bs n) (subst (λ z. Runs f z events az s₁) here.1 g.2) h.2 in
        ((λ i. here.0 i ∷ there.0 i), there.1)

    pub each_run_has_one_end : (s s₁ s₂ : Core L) (events : List (Event L)) (m n : ℕ) → RunsAll f s events m s₁ → RunsAll f s events n s₂ → (m ≡ n) × (s₁ ≡ s₂)
    each_run_has_one_end s s₁ s₂ events m n g h =
        let e = one_run events g.answers h.answers s s₁ s₂ g.memory h.memory g.run h.run in
        (g.count ∙ (ap (count_by is_ok) e.0 ∙ sym h.count), e.1)

    -- a run with one event more at its end
    pub run_more : (s : Core L) (events : List (Event L)) (answers : List Answer) (s' : Core L) (e : Event L) (a : Answer) (s'' : Core L) → Runs f s events answers s' → Steps f s' e a s'' → Runs f s (events ++ e ∷ []) (answers ++ a ∷ []) s''
    run_more s [] [] s' e a s'' r h = (s'', subst (λ z. Steps f z e a s'') r h, refl)
    run_more s [] (b ∷ answers) s' e a s'' r h = absurd r
    run_more s (d ∷ events) [] s' e a s'' r h = absurd r
    run_more s (d ∷ events) (b ∷ answers) s' e a s'' r h = (r.0, r.1, run_more r.0 events answers s' e a s'' r.2 h)

    length_run : (s : Core L) (events : List (Event L)) (answers : List Answer) (s' : Core L) → Runs f s events answers s' → length answers ≡ length events
    length_run s [] [] s' r = refl
    length_run s [] (a ∷ answers) s' r = absurd r
    length_run s (e ∷ events) [] s' r = absurd r
    length_run s (e ∷ events) (a ∷ answers) s' r = omega (arith, length_run r.0 events answers s' r.2)

    pub taken_bound : (s : Core L) (events : List (Event L)) (taken : ℕ) (s' : Core L) → RunsAll f s events taken s' → taken ≤ length events
    taken_bound s events taken s' r = omega (arith, r.count, count_by-le-length is_ok r.answers, length_run s events r.answers s' r.run)

    pub runs_none : (s : Core L) → RunsAll f s [] 0 s
    runs_none s = record { answers = []; run = refl; memory = All-nil HadMemory; count = refl }

    pub runs_taken : (s : Core L) (events : List (Event L)) (taken : ℕ) (s' : Core L) (e : Event L) (o : Option ℕ) (s'' : Core L) → RunsAll f s events taken s' → Takes f s' e o s'' → RunsAll f s (events ++ e ∷ []) (taken + 1) s''
    runs_taken s events taken s' e o s'' r h = record {
      answers = r.answers ++ Ok o ∷ [];
      run = run_more s events r.answers s' e (Ok o) s'' r.run h;
      memory = All-append HadMemory r.answers _ r.memory (All-cons HadMemory _ [] (λ is. ok_not o is) (All-nil HadMemory));
      count = omega (arith, r.count, ok_count r.answers (Ok o ∷ []));
    }

    pub runs_refused : (s : Core L) (events : List (Event L)) (taken : ℕ) (s' : Core L) (e : Event L) (c : EventFault) (s'' : Core L) → RunsAll f s events taken s' → Refuses f s' e c → c ≢ NoMemory → s'' ≡ s' → RunsAll f s (events ++ e ∷ []) taken s''
    runs_refused s events taken s' e c s'' r h n is = record {
      answers = r.answers ++ Err c ∷ [];
      run = run_more s events r.answers s' e (Err c) s'' r.run (h, is);
      memory = All-append HadMemory r.answers _ r.memory (All-cons HadMemory _ [] (λ e. n (err_is c NoMemory e)) (All-nil HadMemory));
      count = omega (arith, r.count, ok_count r.answers (Err c ∷ []));
    }
