-- Each step keeps the rule of the interner's table, for any number of shards.
use Rattle.std.proofs.Common.{◌≡◌, ◌≢◌, ℕ, zero, suc, ◌+◌, ◌<◌, ◌≤◌, ◌==◌, Bool, cond, true, false, List, [], ◌∷◌, ◌++◌, length, map, replicate, set, slice_index, get_or, Some, None, sym, refl, ap, ◌∙◌, subst, ⊎_elim, arith, get_or-set_same, get_or-set_other, length-set}
use Rattle.std.proofs.lemmas.List.{length-replicate, set-get_or, length-append}
use Rattle.std.proofs.lemmas.Bool.{ltb-true, ltb-false, le-ltb}
use Rattle.std.proofs.Math.Dec.{ltb}
use mathlib.Core.Logic.{dite}
use mathlib.Core.Option.{none, some, some-ne-none, some-injective}
use native.Mathlib.Decide.{ℕ_discrete, dec_lt}
use lib.ListN.{get_elem?}
use prog.Atomic.{either}
use Rattle.atomic_table.specs.Table.{State, Me, Act, Valid, carried_after, step, keeps, takes, gives, stepped, opening, Allows, Splits, Joins}
use Rattle.atomic_table.proofs.Lists.{at_set, at_snoc, at_longer, set_again, set_here, set_else, exchanged}
use Rattle.std.proofs.Common.{◌%◌}
use Rattle.std.specs.List.{slice_get}
use Rattle.ul_core.specs.Trees.{Has, parts_of}
use Rattle.ul_interner.specs.declared.views.View.{View}
use Rattle.ul_interner.specs.Marked.{Marked, plain, id_of, stored_hash, hash_at}
use Rattle.ul_interner.specs.Logs.{at, Begins, AllBegin, core_of, StandsIn, AreLogs, AreSeen}
use Rattle.ul_core.specs.declared.events.Event.TheVariants.{Publish}
use Rattle.ul_core.specs.Steps.{Takes}
use Rattle.ul_interner.specs.Laws.{MayStore, grown_view}
use Rattle.ul_interner.specs.Rule.{Body, view, Fits, HasLogs, Kept, TakesTurn, Looks, IsPublish, Grows, Gives, longer, merged_logs, Settles}
use Rattle.ul_interner.proofs.Lists.{some_is, some_not, heads, tails, begins_refl, begins_more, begins_nothing, shorter, at_past, at_empty, at_map, length_map, knows_refl, knows_trans, knows_nothing, knows_set, set_knows}
use Rattle.ul_interner.proofs.Seen.{stands_on, MayGrow, logs_grown, takes_grown, logs_begin}

there : {A : Type 0} (l : List A) (i : ℕ) (a : A) → get_elem? l i ≡ some a → i < length l
there [] i a e = absurd (some-ne-none a (sym e))
there (x ∷ xs) zero a e = omega arith
there (x ∷ xs) (suc i) a e = omega (arith, there xs i a e)

same_at : {A : Type 0} (d : A) (m k : ℕ) → get_or (replicate m d) k d ≡ d
same_at d zero k = refl
same_at d (suc m) zero = refl
same_at d (suc m) (suc k) = same_at d m k

module _ {L : Type 0} where
  -- at most one view holds a turn
  abbrev One : List (View L) → Type 0
  One vs = (i j k : ℕ) (v w : View L) → get_elem? vs i ≡ some v → get_elem? vs j ≡ some w → v.holds ≡ Some k → w.holds ≡ Some k → i ≡ j

  first : (j : ℕ) (u v : View L) → get_elem? (v ∷ []) j ≡ some u → (j ≡ 0) × (v ≡ u)
  first zero u v e = (refl, some-injective v u e)
  first (suc j) u v e = absurd (some-ne-none u (sym e))

  one_set : (vs : List (View L)) (id : ℕ) (w : View L) → One vs → ((k j : ℕ) (u : View L) → w.holds ≡ Some k → j ≢ id → get_elem? vs j ≡ some u → u.holds ≢ Some k) → One (set vs id w)
  one_set vs id w one fresh i j k a b ai bj ha hb = ⊎_elim
      (λ (t : (i ≡ id) × (w ≡ a)). ⊎_elim
      (λ (z : (j ≡ id) × (w ≡ b)). t.0 ∙ sym z.0)
      (λ (z : (j ≢ id) × (get_elem? vs j ≡ some b)). absurd (fresh k j b (ap (λ (y : View L). y.holds) t.1 ∙ ha) z.0 z.1 hb))
      (at_set vs id j w b bj))
      (λ (t : (i ≢ id) × (get_elem? vs i ≡ some a)). ⊎_elim
      (λ (z : (j ≡ id) × (w ≡ b)). absurd (fresh k i a (ap (λ (y : View L). y.holds) z.1 ∙ hb) t.0 t.1 ha))
      (λ (z : (j ≢ id) × (get_elem? vs j ≡ some b)). one i j k a b t.1 z.1 ha hb)
      (at_set vs id j w b bj))
      (at_set vs id i w a ai)

  fits_set : (n : ℕ) (logs : List (List (Marked L))) (ws : List ℕ) (F : View L → Type 0) (vs : List (View L)) (id : ℕ) (w : View L)
      → F w → ((j : ℕ) (u : View L) → j ≢ id → get_elem? vs j ≡ some u → Fits n logs ws u → F u)
      → ((j : ℕ) (u : View L) → get_elem? vs j ≡ some u → Fits n logs ws u) → (j : ℕ) (u : View L) → get_elem? (set vs id w) j ≡ some u → F u
  fits_set n logs ws F vs id w mine others all j u e = ⊎_elim (λ (t : (j ≡ id) × (w ≡ u)). subst F t.1 mine) (λ (t : (j ≢ id) × (get_elem? vs j ≡ some u)). others j u t.0 t.1 (all j u t.1)) (at_set vs id j w u e)

  -- what another seat holds, it holds still
  still : (vs : List (View L)) (id k : ℕ) (w : View L) (j : ℕ) (u : View L) → get_elem? vs j ≡ some u → u.holds ≡ Some k → (j ≡ id → w.holds ≡ Some k) → (i : ℕ) × (a : View L) × (get_elem? (set vs id w) i ≡ some a) × (a.holds ≡ Some k)
  still vs id k w j u e h mine = dite (ℕ_discrete j id)
      (λ is. (id, w, set_here vs id w (subst (λ z. z < length vs) is (there vs j u e)), mine is))
      (λ no. (j, u, set_else vs id j w no ∙ e, h))

  -- the view of a seat is one
  held : (vs : List (View L)) (id j : ℕ) (v u : View L) → get_elem? vs id ≡ some v → get_elem? vs j ≡ some u → j ≡ id → v.holds ≡ u.holds
  held vs id j v u here e is = ap (λ (y : View L). y.holds) (some-injective v u (sym here ∙ (ap (get_elem? vs) (sym is) ∙ e)))

  pub length-merged : (xs ys : List (List (Marked L))) → length (merged_logs xs ys) ≡ length xs
  length-merged [] ys = refl
  length-merged (x ∷ xs) [] = refl
  length-merged (x ∷ xs) (y ∷ ys) = ap suc (length-merged xs ys)

  longer_of : (xs ys zs : List (Marked L)) → Begins xs zs → Begins ys zs → (c : Bool) → ltb (length xs) (length ys) ≡ c → Begins xs (cond c ys xs) × Begins ys (cond c ys xs) × Begins (cond c ys xs) zs
  longer_of xs ys zs a b true e = let l = ltb-true (length xs) (length ys) e in (shorter xs ys zs a b (omega arith), begins_refl ys, b)
  longer_of xs ys zs a b false e = let l = ltb-false (length xs) (length ys) e in (begins_refl xs, shorter ys xs zs b a (omega arith), a)

  none_longer : (x : List (Marked L)) → longer x [] ≡ x
  none_longer x = ap (λ z. cond z [] x) (le-ltb (length x) 0 (omega arith))

  at_merged : (xs ys : List (List (Marked L))) (k : ℕ) → k < length xs → at (merged_logs xs ys) k ≡ longer (at xs k) (at ys k)
  at_merged [] ys k l = absurd (omega arith)
  at_merged (x ∷ xs) [] zero l = sym (none_longer x)
  at_merged (x ∷ xs) [] (suc k) l = sym (none_longer (at xs k))
  at_merged (x ∷ xs) (y ∷ ys) zero l = refl
  at_merged (x ∷ xs) (y ∷ ys) (suc k) l = at_merged xs ys k (omega arith)

  merges : (xs ys zs : List (List (Marked L))) → AllBegin xs zs → AllBegin ys zs → AllBegin xs (merged_logs xs ys) × (length ys ≤ length xs → AllBegin ys (merged_logs xs ys)) × AllBegin (merged_logs xs ys) zs
  merges xs ys zs a b =
      let each : (k : ℕ) → k < length xs → Begins (at xs k) (at (merged_logs xs ys) k) × Begins (at ys k) (at (merged_logs xs ys) k) × Begins (at (merged_logs xs ys) k) (at zs k) = λ k l.
      subst (λ z. Begins (at xs k) z × Begins (at ys k) z × Begins z (at zs k)) (sym (at_merged xs ys k l))
      (longer_of (at xs k) (at ys k) (at zs k) (a k) (b k) (ltb (length (at xs k)) (length (at ys k))) refl) in (
        (λ k. dite (dec_lt k (length xs)) (λ l. (each k l).0) (λ no. begins_nothing (at xs k) (at (merged_logs xs ys) k) (at_past xs k (omega (arith, no))))),
        (λ short k. dite (dec_lt k (length xs)) (λ l. (each k l).1) (λ no. begins_nothing (at ys k) (at (merged_logs xs ys) k) (at_past ys k (omega (arith, no, short))))),
        (λ k. dite (dec_lt k (length xs)) (λ l. (each k l).2) (λ no. begins_nothing (at (merged_logs xs ys) k) (at zs k) (at_past (merged_logs xs ys) k (omega (arith, no, length-merged xs ys))))),
      )

  module _ (f : L → ℕ) (n : ℕ) where
    -- a step that changes no word and no log, and gives the seat a view that holds what it held
    pub unmoved : (s : State (Body L) (View L)) (logs : List (List (Marked L))) (r : HasLogs f n logs s) (id i : ℕ) (cs : List (ℕ × Body L)) (v w : View L) → get_elem? s.views id ≡ some v → w.holds ≡ v.holds → Fits n logs s.words w → HasLogs f n logs (stepped s i (slice_index s.words i) id cs w keeps)
    unmoved s logs r id i cs v w here same fit = subst (λ (ws : List ℕ). HasLogs f n logs record { words = ws; homes = s.homes; views = set s.views id w }) (sym (set-get_or s.words i 0)) record {
      are = r.are;
      wide = r.wide;
      bit = r.bit;
      count = r.count;
      home = r.home;
      fits = fits_set n logs s.words (Fits n logs s.words) s.views id w fit (λ j u no e f. f) r.fits;
      one = one_set s.views id w r.one (λ k j u h no e g. no (r.one j id k u v e here g (sym same ∙ h)));
      someone = λ k l h. let t = r.someone k l h in still s.views id k w t.0 t.1 t.2 t.3 (λ is. same ∙ (held s.views id t.0 v t.1 here t.2 is ∙ t.3));
    }

    pub looks : (slots id k : ℕ) (me : Me (Body L) (View L)) → slots ≡ n → me.0.holds ≡ Some k → k < length me.0.logs → Allows (Kept f n) slots id me (n + k) (λ x. x) (Looks f (step slots (n + k) 0 0 none) me)
    looks slots id k me all holds long s r _ here small =
        let v : View L = me.0 in
        let fit = r.1.fits id v here in
        let t = fit.turn k holds in
        let w : View L = view (set v.logs k v.hand) v.told v.holds v.hand in
        let whole : Begins v.hand (at r.0 k) = subst (λ z. Begins z (at r.0 k)) (sym t.2) (begins_refl (at r.0 k)) in
        let seen : AllBegin (set v.logs k v.hand) r.0 = set_knows v.logs r.0 k v.hand long whole fit.seen in (
          w,
          keeps,
          tt,
          (r.0, unmoved s r.0 r.1 id (n + k) me.1 v w here refl record { seen = seen; told = fit.told; turn = fit.turn }),
          λ k' h'. let same = some_is k k' (sym holds ∙ h') in (
            r.1.count k t.0 ∙ ap length (sym t.2),
            ap (λ z. (view (set v.logs z v.hand) v.told v.holds v.hand, me.1)) same,
            subst (λ z. Begins (at v.logs z) v.hand) same (subst (Begins (at v.logs k)) (sym t.2) (fit.seen k)),
            subst (λ z. AreSeen f z (set v.logs k v.hand)) (sym all) record { all = r.0; are = r.1.are; begins = seen },
          ),
        )

    -- taking the turn of the shard k
    pub won : (s : State (Body L) (View L)) (logs : List (List (Marked L))) (r : HasLogs f n logs s) (id k : ℕ) (cs : List (ℕ × Body L)) (v : View L) → get_elem? s.views id ≡ some v → v.holds ≡ None → k < n → slice_index s.words k ≡ 0
        → (b : List (Marked L)) → b ≡ at logs k → HasLogs f n logs (stepped s k 1 id cs (view v.logs v.told (Some k) b) (takes k (Some b)))
    won s logs r id k cs v here idle l zero_now b items =
        let w : View L = view v.logs v.told (Some k) b in
        let ws : List ℕ = set s.words k 1 in
        let inside : k < length s.words = omega (arith, r.wide) in
        let now : slice_index ws k ≡ 1 = get_or-set_same s.words k 1 0 inside in
        let other : (j : ℕ) → j ≢ k → slice_index ws j ≡ slice_index s.words j = λ j no. get_or-set_other s.words k j 1 0 no in
        let fit = r.fits id v here in record {
          are = r.are;
          wide = length-set s.words k 1 ∙ r.wide;
          bit = λ j lj. dite (ℕ_discrete j k) (λ is. omega (arith, ap (slice_index ws) is, now)) (λ no. omega (arith, other j no, r.bit j lj));
          count = λ j lj. other (n + j) (λ e. omega arith) ∙ r.count j lj;
          home = λ j lj z. dite (ℕ_discrete j k) (λ is. absurd (omega (arith, ap (slice_index ws) is, now, z)))
              (λ no. set_else s.homes k j none no ∙ r.home j lj (sym (other j no) ∙ z));
          fits = fits_set n logs s.words (Fits n logs ws) s.views id w
              record { seen = fit.seen; told = fit.told; turn = λ j h. let is = some_is k j h in subst (λ z. (z < n) × (slice_index ws z ≡ 1) × (b ≡ at logs z)) is (l, now, items) }
              (λ j u no e g. record {
                seen = g.seen;
                told = g.told;
                turn = λ i h. let t = g.turn i h in (t.0, other i (λ (is : i ≡ k). omega (arith, ap (slice_index s.words) is, t.1, zero_now)) ∙ t.1, t.2);
              }) r.fits;
          one = one_set s.views id w r.one (λ i j u h no e g. let is = some_is k i h in let t = (r.fits j u e).turn i g in omega (arith, ap (slice_index s.words) is, t.1, zero_now));
          someone = λ j lj z. dite (ℕ_discrete j k)
              (λ is. (id, w, set_here s.views id w (there s.views id v here), ap Some (sym is)))
              (λ no. let t = r.someone j lj (sym (other j no) ∙ z) in still s.views id j w t.0 t.1 t.2 t.3
              (λ is. absurd (some_not j (sym t.3 ∙ (sym (held s.views id t.0 v t.1 here t.2 is) ∙ idle)))));
        }

    pub tries : (slots id k : ℕ) (me : Me (Body L) (View L)) → me.0.holds ≡ None → k < n → Allows (Kept f n) slots id me k (λ x. either (x == 0) 1 x) (TakesTurn (step slots k 0 1 none) me)
    tries slots id k me idle l s r len here small = exchanged (slice_index s.words k) 0 1
        (λ x. (w : View L) × (a : Act (Body L)) × Valid s.homes me.1 a × Kept f n (stepped s k x id me.1 w a) × TakesTurn (step slots k 0 1 none) me (slice_index s.words k) (w, carried_after me.1 a))
        (λ hit. (view me.0.logs me.0.told (Some k) (at r.0 k), takes k (Some (at r.0 k)), r.1.home k l hit, (r.0, won s r.0 r.1 id k me.1 me.0 here idle l hit (at r.0 k) refl), ((λ z. (at r.0 k, refl)), λ no. absurd (no hit))))
        (λ miss. (me.0, keeps, tt, (r.0, unmoved s r.0 r.1 id k me.1 me.0 me.0 here refl (r.1.fits id me.0 here)), ((λ z. absurd (miss z)), λ no. refl)))

    -- one mark more is published, while the body is out of its slot
    pub kept_by_store : (s : State (Body L) (View L)) (old : List (List (Marked L))) (r : HasLogs f n old s) (id k : ℕ) (v : View L) (x : Marked L) (cs : List (ℕ × Body L)) (c : ℕ) → c ≡ length v.hand + 1 → MayStore f n s id k v x
        → (new : List (List (Marked L))) × HasLogs f n new (stepped s (n + k) c id cs (grown_view v k x) keeps) × Takes f (core_of old) (Publish k (plain x)) None (core_of new) × AllBegin (set v.logs k (v.hand ++ x ∷ [])) new × (at new k ≡ v.hand ++ x ∷ [])
    kept_by_store s old r id k v x cs c is_c store =
        let here = store.here in
        let fit = r.fits id v here in
        let t = fit.turn k store.holds in
        let may : MayGrow f n old k x = record {
          below = t.0;
          own = store.own;
          hash = store.hash_is;
          id = store.id_is ∙ ap (λ z. (k, length z)) t.2;
          fresh = λ i m e. store.fresh i m (ap (λ z. slice_get z i) t.2 ∙ e);
          parts = λ p h. stands_on v.logs old p fit.seen (store.parts p h);
        } in
        let grew : List (Marked L) = v.hand ++ x ∷ [] in
        let w : View L = grown_view v k x in
        let ws : List ℕ = set s.words (n + k) c in
        let inside : n + k < length s.words = omega (arith, r.wide, t.0) in
        let now : slice_index ws (n + k) ≡ c = get_or-set_same s.words (n + k) c 0 inside in
        let other : (j : ℕ) → j ≢ n + k → slice_index ws j ≡ slice_index s.words j = λ j no. get_or-set_other s.words (n + k) j c 0 no in
        let logs : List (List (Marked L)) = set old k (at old k ++ x ∷ []) in
        let in_logs : k < length old = omega (arith, r.are.wide, t.0) in
        let are : AreLogs f n logs = logs_grown f n old k x r.are may in
        let at_k : at logs k ≡ grew = get_or-set_same old k (at old k ++ x ∷ []) [] in_logs ∙ ap (λ z. z ++ x ∷ []) (sym t.2) in
        let at_other : (j : ℕ) → j ≢ k → at logs j ≡ at old j = λ j no. get_or-set_other old k j (at old k ++ x ∷ []) [] no in
        let more : AllBegin old logs = knows_set old k (at old k ++ x ∷ []) in_logs (begins_more (at old k) (at old k) (x ∷ []) (begins_refl (at old k))) in
        let seen : AllBegin (set v.logs k grew) logs = set_knows v.logs logs k grew store.long (subst (Begins grew) (sym at_k) (begins_refl grew)) (knows_trans v.logs old logs fit.seen more) in
        let len : c ≡ length (at logs k) = omega (arith, is_c, ap length at_k, length-append v.hand (x ∷ [])) in (
          logs,
          record {
            are = are;
            wide = length-set s.words (n + k) c ∙ r.wide;
            bit = λ j lj. omega (arith, other j (λ e. omega arith), r.bit j lj);
            count = λ j lj. dite (ℕ_discrete j k)
                (λ is. subst (λ z. slice_index ws (n + z) ≡ length (at logs z)) (sym is) (now ∙ len))
                (λ no. other (n + j) (λ e. no (omega arith)) ∙ (r.count j lj ∙ ap length (sym (at_other j no))));
            home = λ j lj z. let was = sym (other j (λ e. omega arith)) ∙ z in
                r.home j lj was ∙ ap (λ q. some (some (Some q))) (sym (at_other j (λ is. omega (arith, ap (slice_index s.words) is, t.1, was))));
            fits = fits_set n old s.words (Fits n logs ws) s.views id w
                record {
                  seen = seen;
                  told = knows_trans v.told old logs fit.told more;
                  turn = λ j h. let is = some_is k j (sym store.holds ∙ h) in subst (λ z. (z < n) × (slice_index ws z ≡ 1) × (grew ≡ at logs z)) is (t.0, other k (λ e. omega (arith, t.0)) ∙ t.1, sym at_k);
                }
                (λ j u no e g. record {
                  seen = knows_trans u.logs old logs g.seen more;
                  told = knows_trans u.told old logs g.told more;
                  turn = λ i h. let q = g.turn i h in (q.0, other i (λ e. omega (arith, q.0)) ∙ q.1, q.2 ∙ sym (at_other i (λ is. no (r.one j id k u v e here (h ∙ ap Some is) store.holds))));
                }) r.fits;
            one = one_set s.views id w r.one (λ i j u h no e g. no (r.one j id i u v e here g h));
            someone = λ j lj z. let q = r.someone j lj (sym (other j (λ e. omega arith)) ∙ z) in still s.views id j w q.0 q.1 q.2 q.3 (λ is. held s.views id q.0 v q.1 here q.2 is ∙ q.3);
          },
          takes_grown f n old k x r.are may,
          seen,
          at_k,
        )

    pub grows : (slots id k : ℕ) (me : Me (Body L) (View L)) (c : ℕ) (x : Marked L) → slots ≡ n → me.0.holds ≡ Some k → k < length me.0.logs → c ≡ length me.0.hand + 1
        → hash_at f x % n ≡ k → id_of x ≡ (k, length me.0.hand) → stored_hash x ≡ hash_at f x → ((i : ℕ) (m : Marked L) → slice_get me.0.hand i ≡ Some m → plain m ≢ plain x) → ((p : Marked L) → Has (parts_of x) p → StandsIn me.0.logs p)
        → Allows (Kept f n) slots id me (n + k) (λ _. c) (λ _. Grows f (x ∷ []) (step slots (n + k) c 0 none) me c)
    grows slots id k me c x all holds long is_c own is_id is_hash new parts s r _ here small =
        let v : View L = me.0 in
        let t = (r.1.fits id v here).turn k holds in
        let grew : List (Marked L) = v.hand ++ x ∷ [] in
        let g = kept_by_store s r.0 r.1 id k v x me.1 c is_c record { here = here; holds = holds; long = long; own = own; id_is = is_id; hash_is = is_hash; fresh = new; parts = parts } in
        let logs : List (List (Marked L)) = g.0 in
        let event : IsPublish f n k v.hand x c = record {
          before = core_of r.0;
          after = core_of logs;
          run = r.1.are.run;
          takes = g.2;
          log = at_map plain r.0 k ∙ ap (map plain) (sym t.2);
          count = omega (arith, is_c, ap length g.4, length-append v.hand (x ∷ []), length_map plain (at logs k), ap length (at_map plain logs k));
        } in (
          grown_view v k x,
          keeps,
          tt,
          (g.0, g.1),
          λ k' x' h' e'. let same = some_is k k' (sym holds ∙ h') in let one = heads x x' [] [] e' in (
            (λ i. (view (set v.logs (same i) (v.hand ++ one i ∷ [])) v.told v.holds (v.hand ++ one i ∷ []), me.1)),
            subst (λ z. AreSeen f z (set v.logs k grew)) (sym all) record { all = logs; are = g.1.are; begins = g.3 },
            subst (λ z. IsPublish f slots z v.hand x' c) same (subst (λ z. IsPublish f slots k v.hand z c) one (subst (λ z. IsPublish f z k v.hand x c) (sym all) event)),
          ),
        )

    -- the turn and the body go back
    pub gave : (s : State (Body L) (View L)) (logs : List (List (Marked L))) (r : HasLogs f n logs s) (id k : ℕ) (v : View L) (more : List (ℕ × Body L)) → length s.homes ≡ n → get_elem? s.views id ≡ some v → v.holds ≡ Some k
        → HasLogs f n logs (stepped s k 0 id ((k, Some v.hand) ∷ more) (view v.logs v.told None []) gives)
    gave s logs r id k v more len here holds =
        let fit = r.fits id v here in
        let t = fit.turn k holds in
        let w : View L = view v.logs v.told None [] in
        let ws : List ℕ = set s.words k 0 in
        let inside : k < length s.words = omega (arith, r.wide, t.0) in
        let now : slice_index ws k ≡ 0 = get_or-set_same s.words k 0 0 inside in
        let other : (j : ℕ) → j ≢ k → slice_index ws j ≡ slice_index s.words j = λ j no. get_or-set_other s.words k j 0 0 no in
        record {
          are = r.are;
          wide = length-set s.words k 0 ∙ r.wide;
          bit = λ j lj. dite (ℕ_discrete j k) (λ is. omega (arith, ap (slice_index ws) is, now)) (λ no. omega (arith, other j no, r.bit j lj));
          count = λ j lj. other (n + j) (λ e. omega (arith, t.0)) ∙ r.count j lj;
          home = λ j lj z. dite (ℕ_discrete j k)
              (λ is. subst (λ q. get_elem? (set s.homes k (some (Some v.hand))) q ≡ some (some (Some (at logs q)))) (sym is)
              (set_here s.homes k (some (Some v.hand)) (omega (arith, len, t.0)) ∙ ap (λ q. some (some (Some q))) t.2))
              (λ no. set_else s.homes k j (some (Some v.hand)) no ∙ r.home j lj (sym (other j no) ∙ z));
          fits = fits_set n logs s.words (Fits n logs ws) s.views id w
              record { seen = fit.seen; told = fit.told; turn = λ j h. absurd (some_not j (sym h)) }
              (λ j u no e g. record {
                seen = g.seen;
                told = g.told;
                turn = λ i h. let q = g.turn i h in (q.0, other i (λ is. no (r.one j id k u v e here (h ∙ ap Some is) holds)) ∙ q.1, q.2);
              }) r.fits;
          one = one_set s.views id w r.one (λ i j u h no e g. some_not i (sym h));
          someone = λ j lj z. dite (ℕ_discrete j k)
              (λ is. absurd (omega (arith, ap (slice_index ws) is, now, z)))
              (λ no. let q = r.someone j lj (sym (other j no) ∙ z) in still s.views id j w q.0 q.1 q.2 q.3
              (λ is. absurd (no (some_is j k (sym q.3 ∙ (sym (held s.views id q.0 v q.1 here q.2 is) ∙ holds))))));
        }

    pub returns : (slots id k : ℕ) (me : Me (Body L) (View L)) (more : List (ℕ × Body L)) → slots ≡ n → me.0.holds ≡ Some k → me.1 ≡ (k, Some me.0.hand) ∷ more
        → Allows (Kept f n) slots id me k (λ _. 0) (λ _. Gives (step slots k 0 0 none) me 0)
    returns slots id k me more all holds in_hand s r len here small =
        let v : View L = me.0 in
        subst (λ (cs : List (ℕ × Body L)). (w' : View L) × (a : Act (Body L)) × Valid s.homes cs a × Kept f n (stepped s k 0 id cs w' a)
        × Gives (step slots k 0 0 none) (v, cs) 0 (w', carried_after cs a)) (sym in_hand) (
          view v.logs v.told None [],
          gives,
          tt,
          (r.0, gave s r.0 r.1 id k v more (len ∙ all) here holds),
          λ x' more' e. (λ i. (view v.logs v.told None [], tails (k, Some v.hand) x' more more' e i)),
        )

    pub split_keeps : (s : State (Body L) (View L)) (logs : List (List (Marked L))) (r : HasLogs f n logs s) (id : ℕ) (v : View L) → get_elem? s.views id ≡ some v
        → HasLogs f n logs record { words = s.words; homes = s.homes; views = set s.views id v ++ view v.logs [] None [] ∷ [] }
    split_keeps s logs r id v here =
        let w : View L = view v.logs [] None [] in
        let fit = r.fits id v here in
        subst (λ (vs : List (View L)). HasLogs f n logs record { words = s.words; homes = s.homes; views = vs ++ w ∷ [] }) (sym (set_again s.views id v here)) record {
          are = r.are;
          wide = r.wide;
          bit = r.bit;
          count = r.count;
          home = r.home;
          fits = λ j u e. ⊎_elim (λ p. r.fits j u p)
              (λ p. subst (Fits n logs s.words) p record { seen = fit.seen; told = knows_nothing [] logs (λ k. refl); turn = λ k h. absurd (some_not k (sym h)) }) (at_snoc s.views w u j e);
          one = λ i j k a b ei ej ha hb. ⊎_elim
              (λ p. ⊎_elim (λ q. r.one i j k a b p q ha hb) (λ q. absurd (some_not k (sym hb ∙ ap (λ (y : View L). y.holds) (sym q)))) (at_snoc s.views w b j ej))
              (λ p. absurd (some_not k (sym ha ∙ ap (λ (y : View L). y.holds) (sym p)))) (at_snoc s.views w a i ei);
          someone = λ k l z. let t = r.someone k l z in (t.0, t.1, at_longer s.views (w ∷ []) t.0 t.1 t.2, t.3);
        }

    pub splits : (id : ℕ) (v : View L) → Splits (Kept f n) id v v (view v.logs [] None [])
    splits id v s r here = (r.0, split_keeps s r.0 r.1 id v here)

    pub join_keeps : (s : State (Body L) (View L)) (logs : List (List (Marked L))) (r : HasLogs f n logs s) (id other : ℕ) (v u : View L) → get_elem? s.views id ≡ some v → other ≢ id → get_elem? s.views other ≡ some u → u.holds ≡ None
        → HasLogs f n logs record { words = s.words; homes = s.homes; views = set (set s.views id (view v.logs u.logs v.holds v.hand)) other (view [] [] None []) }
    join_keeps s logs r id other v u here two was idle =
        let b : View L = view v.logs u.logs v.holds v.hand in
        let w : View L = view [] [] None [] in
        let vs : List (View L) = set s.views id b in
        let there_u : get_elem? vs other ≡ some u = set_else s.views id other b two ∙ was in
        let fit = r.fits id v here in let g = r.fits other u was in
        let fits_b = fits_set n logs s.words (Fits n logs s.words) s.views id b record { seen = fit.seen; told = g.seen; turn = fit.turn } (λ j y no e q. q) r.fits in
        let one_b = one_set s.views id b r.one (λ k j y h no e q. no (r.one j id k y v e here q h)) in record {
          are = r.are;
          wide = r.wide;
          bit = r.bit;
          count = r.count;
          home = r.home;
          fits = fits_set n logs s.words (Fits n logs s.words) vs other w record { seen = knows_nothing [] logs (λ k. refl); told = knows_nothing [] logs (λ k. refl); turn = λ k h. absurd (some_not k (sym h)) } (λ j y no e q. q) fits_b;
          one = one_set vs other w one_b (λ k j y h no e q. some_not k (sym h));
          someone = λ k l z. let t = r.someone k l z in
              let s' = still s.views id k b t.0 t.1 t.2 t.3 (λ is. held s.views id t.0 v t.1 here t.2 is ∙ t.3) in
              still vs other k w s'.0 s'.1 s'.2 s'.3 (λ is. absurd (some_not k (sym s'.3 ∙ (ap (λ (y : View L). y.holds) (some-injective s'.1 u (sym s'.2 ∙ (ap (get_elem? vs) is ∙ there_u))) ∙ idle))));
        }

    pub joins : (id : ℕ) (v : View L) (other : ℕ) (u : View L) → u.holds ≡ None → Joins (Kept f n) id v other u (view v.logs u.logs v.holds v.hand) (view [] [] None [])
    joins id v other u idle s r here two there_u =
        let b : View L = view v.logs u.logs v.holds v.hand in
        let was : get_elem? s.views other ≡ some u = ⊎_elim (λ (t : (other ≡ id) × (b ≡ u)). absurd (two t.0)) (λ (t : (other ≢ id) × (get_elem? s.views other ≡ some u)). t.1) (at_set s.views id other b u there_u) in
        (r.0, join_keeps s r.0 r.1 id other v u here two was idle)

    pub settles : (slots id : ℕ) (me : Me (Body L) (View L)) → slots ≡ n → Allows (Kept f n) slots id me 0 (λ x. x) (Settles f (step slots 0 0 0 none) me)
    settles slots id me all s r _ here small =
        let v : View L = me.0 in
        let fit = r.1.fits id v here in
        let w : View L = view (merged_logs v.logs v.told) [] v.holds v.hand in
        let m = merges v.logs v.told r.0 fit.seen fit.told in (
          w,
          keeps,
          tt,
          (r.0, unmoved s r.0 r.1 id 0 me.1 v w here refl record { seen = m.2; told = knows_nothing [] r.0 (λ k. refl); turn = fit.turn }),
          (refl, m.0, m.1, subst (λ z. AreSeen f z (merged_logs v.logs v.told)) (sym all) record { all = r.0; are = r.1.are; begins = m.2 }),
        )

    abbrev empty : Body L
    empty = Some []

    home_at : (m k : ℕ) → k < m → get_elem? (map some (replicate m empty)) k ≡ some (some empty)
    home_at zero k l = absurd (omega arith)
    home_at (suc m) zero l = refl
    home_at (suc m) (suc k) l = home_at m k (omega arith)

    -- the table as it begins
    pub opens : (ws : List ℕ) (bodies : List (Body L)) → 0 < n → ws ≡ replicate (n + n) 0 → bodies ≡ replicate n empty → Kept f n (opening ws bodies (view (replicate n []) [] None []))
    opens ws bodies positive zeros none_yet =
        let v : View L = view (replicate n []) [] None [] in
        let zero_at : (k : ℕ) → slice_index ws k ≡ 0 = λ k. ap (λ z. slice_index z k) zeros ∙ same_at 0 (n + n) k in
        let only : (j : ℕ) (u : View L) → get_elem? (v ∷ []) j ≡ some u → (j ≡ 0) × (v ≡ u) = λ j u e. first j u v e in (
          replicate n [],
          record {
            are = logs_begin f n positive;
            wide = ap length zeros ∙ length-replicate (n + n) 0;
            bit = λ k l. omega (arith, zero_at k);
            count = λ k l. zero_at (n + k) ∙ ap length (sym (at_empty {A = Marked L} n k));
            home = λ k l z. ap (λ q. get_elem? (map some q) k) none_yet ∙ (home_at n k l ∙ ap (λ q. some (some (Some q))) (sym (at_empty {A = Marked L} n k)));
            fits = λ j u e. subst (Fits n (replicate n []) ws) (only j u e).1 record {
              seen = knows_refl (replicate n []);
              told = knows_nothing [] (replicate n []) (λ k. refl);
              turn = λ k h. absurd (some_not k (sym h));
            };
            one = λ i j k a b ei ej ha hb. (only i a ei).0 ∙ sym (only j b ej).0;
            someone = λ k l z. absurd (omega (arith, zero_at k, z));
          },
        )
