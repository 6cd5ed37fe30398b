-- Events Claim, one after another.
use Rattle.std.proofs.Common.{◌≡◌, ℕ, zero, suc, ◌+◌, ◌<◌, ◌^◌, List, [], ◌∷◌, ◌++◌, sym, refl, ap, ◌∙◌, subst, arith}
use Rattle.std.specs.Prelude.{replicate, Option, Some, None, Ok, Err}
use Rattle.std.specs.List.{range_with_len}
use Rattle.std.proofs.lemmas.List.{replicate_more}
use Rattle.ul_core.specs.declared.events.Event.TheVariants.{Claim}
use Rattle.ul_core.specs.declared.events.EventFault.TheVariants.{Shard, Known, Part, Full, NoMemory}
use Rattle.ul_core.specs.Core.{Core, first_core}
use Rattle.ul_core.specs.Steps.{Answer, Runs, Takes, after_claim, draws}
use Rattle.ul_core.proofs.ForCallers.{run_more}
use Rattle.ul_claims.specs.Claimed.{Shows, IsClaim, EachClaimIsNext}

draws-append : (xs ys : List Answer) → draws (xs ++ ys) ≡ draws xs ++ draws ys
draws-append [] ys = refl
draws-append (Ok (Some n) ∷ xs) ys = ap (λ (zs : List ℕ). n ∷ zs) (draws-append xs ys)
draws-append (Ok None ∷ xs) ys = draws-append xs ys
draws-append (Err fault ∷ xs) ys = draws-append xs ys

range_more : (a n : ℕ) → range_with_len a (suc n) ≡ range_with_len a n ++ (a + n) ∷ []
range_more a zero = ap (λ (k : ℕ). k ∷ []) (let e : a ≡ a + 0 = omega arith in e)
range_more a (suc n) = ap (λ zs. a ∷ zs) (range_more (a + 1) n ∙ ap (λ (k : ℕ). range_with_len (a + 1) n ++ k ∷ []) (let e : a + 1 + n ≡ a + suc n = omega arith in e))

next_range : (n : ℕ) → range_with_len 0 (n + 1) ≡ range_with_len 0 n ++ n ∷ []
next_range n = ap (range_with_len 0) (let e : n + 1 ≡ suc n = omega arith in e) ∙ (range_more 0 n ∙ ap (λ (k : ℕ). range_with_len 0 n ++ k ∷ []) (let e : 0 + n ≡ n = omega arith in e))

module _ {L : Type 0} (f : L → ℕ) where
  -- what n events Claim do, from any core that has room for them
  claims_run : (n : ℕ) (s s' : Core L) (answers : List Answer) → s.claims + n < 2 ^ 64 → Runs f s (replicate n Claim) answers s' → (s' ≡ record s { claims = s.claims + n }) × (draws answers ≡ range_with_len s.claims n)
  claims_run zero s s' [] room run = (run ∙ ap (λ (k : ℕ). record s { claims = k }) (let e : s.claims ≡ s.claims + 0 = omega arith in e), refl)
  claims_run zero s s' (a ∷ answers) room run = absurd run
  claims_run (suc n) s s' [] room run = absurd run
  claims_run (suc n) s s' (Ok answer ∷ answers) room run =
      let step = run.1 in
      let rest : Runs f (after_claim s) (replicate n Claim) answers s' = subst (λ m. Runs f m (replicate n Claim) answers s') step.2 run.2 in
      let r = claims_run n (after_claim s) s' answers (omega (arith, room)) rest in (
        r.0 ∙ ap (λ (k : ℕ). record s { claims = k }) (let e : s.claims + 1 + n ≡ s.claims + suc n = omega arith in e),
        ap (λ (o : Option ℕ). draws (Ok o ∷ answers)) step.1 ∙ ap (λ (zs : List ℕ). s.claims ∷ zs) r.1,
      )
  claims_run (suc n) s s' (Err Full ∷ answers) room run = absurd (omega (arith, run.1.0, room))
  claims_run (suc n) s s' (Err Shard ∷ answers) room run = absurd run.1.0
  claims_run (suc n) s s' (Err Known ∷ answers) room run = absurd run.1.0
  claims_run (suc n) s s' (Err Part ∷ answers) room run = absurd run.1.0
  claims_run (suc n) s s' (Err NoMemory ∷ answers) room run = absurd run.1.0

  pub each_claim : EachClaimIsNext f
  each_claim shards n answers s room run =
      let r = claims_run n (first_core shards) s answers (omega (arith, room)) run in
      (r.0 ∙ ap (λ (k : ℕ). record (first_core shards) { claims = k }) (let e : 0 + n ≡ n = omega arith in e), r.1)

pub shows_first : Shows 0
shows_first = record { core = first_core 1; answers = []; run = refl; number = refl; drawn = refl }

takes : (n : ℕ) (s : Shows n) → n + 1 < 2 ^ 64 → Takes (λ (label : ℕ). label) s.core Claim (Some n) (after_claim s.core)
takes n s room = (omega (arith, s.number, room), ap Some (sym s.number), refl)

pub claim_of : (n : ℕ) → Shows n → n + 1 < 2 ^ 64 → IsClaim n
claim_of n s room = record { before = s; event = takes n s room }

pub shows_more : (n : ℕ) → Shows n → n + 1 < 2 ^ 64 → Shows (n + 1)
shows_more n s room =
    let one : List Answer = Ok (Some n) ∷ [] in
    let run : Runs (λ (label : ℕ). label) (first_core 1) (replicate n Claim ++ Claim ∷ []) (s.answers ++ one) (after_claim s.core) = run_more (λ (label : ℕ). label) (first_core 1) (replicate n Claim) s.answers s.core Claim (Ok (Some n)) (after_claim s.core) s.run (takes n s room) in record {
      core = after_claim s.core;
      answers = s.answers ++ one;
      run = subst (λ events. Runs (λ (label : ℕ). label) (first_core 1) events (s.answers ++ one) (after_claim s.core)) (replicate_more n Claim) run;
      number = ap (λ (k : ℕ). k + 1) s.number;
      drawn = draws-append s.answers one ∙ (ap (λ zs. zs ++ n ∷ []) s.drawn ∙ sym (next_range n));
    }
