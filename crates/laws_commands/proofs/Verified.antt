-- What `verify` answers: one answer, and what a lock is that it accepts.
use Rattle.std.proofs.Common.{◌≡◌, ◌∙◌, ◌<◌, ◌⊎◌, ⊎_elim, ℕ, zero, suc, List, Some, Result, Ok, refl, sym, ap, arith, inl, inr}
use Rattle.std.specs.Prelude.{slice_get}
use Rattle.ul_version.specs.Fields.{Fields}
use Rattle.ul_index.specs.Catalogs.{Packages}
use Rattle.ul_project.specs.Fields.{ProjectFields}
use Rattle.ul_lock.specs.declared.parts.Lock.{Lock}
use Rattle.ul_lock.specs.declared.parts.Locked.{Locked}
use Rattle.ul_verified.specs.Headline.{VerifiedPromises}
use Rattle.ul_verified.specs.Verified.{IsVerified}
use Rattle.ul_verify.specs.Headline.{IsFirstWrong, IsWrong}
use Rattle.ul_inputs.specs.Refused.{Refused}
use Rattle.ul_inputs.specs.Resolutions.{ResolutionFields}
use Rattle.ul_answers.specs.Answer.{Answer, rejected_package, verified}
use Rattle.ul_commands.specs.Verifying.{IsVerifyAnswer}
use Rattle.laws_commands.specs.Verified.{VerifiedAreSound}

-- ---- the first package that isn't right

-- of two numbers one is less, or they are one
which_less : (j k : ℕ) → (j < k) ⊎ ((k < j) ⊎ (j ≡ k))
which_less zero zero = inr (inr refl)
which_less zero (suc k) = inl (omega arith)
which_less (suc j) zero = inr (inl (omega arith))
which_less (suc j) (suc k) =
    ⊎_elim (λ h. inl (omega (arith, h)))
    (λ r. inr (⊎_elim (λ h. inl (omega (arith, h))) (λ e. inr (ap suc e)) r)) (which_less j k)

same_some : (a b : Locked) → Some a ≡ Some b → a ≡ b
same_some a b e = cc

same_first : (c : Packages) (p : ProjectFields) (l : Lock) (a b : Locked) (g : IsFirstWrong c p l a) (h : IsFirstWrong c p l b)
    → (g.place < h.place) ⊎ ((h.place < g.place) ⊎ (g.place ≡ h.place)) → a ≡ b
same_first c p l a b g h (inl less) = absurd (g.wrong (h.before g.place a less g.at))
same_first c p l a b g h (inr (inl less)) = absurd (h.wrong (g.before h.place b less h.at))
same_first c p l a b g h (inr (inr same)) = same_some a b (sym g.at ∙ (ap (slice_get l.packages) same ∙ h.at))

-- it is one
first_once : (c : Packages) (p : ProjectFields) (l : Lock) (a b : Locked) → IsFirstWrong c p l a → IsFirstWrong c p l b → a ≡ b
first_once c p l a b g h = same_first c p l a b g h (which_less g.place h.place)

-- a verified lock has none
none_wrong : (c : Packages) (p : ProjectFields) (l : Lock) (name : List ℕ) (version : Fields) → IsWrong c p l name version → IsVerified c p l → ⊥
none_wrong c p l name version w v = w.first.wrong (v.packages w.first.place w.block w.first.at)

abbrev rejected_at : List ℕ → Fields → Result Answer Refused
rejected_at name version = Ok (rejected_package name version)

-- and so the answer that tells it is one
wrong_once : (c : Packages) (p : ProjectFields) (l : Lock) (m n : List ℕ) (v u : Fields) → IsWrong c p l m v → IsWrong c p l n u
    → rejected_at m v ≡ rejected_at n u
wrong_once c p l m n v u g h =
    let block = first_once c p l g.block h.block g.first h.first in
    let name : m ≡ n = g.named ∙ (ap (λ (b : Locked). b.name) block ∙ sym h.named) in
    let version : v ≡ u = g.at ∙ (ap (λ (b : Locked). b.version) block ∙ sym h.at) in
    λ i. rejected_at (name i) (version i)

-- ---- one answer

pub verify_once : (r : ResolutionFields) (l : Lock) (a b : Result Answer Refused) → IsVerifyAnswer r l a → IsVerifyAnswer r l b → a ≡ b
verify_once r l a b (inl g) (inl h) = g.is ∙ sym h.is
verify_once r l a b (inl g) (inr (inl h)) = absurd (h.other g.verified.root)
verify_once r l a b (inl g) (inr (inr (inl h))) = absurd (h.others g.verified.supported)
verify_once r l a b (inl g) (inr (inr (inr h))) = absurd (none_wrong r.catalog r.project l h.name h.version h.wrong g.verified)
verify_once r l a b (inr (inl g)) (inl h) = absurd (g.other h.verified.root)
verify_once r l a b (inr (inl g)) (inr (inl h)) = g.is ∙ sym h.is
verify_once r l a b (inr (inl g)) (inr (inr (inl h))) = absurd (g.other h.root)
verify_once r l a b (inr (inl g)) (inr (inr (inr h))) = absurd (g.other h.wrong.root)
verify_once r l a b (inr (inr (inl g))) (inl h) = absurd (g.others h.verified.supported)
verify_once r l a b (inr (inr (inl g))) (inr (inl h)) = absurd (h.other g.root)
verify_once r l a b (inr (inr (inl g))) (inr (inr (inl h))) = g.is ∙ sym h.is
verify_once r l a b (inr (inr (inl g))) (inr (inr (inr h))) = absurd (g.others h.wrong.supported)
verify_once r l a b (inr (inr (inr g))) (inl h) = absurd (none_wrong r.catalog r.project l g.name g.version g.wrong h.verified)
verify_once r l a b (inr (inr (inr g))) (inr (inl h)) = absurd (h.other g.wrong.root)
verify_once r l a b (inr (inr (inr g))) (inr (inr (inl h))) = absurd (h.others g.wrong.supported)
verify_once r l a b (inr (inr (inr g))) (inr (inr (inr h))) =
    g.is ∙ (wrong_once r.catalog r.project l g.name h.name g.version h.version g.wrong h.wrong ∙ sym h.is)

-- ---- what is accepted

pub verified_lock : (r : ResolutionFields) (l : Lock) → IsVerifyAnswer r l (Ok verified) → IsVerified r.catalog r.project l
verified_lock r l (inl h) = h.verified
verified_lock r l (inr (inl h)) = let bad = h.is in absurd (cc)
verified_lock r l (inr (inr (inl h))) = let bad = h.is in absurd (cc)
verified_lock r l (inr (inr (inr h))) = let bad = h.is in absurd (cc)

pub verified_are_sound : VerifiedPromises → VerifiedAreSound
verified_are_sound promises r l well answers = promises.sound r.catalog r.project l well (verified_lock r l answers)
