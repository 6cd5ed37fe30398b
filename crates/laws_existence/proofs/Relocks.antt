-- What `relock` answers to what files give.
use Rattle.std.proofs.Common.{◌≡◌, ◌≢◌, ◌≤◌, ◌⊎◌, ℕ, zero, suc, List, [], Bool, true, false, bytes_eq, length, nat_le, Decides, Option, Some, None, Result, Ok, refl, sym, inl, inr, arith}
use Rattle.indexmap.specs.IndexSet.{insert_all}
use Rattle.ul_lock.specs.WellFormed.{IsWellFormed}
use Rattle.ul_lock.specs.declared.parts.Lock.{Lock}
use Rattle.ul_lock_write.specs.Markers.{first_over, markers_of}
use Rattle.ul_lock_write.specs.Texts.{lock_text}
use Rattle.ul_verified.specs.Verified.{IsRoot, IsVerified}
use Rattle.ul_inputs.specs.Inputs.{text_bytes}
use Rattle.ul_inputs.specs.Refused.{Refused}
use Rattle.ul_inputs.specs.Resolutions.{ResolutionFields}
use Rattle.laws_given.specs.Given.{HasTexts}
use Rattle.ul_answers.specs.Answer.{Answer, locked}
use Rattle.ul_answers.specs.Printed.{printed}
use Rattle.ul_commands.specs.Locking.{IsLockAnswer}
use Rattle.ul_commands.specs.Relocking.{IsKept, IsRelockAnswer, ListsNoOther, fork_count, refreshed, unkept}
use Rattle.ul_commands.specs.RootExtras.{allowed_extras, root_is_among}
use Rattle.ul_commands.proofs.ForCallers.{extras_decided, unkept_is}
use Rattle.laws_verdicts.specs.Exists.{HasWrong, IsForOthers, VerdictExists}
use Rattle.laws_existence.proofs.Forks.{IsKnown}
use Rattle.laws_existence.proofs.Locks.{LockLaws, lock_answered}

-- ---- whether the old lock stays

-- a fact or its opposite
abbrev Decided : Type 0 → Type 0
Decided A = A ⊎ (A → ⊥)

by_test : {A : Type 0} (b : Bool) → Decides b A → Decided A
by_test true d = inl (d.0 refl)
by_test false d = inr (λ h. cc (d.1 h))

none_or_some : (o : Option ℕ) → Decided (o ≡ None)
none_or_some None = inl refl
none_or_some (Some n) = inr (λ e. cc e)

few_or_many : (n : ℕ) (b : Bool) → b ≡ nat_le n text_bytes → Decided (n ≤ text_bytes)
few_or_many n true e = inl (let few : nat_le n text_bytes ≡ true = sym e in grind arith)
few_or_many n false e = inr (λ h. let many : nat_le n text_bytes ≡ false = sym e in grind arith)

-- a lock that is rejected isn't verified
verified_or_not : (r : ResolutionFields) (l : Lock)
    → IsVerified r.catalog r.project l
    ⊎ ((IsRoot r.project l → ⊥) ⊎ (IsForOthers r.project l ⊎ HasWrong r.catalog r.project l))
    → Decided (IsVerified r.catalog r.project l)
verified_or_not r l (inl verified) = inl verified
verified_or_not r l (inr (inl other)) = inr (λ v. other v.root)
verified_or_not r l (inr (inr (inl others))) = inr (λ v. others.1 v.supported)
verified_or_not r l (inr (inr (inr wrong))) =
    inr (λ v. let w = wrong.2.first in w.wrong (v.packages w.place wrong.2.block w.at))

kept_where : (r : ResolutionFields) (l : Lock) → Decided (IsVerified r.catalog r.project l) → Decided (ListsNoOther r.project l)
    → Decided (first_over (markers_of (refreshed r.catalog l)) ≡ None)
    → Decided (length (lock_text (refreshed r.catalog l)) ≤ text_bytes) → Decided (IsKept r l)
kept_where r l (inl verified) (inl extras) (inl paths) (inl bytes) =
    inl (record { verified = verified; extras = extras; paths = paths; bytes = bytes })
kept_where r l (inr fails) extras paths bytes = inr (λ k. fails k.verified)
kept_where r l (inl verified) (inr fails) paths bytes = inr (λ k. fails k.extras)
kept_where r l (inl verified) (inl extras) (inr fails) bytes = inr (λ k. fails k.paths)
kept_where r l (inl verified) (inl extras) (inl paths) (inr fails) = inr (λ k. fails k.bytes)

kept_or_not : VerdictExists → (r : ResolutionFields) (l : Lock) → IsKnown r → IsWellFormed l → Decided (IsKept r l)
kept_or_not verdicts r l known well =
    let text = lock_text (refreshed r.catalog l) in
    kept_where r l
    (verified_or_not r l (verdicts r.catalog r.project l known.asked.requirements known.resolution.project well))
    (by_test (root_is_among (insert_all bytes_eq [] (allowed_extras r.project l)) l.root l.packages)
    (extras_decided r.project l))
    (none_or_some (first_over (markers_of (refreshed r.catalog l))))
    (few_or_many (length text) (nat_le (length text) text_bytes) refl)

-- ---- answers

-- what is known of a resolution is known of it where nothing is kept
unkept_known : (r : ResolutionFields) → IsKnown r → IsKnown (unkept r)
unkept_known r known = record {
  resolution = unkept_is r known.resolution;
  texts = record {
    project = known.texts.project;
    extras = known.texts.extras;
    versions = known.texts.versions;
    nodes = known.texts.nodes;
    files = known.texts.files;
  };
  asked = known.asked;
}

-- with the old versions where that is a lock that is printed, and else without them
again_or_anew : LockLaws → (r : ResolutionFields) (l : Lock) → IsKnown r → (IsKept r l → ⊥)
    → (again : Result Answer Refused) → IsLockAnswer r again → (status : ℕ) → status ≡ (printed again).0
    → (a : Result Answer Refused) × IsRelockAnswer r l a
again_or_anew laws r l known other again answers zero e =
    (again, inr (inl (record { other = other; answers = answers; status = sym e })))
again_or_anew laws r l known other again answers (suc status) e =
    let anew = lock_answered laws (unkept r) (unkept_known r known) in (
      anew.0,
      inr (inr (record { other = other; again = again; answers = answers; status = λ is_zero. cc; anew = anew.1 })),
    )

relocked : LockLaws → (r : ResolutionFields) (l : Lock) → IsKnown r → Decided (IsKept r l)
    → (a : Result Answer Refused) × IsRelockAnswer r l a
relocked laws r l known (inl kept) =
    (Ok (locked (refreshed r.catalog l) (fork_count l.forks)), inl (record { kept = kept; is = refl }))
relocked laws r l known (inr other) =
    let again = lock_answered laws r known in
    again_or_anew laws r l known other again.0 again.1 (printed again.0).0 refl

-- `relock` answers
pub relock_answered : LockLaws → VerdictExists → (r : ResolutionFields) (l : Lock) → IsKnown r → IsWellFormed l
    → (a : Result Answer Refused) × IsRelockAnswer r l a
relock_answered laws verdicts r l known well = relocked laws r l known (kept_or_not verdicts r l known well)
