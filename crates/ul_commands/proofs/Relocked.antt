-- Whether an old lock stays, and what is answered where it does or doesn't.
use Rattle.std.proofs.Common.{◌≡◌, ◌≢◌, ◌<◌, ◌≤◌, ◌∙◌, ℕ, List, [], ◌++◌, Bool, true, false, if◌then◌else◌, codes, length, nat_le, Decides, Option, Some, None, IfSome, Result, Ok, Err, IfOk, Vec, Global, refl, sym, ap, subst, arith, inl, inr}
use Rattle.std.specs.Prelude.{string_bytes}
use Rattle.std.specs.declared.alloc.AllocError.{AllocError}
use Rattle.ul_nodes.specs.Plain.{Plain}
use Rattle.ul_tree.specs.Paths.{is_printable}
use Rattle.ul_lock.specs.declared.parts.Lock.{Lock}
use Rattle.ul_lock_write.specs.Headline.{WritesLock}
use Rattle.ul_lock_write.specs.Markers.{first_over, markers_of}
use Rattle.ul_lock_write.specs.Texts.{lock_text}
use Rattle.ul_lock_write.specs.declared.writing.WriteFault.{WriteFault}
use Rattle.ul_lock_write.specs.declared.writing.WriteFault.TheVariants.{TooManyPaths, TooLong, NoMemory as NoMemoryToWrite}
use Rattle.ul_verified.specs.Verified.{IsVerified}
use Rattle.ul_verify.specs.Headline.{IsWrong}
use Rattle.ul_generations.specs.Generations.{leaves_are, refused_at, too_many}
use Rattle.ul_forks.specs.Headline.{TreeAnswer, TreeRefusal}
use Rattle.ul_report.specs.Texts.{refusal_text}
use Rattle.ul_inputs.specs.Inputs.{only, text_bytes}
use Rattle.ul_inputs.specs.Locks.{Kept, kept_of}
use Rattle.ul_inputs.specs.Refused.{Refused, malformed, limit}
use Rattle.ul_inputs.specs.Refusals.{Answers, refused_of}
use Rattle.ul_inputs.specs.Resolutions.{IsResolution, ResolutionFields}
use Rattle.ul_inputs.specs.declared.refusal.Refusal.{Refusal}
use Rattle.ul_inputs.specs.declared.refusal.Refusal.TheVariants.{Malformed, Limit, ReadFault, NoMemory}
use Rattle.ul_answers.specs.Answer as answer
use Rattle.ul_answers.specs.Printed.{lock_output, output_of, printed, refused_output, refusal_output}
use Rattle.ul_answers.specs.Views.{view}
use Rattle.ul_answers.specs.declared.answer.Answer.{Answer}
use Rattle.ul_commands.specs.Keeping.{IsWritable, StaysAs, is_acceptance, lock_of_answer, was_written}
use Rattle.ul_commands.specs.Locking.{IsLockAnswer, LocksFor, RefusedWhere, answer_where}
use Rattle.ul_commands.specs.Relocking.{IsKept, IsRelockAnswer, ListsNoOther, fork_count, refreshed, unkept}
use Rattle.ul_commands.specs.Verifying.{IsVerifyAnswer}
use Rattle.ul_commands.proofs.Written.{ok_same}

-- ---- whether a lock stays

-- the answer of `verify` decides whether a lock is verified
accepted : (r : ResolutionFields) (l : Lock) (a : answer.Answer) → is_acceptance a ≡ true → IsVerifyAnswer r l (Ok a) → IsVerified r.catalog r.project l
accepted r l a is (inl h) = h.verified
accepted r l a is (inr (inl h)) = absurd (let bad = ap is_acceptance (sym (ok_same a _ h.is)) ∙ is in cc)
accepted r l a is (inr (inr (inl h))) = absurd (let bad = ap is_acceptance (sym (ok_same a _ h.is)) ∙ is in cc)
accepted r l a is (inr (inr (inr h))) = absurd (let bad = ap is_acceptance (sym (ok_same a _ h.is)) ∙ is in cc)

accepts : (r : ResolutionFields) (l : Lock) (a : answer.Answer) → IsVerifyAnswer r l (Ok a) → IsVerified r.catalog r.project l → is_acceptance a ≡ true
accepts r l a (inl h) v = ap is_acceptance (ok_same a _ h.is)
accepts r l a (inr (inl h)) v = absurd (h.other v.root)
accepts r l a (inr (inr (inl h))) v = absurd (h.others v.supported)
accepts r l a (inr (inr (inr h))) v = absurd (h.wrong.first.wrong (v.packages h.wrong.first.place h.wrong.block h.wrong.first.at))

pub accepted_decides : (r : ResolutionFields) (l : Lock) (a : Answer) (b : Bool) → b ≡ is_acceptance (view a)
    → Answers {T = Answer} view (Ok a) (only (IsVerifyAnswer r l)) → Decides b (IsVerified r.catalog r.project l)
accepted_decides r l a b is h = (λ e. accepted r l (view a) (sym is ∙ e) h, λ v. is ∙ accepts r l (view a) h v)

module _ (r : ResolutionFields) (before now : Lock) where
  -- a lock that isn't verified, or whose root lists another extra, doesn't stay
  pub not_verified : (b : Bool) → Decides b (IsVerified r.catalog r.project before) → b ≡ false → StaysAs r before now false
  not_verified b d e k = let yes = d.1 k.verified in cc

  pub lists_other : (b : Bool) → Decides b (ListsNoOther r.project before) → b ≡ false → StaysAs r before now false
  lists_other b d e k = let yes = d.1 k.extras in cc

  -- one that is right stays where it can be written with the catalog's files
  pub stays_where : (b c d : Bool) → Decides b (IsVerified r.catalog r.project before) → b ≡ true → Decides c (ListsNoOther r.project before) → c ≡ true
      → now ≡ refreshed r.catalog before → Decides d (IsWritable now) → StaysAs r before now d
  stays_where b c true has_b is_b has_c is_c same fits =
      let w : IsWritable (refreshed r.catalog before) = subst IsWritable same (fits.0 refl) in
      (same, record { verified = has_b.0 is_b; extras = has_c.0 is_c; paths = w.paths; bytes = w.bytes })
  stays_where b c false has_b is_b has_c is_c same fits =
      λ k. let yes : false ≡ true = fits.1 (subst IsWritable (sym same) (record { paths = k.paths; bytes = k.bytes })) in absurd (cc yes)

-- ---- whether a lock can be written

written_fits : (l : Lock) (text : List ℕ) → (first_over (markers_of l) ≡ None) × (text ≡ lock_text l) × (length text ≤ text_bytes) → Decides true (IsWritable l)
written_fits l text h = (λ e. record { paths = h.0; bytes = subst (λ t. length t ≤ text_bytes) h.1 h.2 }, λ w. refl)

over_paths : (l : Lock) (n : ℕ) → first_over (markers_of l) ≡ Some n → Decides false (IsWritable l)
over_paths l n over = (λ e. absurd (cc e), λ w. absurd (let bad : Some n ≡ None = sym over ∙ w.paths in cc))

over_bytes : (l : Lock) → (first_over (markers_of l) ≡ None) × (text_bytes < length (lock_text l)) → Decides false (IsWritable l)
over_bytes l h = (λ e. absurd (cc e), λ w. absurd (omega (arith, h.1, w.bytes)))

-- so what became of writing it decides
pub written_decides : (l : Lock) (written : Result (Vec ℕ Global) WriteFault) (out : Result Bool AllocError) → WritesLock l written
    → out ≡ was_written written → IfOk out (λ b. Decides b (IsWritable l))
written_decides l (Ok text) out h is = rw is (written_fits l text.items h)
written_decides l (Err (TooManyPaths paths)) out h is = rw is (over_paths l paths h)
written_decides l (Err TooLong) out h is = rw is (over_bytes l h)
written_decides l (Err NoMemoryToWrite) out h is = rw is tt

-- ---- whether an answer of `lock` is printed

fits : (b : Bool) (text : List ℕ) → b ≡ nat_le (length text) text_bytes
    → (if b then (0, text) else refused_output (limit (codes "text-bytes") text_bytes)).0 ≡ 0 → length text ≤ text_bytes
fits true text e h = let small : nat_le (length text) text_bytes ≡ true = sym e in grind arith
fits false text e h = absurd (let four : 4 ≡ 0 = h in cc)

is_zero : (b : Bool) (text : List ℕ) → b ≡ nat_le (length text) text_bytes → length text ≤ text_bytes
    → (if b then (0, text) else refused_output (limit (codes "text-bytes") text_bytes)).0 ≡ 0
is_zero true text e h = refl
is_zero false text e h = absurd (let large : nat_le (length text) text_bytes ≡ false = sym e in grind arith)

writable_by : (o : Option ℕ) (l : Lock) → o ≡ first_over (markers_of l) → (lock_output o (lock_text l)).0 ≡ 0 → IsWritable l
writable_by None l e h = record { paths = sym e; bytes = fits (nat_le (length (lock_text l)) text_bytes) (lock_text l) refl h }
writable_by (Some paths) l e h = absurd (let four : 4 ≡ 0 = h in cc)

zero_by : (o : Option ℕ) (l : Lock) → o ≡ first_over (markers_of l) → IsWritable l → (lock_output o (lock_text l)).0 ≡ 0
zero_by None l e h = is_zero (nat_le (length (lock_text l)) text_bytes) (lock_text l) refl h.bytes
zero_by (Some paths) l e h = absurd (let bad = h.paths in cc)

-- a lock is printed with status 0 exactly where it can be written
pub lock_printed : (l : Lock) (forks : ℕ) (b : Bool) → Decides b (IsWritable l) → Decides b ((printed (Ok (answer.locked l forks))).0 ≡ 0)
lock_printed l forks b d = (λ e. zero_by (first_over (markers_of l)) l refl (d.0 e), λ e. d.1 (writable_by (first_over (markers_of l)) l refl e))

refused_status : (b : Bool) (region : Plain) (text : List ℕ) → b ≡ is_printable region → (refusal_output region text).0 ≡ 0 → ⊥
refused_status true region text same e = cc
refused_status false region text same e = cc

fork_status : (told : Bool) (r : ResolutionFields) (fork : TreeRefusal) (a : answer.Answer) → RefusedWhere told r fork (Ok a)
    → (output_of a).0 ≡ 0 → ⊥
fork_status true r fork a h e =
    refused_status (is_printable fork.region) fork.region (refusal_text fork.path fork.region ++ h.lines) refl
    (ap (λ (x : answer.Answer). (output_of x).0) (sym (ok_same a _ h.is)) ∙ e)
fork_status false r fork a h e = let four : 4 ≡ 0 = ap (λ (x : answer.Answer). (output_of x).0) (sym (ok_same a answer.untold h)) ∙ e in cc

merged_status : (o : Option ℕ) (l : Lock) (n : ℕ) (a : answer.Answer) → lock_of_answer a ≡ None
    → (let r : Result answer.Answer Refused = Ok a in r) ≡ Ok (answer_where o l n) → (output_of a).0 ≡ 0 → ⊥
merged_status None l n a none is e =
    let bad : Some l ≡ None = ap lock_of_answer (sym (ok_same a _ is)) ∙ none in cc
merged_status (Some paths) l n a none is e =
    let four : 4 ≡ 0 = ap (λ (x : answer.Answer). (output_of x).0) (sym (ok_same a answer.unwritten is)) ∙ e in cc

no_lock : (r : ResolutionFields) (f : TreeAnswer) (a : answer.Answer) → lock_of_answer a ≡ None → LocksFor r f (Ok a) → (output_of a).0 ≡ 0 → ⊥
no_lock r (leaves_are ls) a none h e = merged_status (first_over (markers_of h.lock)) h.lock (length ls) a none h.is e
no_lock r (refused_at fork) a none h e = fork_status (is_printable fork.region) r fork a h e
no_lock r (too_many n) a none h e = cc

-- an answer of `lock` that is no lock hasn't status 0
pub not_printed : (r : ResolutionFields) (a : answer.Answer) → lock_of_answer a ≡ None → IsLockAnswer r (Ok a) → (printed (Ok a)).0 ≡ 0 → ⊥
not_printed r a none h e = no_lock r h.forked a none h.locks e

-- a lock that is answered is printed where it can be written
pub lock_decides : (a : answer.Answer) (l : Lock) (b : Bool) → Some l ≡ lock_of_answer a → Decides b (IsWritable l)
    → (r : ResolutionFields) → IsLockAnswer r (Ok a) → Decides b ((printed (Ok a)).0 ≡ 0)
lock_decides answer.usage l b is d r h = absurd (cc is)
lock_decides (answer.locked k forks) l b is d r h =
    let same : l ≡ k = cc in lock_printed k forks b (subst (λ x. Decides b (IsWritable x)) same d)
lock_decides (answer.counted k forks) l b is d r h = absurd (cc is)
lock_decides answer.unwritten l b is d r h = absurd (cc is)
lock_decides answer.untold l b is d r h = absurd (cc is)
lock_decides (answer.no_selection path region core) l b is d r h = absurd (cc is)
lock_decides (answer.derived path region steps) l b is d r h = absurd (cc is)
lock_decides answer.none_refused l b is d r h = absurd (cc is)
lock_decides (answer.environment text) l b is d r h = absurd (cc is)
lock_decides (answer.exported rows) l b is d r h = absurd (cc is)
lock_decides (answer.canonical text) l b is d r h = absurd (cc is)
lock_decides answer.outside l b is d r h = absurd (cc is)
lock_decides (answer.no_extra name) l b is d r h = absurd (cc is)
lock_decides answer.accepted l b is d r h = absurd (cc is)
lock_decides (answer.rejected step) l b is d r h = absurd (cc is)
lock_decides answer.verified l b is d r h = absurd (cc is)
lock_decides answer.rejected_root l b is d r h = absurd (cc is)
lock_decides answer.rejected_supported l b is d r h = absurd (cc is)
lock_decides (answer.rejected_package name version) l b is d r h = absurd (cc is)

-- and nothing else is
pub other_decides : (a : answer.Answer) → None ≡ lock_of_answer a → (r : ResolutionFields) → IsLockAnswer r (Ok a) → Decides false ((printed (Ok a)).0 ≡ 0)
other_decides a is r h = (λ e. absurd (cc e), λ e. absurd (not_printed r a (sym is) h e))

-- ---- answers

-- where nothing is kept a resolution is one as well
pub unkept_is : (r : ResolutionFields) → IsResolution r → IsResolution (unkept r)
unkept_is r is = record {
  first = is.first;
  others = is.others;
  begins = is.begins;
  named = is.named;
  release = is.release;
  one = is.one;
  usable = is.usable;
  project = is.project;
}

-- a lock that stays is answered with its forks' count, and one that doesn't is known not to
pub kept_answers : (r : ResolutionFields) (before now : Lock) (b : Bool) (a : Answer) → StaysAs r before now b → b ≡ true
    → view a ≡ answer.locked now (fork_count now.forks) → Answers {T = Answer} view (Ok a) (only (IsRelockAnswer r before))
kept_answers r before now true a h e is =
    inl (record { kept = h.1; is = ap (λ x. Ok x) (is ∙ ap (λ (x : Lock). answer.locked x (fork_count x.forks)) h.0) })
kept_answers r before now false a h e is = absurd (cc e)

pub stays_not : (r : ResolutionFields) (before now : Lock) (b : Bool) → StaysAs r before now b → b ≡ false → IsKept r before → ⊥
stays_not r before now true h e k = cc e
stays_not r before now false h e k = h k

-- what is kept is what is answered so
pub kept_same : (ks : List Kept) (l : Lock) → (let r : Result (List Kept) Refused = Ok ks in r) ≡ Ok (kept_of l) → ks ≡ kept_of l
kept_same ks l e = cc

module _ (r : ResolutionFields) (l : Lock) (other : IsKept r l → ⊥) where
  -- the answer with the old versions, where it is a lock that is printed
  pub again_answer : (a : answer.Answer) → IsLockAnswer r (Ok a) → (printed (Ok a)).0 ≡ 0 → IsRelockAnswer r l (Ok a)
  again_answer a h zero = inr (inl (record { other = other; answers = h; status = zero }))

  anew_answer : (again a : Result answer.Answer Refused) → IsLockAnswer r again → (printed again).0 ≢ 0 → IsLockAnswer (unkept r) a
      → IsRelockAnswer r l a
  anew_answer again a had status h = inr (inr (record { other = other; again = again; answers = had; status = status; anew = h }))

  refused_anew : (again : Result answer.Answer Refused) → IsLockAnswer r again → (printed again).0 ≢ 0
      → (o : Option Refused) → IfSome o (λ f. IsLockAnswer (unkept r) (Err f)) → IfSome o (λ f. IsRelockAnswer r l (Err f))
  refused_anew again had status None h = tt
  refused_anew again had status (Some f) h = anew_answer again (Err f) had status h

  -- the answer without them, where the one with them isn't
  pub anew_answers : (again : Result answer.Answer Refused) → IsLockAnswer r again → (printed again).0 ≢ 0 → (result : Result Answer Refusal)
      → Answers view result (only (IsLockAnswer (unkept r))) → Answers view result (only (IsRelockAnswer r l))
  anew_answers again had status (Ok a) h = anew_answer again (Ok (view a)) had status h
  anew_answers again had status (Err e) h = (refused_anew again had status (refused_of e) h.0, h.1)

  limit_status : (f : Refused) → (printed (Err f)).0 ≢ 0
  limit_status (malformed file place) e = cc
  limit_status (limit name number) e = cc

  -- a refusal of the answer with them has another status
  pub refused_again : (e : Refusal) → (e ≡ NoMemory → ⊥) → Answers {T = Answer} view (Err e) (only (IsLockAnswer r)) → (result : Result Answer Refusal)
      → Answers view result (only (IsLockAnswer (unkept r))) → Answers view result (only (IsRelockAnswer r l))
  refused_again (Malformed file place) some had result h = anew_answers (Err (malformed (string_bytes file) (string_bytes place))) had.0 (limit_status (malformed (string_bytes file) (string_bytes place))) result h
  refused_again (Limit name number) some had result h = anew_answers (Err (limit name.now number)) had.0 (limit_status (limit name.now number)) result h
  refused_again (ReadFault path) some had result h = absurd had.1
  refused_again NoMemory some had result h = absurd (some refl)
