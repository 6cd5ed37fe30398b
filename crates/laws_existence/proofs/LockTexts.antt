-- The lock of a lock file is given, and its text isn't too long.
use Rattle.std.proofs.Common.{◌≡◌, ◌≤◌, ◌+◌, ℕ, List, [], ◌∷◌, Bool, true, false, cond, length, Option, Some, None, Result, Ok, Err, refl, ap, sym, subst, arith}
use Rattle.std.specs.Prelude.{codes, nat_le, not}
use Rattle.std.specs.List.{list_all, position_from}
use Rattle.std.proofs.lemmas.Bool.Decides.{nat_tests}
use Rattle.ul_files.specs.Files.{FileMap, content}
use Rattle.ul_lines.specs.Reader.{read_text}
use Rattle.ul_lock.specs.Targets.{first_without_target, has_one_root, package_leads_on}
use Rattle.ul_lock.specs.declared.parts.Lock.{Lock}
use Rattle.ul_lock.specs.declared.parts.Locked.{Locked}
use Rattle.ul_lock_read.specs.Answers.{IsWell}
use Rattle.ul_lock_read.specs.Automaton.{lock_reader}
use Rattle.ul_lock_read.specs.ShapedTexts.{IsText}
use Rattle.ul_lock_read.specs.TextOf.{IsTextOf}
use Rattle.ul_lock_read.proofs.ForCallers.{readable, text_fault, text_taken, well_formed}
use Rattle.ul_lock_write.specs.Texts.{lock_of, sheet_text}
use Rattle.ul_lock_write.specs.declared.sheets.Sheet.{Sheet}
use Rattle.ul_inputs.specs.Inputs.{bounded, file_at, just, large_file, present, text_bytes}
use Rattle.ul_inputs.specs.Locks as fault
use Rattle.ul_inputs.specs.Locks.{IsLockOf, fault_text, kept_of, lock_at, lock_said, old_lock}
use Rattle.ul_inputs.specs.Refused.{Refused, limit, malformed}
use Rattle.laws_given.proofs.ForCallers.{on_ok}
use Rattle.laws_existence.specs.Inputs.{IsGiven}
use Rattle.laws_existence.proofs.Sequenced.{given_file, given_just, given_then}

-- ---- what a text says

-- the text is a lock's, or has a fault
abbrev Says : (path text : List ℕ) → Type 0
Says path text = (r : Result Lock Refused) × IsLockOf path text r

all_of : (p : Locked → Bool) (n : ℕ) (bs : List Locked) → position_from (λ b. not (p b)) n bs ≡ None
    → list_all p bs ≡ true
all_of p n [] e = refl
all_of p n (b ∷ bs) e = by_test (p b) refl (all_of p (n + 1) bs) e
  where
    by_test : (t : Bool) → p b ≡ t → (position_from (λ x. not (p x)) (n + 1) bs ≡ None → list_all p bs ≡ true)
        → cond (not t) (Some n) (position_from (λ x. not (p x)) (n + 1) bs) ≡ None → list_all p (b ∷ bs) ≡ true
    by_test false is again f = absurd (cc f)
    by_test true is again f = rw is (again f)

by_target : (path text : List ℕ) (x : Sheet) → IsText x → sheet_text x ≡ text
    → has_one_root x.head.root x.packages ≡ true
    → (o : Option ℕ) → first_without_target x.packages ≡ o → Says path text
by_target path text x shaped same root (Some k) e = (
  Err (malformed path (fault_text (fault.target k))),
  record { fault = fault.target k; has = (x, shaped, same, record { root = root; target = e }); is = refl },
)
by_target path text x shaped same root None e =
    let well : IsWell x = record { root = root; targets = all_of (package_leads_on x.packages) 0 x.packages e } in (
      Ok (lock_of x),
      record {
        edition = x.head.edition;
        allowed = shaped.shaped.allowed;
        well_formed = well_formed x shaped well;
        readable = readable x shaped;
        same = same;
      },
    )

by_root : (path text : List ℕ) (x : Sheet) → IsText x → sheet_text x ≡ text → (b : Bool)
    → has_one_root x.head.root x.packages ≡ b → Says path text
by_root path text x shaped same true e = by_target path text x shaped same e (first_without_target x.packages) refl
by_root path text x shaped same false e = (
  Err (malformed path (fault_text fault.root)),
  record { fault = fault.root; has = (x, shaped, same, e); is = refl },
)

by_read : (path text : List ℕ) (read : Result Sheet ℕ) → read_text lock_reader text ≡ read → Says path text
by_read path text (Err n) e = (
  Err (malformed path (fault_text (fault.line n))),
  record { fault = fault.line n; has = text_fault text n e; is = refl },
)
by_read path text (Ok x) e =
    let taken = text_taken text x e in by_root path text x taken.0 taken.1 (has_one_root x.head.root x.packages) refl

-- ---- lock files

-- the lock of a lock file is given
pub lock_given : (path : List ℕ) (m : FileMap) → IsGiven (lock_at path) m
lock_given path m =
    given_then (large_file path) (lock_said path) m (given_file (codes "text-bytes") text_bytes path m)
    (λ text gave. by_read path text (read_text lock_reader text) refl)

-- and so is what an old lock keeps
pub old_given : (old : Option (List ℕ)) (m : FileMap) → IsGiven (old_lock old) m
old_given None m = given_just (Ok []) m
old_given (Some path) m =
    given_then (lock_at path) (λ l. just (Ok (kept_of l))) m (lock_given path m)
    (λ l gave. given_just (Ok (kept_of l)) m)

-- ---- how long a text is

-- this is found
abbrev found : {A : Type 0} → A → Result A Refused
found x = Ok x

short_if : (name : List ℕ) (most : ℕ) (bytes given : List ℕ) (b : Bool) → nat_le (length bytes) most ≡ b
    → found (Some given) ≡ cond b (Ok (Some bytes)) (Err (limit name most)) → length given ≤ most
short_if name most bytes given false fits e = absurd (cc e)
short_if name most bytes given true fits e =
    let same : given ≡ bytes = cc in
    let few : length bytes ≤ most = grind (arith, nat_tests) in
    subst (λ text. length text ≤ most) (sym same) few

short_file : (name : List ℕ) (most : ℕ) (o : Option (List ℕ)) (given : List ℕ)
    → found (Some given) ≡ bounded name most o
    → length given ≤ most
short_file name most None given e = absurd (cc e)
short_file name most (Some bytes) given e = short_if name most bytes given (nat_le (length bytes) most) refl e

present_is : (path : List ℕ) (o : Option (List ℕ)) (given : List ℕ) → found given ≡ present path o → o ≡ Some given
present_is path None given e = absurd (cc e)
present_is path (Some bytes) given e = let same : given ≡ bytes = cc in ap (λ x. Some x) (sym same)

-- a lock with a text that isn't too long
pub record HasShortText (l : Lock) : Type 0 where
  pub text : List ℕ
  pub is_text : IsTextOf text l
  pub short : length text ≤ text_bytes

-- a lock that is given is such
pub given_lock : (path : List ℕ) (m : FileMap) (l : Lock) → (lock_at path m).gives (Ok l) → HasShortText l
given_lock path m l gave =
    let name = codes "text-bytes" in
    let said = on_ok (large_file path) (lock_said path) m l gave in
    let read = on_ok (file_at name text_bytes path) (λ o. just (present path o)) m said.value said.gave in
    let there = present_is path read.value said.value read.answers in
    record {
      text = said.value;
      is_text = said.answers;
      short = short_file name text_bytes (content m path) said.value
          (subst (λ (o : Option (List ℕ)). found o ≡ bounded name text_bytes (content m path)) there read.gave);
    }
