-- What a read of a file says of its bytes.
use Rattle.std.proofs.Common.{◌≡◌, ℕ, ◌<◌, ◌≤◌, List, Option, Some, None, IfSome, option_map, Result, Ok, Err, IfOk, Vec, Global, String, string_bytes, length, nat_le, cond, true, false, ap, sym, subst, ◌∙◌, arith}
use Rattle.std.specs.declared.alloc.AllocError.{AllocError}
use Rattle.std.proofs.lemmas.Bool.Decides.{nat_tests}
use Rattle.ul_files.specs.Files.{FileMap, ReadCause, Tells, content}
use Rattle.ul_files.specs.declared.files.ReadRefused.{ReadRefused}
use Rattle.ul_files.specs.declared.files.ReadRefused.TheVariants.{Failed, TooLong, NoMemory as NoMemoryToRead}
use Rattle.ul_inputs.specs.Inputs.{bounded, file_at}
use Rattle.ul_inputs.specs.Refused.{limit}
use Rattle.ul_inputs.specs.Refusals.{Answers, Cause, IsReadRefusal}
use Rattle.ul_inputs.specs.declared.refusal.Refusal.{Refusal}
use Rattle.ul_inputs.specs.declared.refusal.Refusal.TheVariants.{Malformed, Limit, ReadFault, NoMemory}
use Rattle.ul_inputs.proofs.ForCallers.{refused_by}

fits : (n most : ℕ) → n ≤ most → nat_le n most ≡ true
fits n most h = grind (arith, nat_tests)

passes : (n most : ℕ) → most < n → nat_le n most ≡ false
passes n most h = grind (arith, nat_tests)

-- a file that is read, or isn't there
pub found_is : (name : List ℕ) (most : ℕ) (path : List ℕ) (m : FileMap) (found : Option (Vec ℕ Global)) → Tells m path most (Ok found)
    → Ok (option_map (λ v. v.items) found) ≡ bounded name most (content m path)
found_is name most path m None h = sym (ap (bounded name most) h)
found_is name most path m (Some bytes) h =
    sym (ap (bounded name most) h.0 ∙ ap (λ b. cond b (Ok (Some bytes.items)) (Err (limit name most))) (fits (length bytes.items) most h.1))

-- a file that is longer than its limit
long_is : (name : List ℕ) (most : ℕ) (path : List ℕ) (m : FileMap) → Tells m path most (Err TooLong)
    → Err (limit name most) ≡ bounded name most (content m path)
long_is name most path m h =
    sym (ap (bounded name most) h.1 ∙ ap (λ b. cond b (Ok (Some h.0)) (Err (limit name most))) (passes (length h.0) most h.2))

abbrev items : Option (Vec ℕ Global) → Option (List ℕ)
items found = option_map (λ v. v.items) found

module _ (name : List ℕ) (most : ℕ) (path : List ℕ) where
  -- the refusal of a file that isn't read is an answer
  pub read_refused : (m : FileMap) (refused : ReadRefused) (copied : Result (String Global) AllocError) (e : Refusal) → Tells m path most (Err refused)
      → IfOk copied (λ t. string_bytes t ≡ path) → IsReadRefusal name most copied refused e → Answers {T = Option (Vec ℕ Global)} items (Err e) (file_at name most path m)
  read_refused m TooLong copied e h same is = refused_by items (limit name most) e (file_at name most path m) is (long_is name most path m h)
  read_refused m Failed (Ok t) e h same is = rw is (tt, same)
  read_refused m Failed (Err x) e h same is = rw is (tt, tt)
  read_refused m NoMemoryToRead copied e h same is = rw is (tt, tt)

  -- and tells of a fault exactly where there was one
  pub read_cause : (before now : ℕ) (had last : Option (List ℕ)) (refused : ReadRefused) (copied : Result (String Global) AllocError) (e : Refusal)
      → ReadCause before now had last path (Err refused) → IfOk copied (λ t. string_bytes t ≡ path) → IsReadRefusal name most copied refused e
      → Cause {T = Option (Vec ℕ Global)} before now last (Err e)
  read_cause before now had last TooLong copied (Malformed file place) h same is = absurd (cc)
  read_cause before now had last TooLong copied (Limit named number) h same is = h.0
  read_cause before now had last TooLong copied (ReadFault failed) h same is = absurd is
  read_cause before now had last TooLong copied NoMemory h same is = absurd is
  read_cause before now had last Failed (Ok t) e h same is =
      rw is (h.0, h.1, λ p found. same ∙ sym (subst (λ o. IfSome o (λ q. q ≡ path)) found h.2))
  read_cause before now had last Failed (Err x) e h same is = rw is h.1
  read_cause before now had last NoMemoryToRead copied e h same is = rw is (omega (arith, h.0))
