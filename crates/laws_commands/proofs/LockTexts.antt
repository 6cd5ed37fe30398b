-- A text is at most one lock's, or has at most one fault.
use Rattle.std.proofs.Common.{◌≡◌, ◌∙◌, ℕ, ◌+◌, List, [], ◌∷◌, Bool, true, false, cond, Some, Result, Ok, Err, refl, sym, ap, subst}
use Rattle.std.specs.Prelude.{not}
use Rattle.std.specs.List.{list_all, position_from}
use Rattle.std.specs.Cmp.{first_so, second_so}
use Rattle.ul_lines.specs.Faults.{IsFault}
use Rattle.ul_lines.specs.Lines.{lines_of}
use Rattle.ul_lock.specs.declared.parts.Lock.{Lock}
use Rattle.ul_lock_write.specs.declared.sheets.Sheet.{Sheet}
use Rattle.ul_lock_write.specs.Texts.{sheet_in, sheet_text}
use Rattle.ul_lock.specs.Targets.{all_lead_on, first_without_target, has_one_root, package_leads_on}
use Rattle.ul_lock_read.specs.Headline.{LacksRoot, TextLacksTarget}
use Rattle.ul_lock_read.specs.Laws.{OneFault, OneTextOneLock}
use Rattle.ul_lock_read.specs.ShapedTexts.{AreShaped, IsText}
use Rattle.ul_lock_read.specs.TextOf.{IsTextOf}
use Rattle.ul_inputs.specs.Refused.{Refused, malformed}
use Rattle.ul_inputs.specs.Locks.{HasLockFault, IsLockOf, LockFault, fault_text, line, root, target}
use Rattle.ul_lock_read.proofs.ForCallers.{one_text, text_of}
use Rattle.laws_commands.proofs.SheetTexts.{shaped_lines}

-- where each passes, none is the first that doesn't
none_of : {A : Type 0} (p : A → Bool) (n k : ℕ) (xs : List A) → list_all p xs ≡ true → position_from (λ x. not (p x)) n xs ≡ Some k → ⊥
none_of p n k [] h e = absurd cc
none_of p n k (x ∷ xs) h e =
    none_of p (n + 1) k xs (second_so _ _ h)
    (ap (λ b. cond (not b) (Some n) (position_from (λ x. not (p x)) (n + 1) xs)) (sym (first_so _ _ h)) ∙ e)

true_or_false : (b : Bool) → b ≡ true → b ≡ false → ⊥
true_or_false b h k = let both : true ≡ false = sym h ∙ k in cc

some_same : (j k : ℕ) → Some j ≡ Some k → j ≡ k
some_same j k e = cc

-- a sheet whose text this is
record HasSheet (text : List ℕ) (x : Sheet) : Type 0 where
  is_text : IsText x
  same : sheet_text x ≡ text

one_with : (text : List ℕ) (x y : Sheet) → HasSheet text x → HasSheet text y → x ≡ y
one_with text x y h k = one_text x y h.is_text k.is_text (h.same ∙ sym k.same)

of_lock : (text : List ℕ) (l : Lock) (t : IsTextOf text l) → HasSheet text (sheet_in t.edition l)
of_lock text l t = record { is_text = text_of text l t; same = t.same }

of_root : (text : List ℕ) (h : LacksRoot text) → HasSheet text h.0
of_root text h = record { is_text = h.1; same = h.2 }

of_target : (text : List ℕ) (k : ℕ) (h : TextLacksTarget text k) → HasSheet text h.0
of_target text k h = record { is_text = h.1; same = h.2 }

-- a text with a sheet has no wrong line
no_line : OneFault → (text : List ℕ) (x : Sheet) (n : ℕ) → HasSheet text x → IsFault AreShaped (lines_of text) n → ⊥
no_line faults text x n h f = faults.none (lines_of text) n (shaped_lines text x h.is_text h.same) f

-- a sheet with one root doesn't lack it
no_root : (text : List ℕ) (x : Sheet) → HasSheet text x → has_one_root x.head.root x.packages ≡ true → LacksRoot text → ⊥
no_root text x h one f =
    let same : x ≡ f.0 = one_with text x f.0 h (of_root text f) in
    true_or_false _ (subst (λ (y : Sheet). has_one_root y.head.root y.packages ≡ true) same one) f.3

-- the text of a lock has no fault
sound_text : OneFault → (text : List ℕ) (l : Lock) → IsTextOf text l → (f : LockFault) → HasLockFault text f → ⊥
sound_text faults text l t (line n) f = no_line faults text (sheet_in t.edition l) n (of_lock text l t) f
sound_text faults text l t root f = no_root text (sheet_in t.edition l) (of_lock text l t) t.well_formed.one_root f
sound_text faults text l t (target k) f =
    let same : sheet_in t.edition l ≡ f.0 = one_with text (sheet_in t.edition l) f.0 (of_lock text l t) (of_target text k f) in
    let leads : all_lead_on f.0.packages ≡ true = subst (λ (y : Sheet). all_lead_on y.packages ≡ true) same t.well_formed.targets in
    none_of (package_leads_on f.0.packages) 0 k f.0.packages leads f.3.target

one_target : (text : List ℕ) (j k : ℕ) → TextLacksTarget text j → TextLacksTarget text k → j ≡ k
one_target text j k g h =
    let same : g.0 ≡ h.0 = one_with text g.0 h.0 (of_target text j g) (of_target text k h) in
    some_same j k (sym g.3.target ∙ (ap (λ (y : Sheet). first_without_target y.packages) same ∙ h.3.target))

-- a text has at most one fault
fault_once : OneFault → (text : List ℕ) (e f : LockFault) → HasLockFault text e → HasLockFault text f → e ≡ f
fault_once faults text (line m) (line n) g h = ap line (faults.once (lines_of text) m n g h)
fault_once faults text (line m) root g h = absurd (no_line faults text h.0 m (of_root text h) g)
fault_once faults text (line m) (target k) g h = absurd (no_line faults text h.0 m (of_target text k h) g)
fault_once faults text root (line n) g h = absurd (no_line faults text g.0 n (of_root text g) h)
fault_once faults text root root g h = refl
fault_once faults text root (target k) g h = absurd (no_root text h.0 (of_target text k h) h.3.root g)
fault_once faults text (target j) (line n) g h = absurd (no_line faults text g.0 n (of_target text j g) h)
fault_once faults text (target j) root g h = absurd (no_root text g.0 (of_target text j g) g.3.root h)
fault_once faults text (target j) (target k) g h = ap target (one_target text j k g h)

lock_ok : (l k : Lock) → l ≡ k → (let r : Result Lock Refused = Ok l in r) ≡ Ok k
lock_ok l k e = cc

lock_err : (e f : Refused) → e ≡ f → (let r : Result Lock Refused = Err e in r) ≡ Err f
lock_err e f h = cc

-- a text is at most one lock's, or has at most one fault
pub lock_once : OneTextOneLock → OneFault → (path text : List ℕ) (a b : Result Lock Refused) → IsLockOf path text a → IsLockOf path text b → a ≡ b
lock_once locks faults path text (Ok l) (Ok k) g h = lock_ok l k (locks text l k g h)
lock_once locks faults path text (Ok l) (Err f) g h = absurd (sound_text faults text l g h.fault h.has)
lock_once locks faults path text (Err e) (Ok k) g h = absurd (sound_text faults text k h g.fault g.has)
lock_once locks faults path text (Err e) (Err f) g h =
    let same = fault_once faults text g.fault h.fault g.has h.has in
    lock_err e f (g.is ∙ (ap (λ x. malformed path (fault_text x)) same ∙ sym h.is))
