-- What the program answers to a text, and the laws of texts.
use Rattle.std.proofs.Common.{◌≡◌, ℕ, List, true, false, sym, ap, subst, ◌∙◌, Result, Ok, Err}
use Rattle.ul_lines.specs.Lines.{lines_of}
use Rattle.ul_lines.specs.Faults.{IsFault}
use Rattle.ul_lines.specs.Reader.{read_text}
use Rattle.ul_lines.proofs.ForCallers.{one_fault as one_by, right_has_none}
use Rattle.ul_lock.specs.declared.parts.Lock.{Lock}
use Rattle.ul_lock_lines.specs.declared.lines.Edition.TheVariants.{First as one}
use Rattle.ul_lock_write.specs.declared.sheets.Sheet.{Sheet}
use Rattle.ul_lock_read.specs.declared.locks.LockFault.{LockFault}
use Rattle.ul_lock_read.specs.declared.locks.LockFault.TheVariants.{Line as LineAt, Root, Target, NoMemory}
use Rattle.ul_lock_read.specs.Answers.{IsWell, LacksTarget, Judged}
use Rattle.ul_lock_read.specs.Automaton.{lock_reader}
use Rattle.ul_lock_read.specs.Headline.{ReadsLock}
use Rattle.ul_lock_read.specs.Laws.{OneTextOneLock, TextIsLocks, FirstVersion, OneFault}
use Rattle.ul_lock.specs.Targets.{has_one_root, all_lead_on}
use Rattle.ul_lock_write.specs.Texts.{sheet_in, lock_of}
use Rattle.ul_lock_read.specs.ShapedTexts.{AreShaped}
use Rattle.ul_lock_read.specs.TextOf.{IsTextOf}
use Rattle.ul_lock_read.proofs.Forms.{readable, well_formed, text_of, second_text}
use Rattle.ul_lock_write.proofs.ForCallers.{lock_readable}
use Rattle.ul_lock_read.proofs.WithoutTargets.{some_without_target}
use Rattle.ul_lock_read.proofs.WholeTexts.{text_taken, text_again, text_fault}

abbrev ok : Sheet → Result Sheet ℕ
ok x = Ok x

ok_is : (x y : Sheet) → ok x ≡ ok y → x ≡ y
ok_is x y e = cc

no_ok : (n : ℕ) (x : Sheet) → Err n ≡ ok x → ⊥
no_ok n x e = cc

-- a lock's text is read as the lock's sheet
read_of : (text : List ℕ) (l : Lock) (t : IsTextOf text l) → read_text lock_reader text ≡ ok (sheet_in t.edition l)
read_of text l t = ap (read_text lock_reader) (sym t.same) ∙ text_again (sheet_in t.edition l) (text_of text l t)

same_sheet : (text : List ℕ) (x : Sheet) (l : Lock) (t : IsTextOf text l) → read_text lock_reader text ≡ ok x → x ≡ sheet_in t.edition l
same_sheet text x l t e = ok_is x (sheet_in t.edition l) (sym e ∙ read_of text l t)

-- ---- reading

pub by_line : (text : List ℕ) (n : ℕ) → read_text lock_reader text ≡ Err n → ReadsLock text (Err (LineAt n))
by_line text n e = record {
  found = tt;
  only = λ l t. absurd (no_ok n (sheet_in t.edition l) (sym e ∙ read_of text l t));
  line = λ k q. let h : n ≡ k = cc in subst (λ z. IsFault AreShaped (lines_of text) z) h (text_fault text n e);
  root = λ q. absurd cc;
  target = λ k q. absurd cc;
}

pub by_memory : (text : List ℕ) → ReadsLock text (Err NoMemory)
by_memory text = record { found = tt; only = λ l t. tt; line = λ k q. absurd cc; root = λ q. absurd cc; target = λ k q. absurd cc }

root_of : (text : List ℕ) (x : Sheet) (l : Lock) (t : IsTextOf text l) → read_text lock_reader text ≡ ok x → has_one_root x.head.root x.packages ≡ true
root_of text x l t e = subst (λ (y : Sheet). has_one_root y.head.root y.packages ≡ true) (sym (same_sheet text x l t e)) t.well_formed.one_root

targets_of : (text : List ℕ) (x : Sheet) (l : Lock) (t : IsTextOf text l) → read_text lock_reader text ≡ ok x → all_lead_on x.packages ≡ true
targets_of text x l t e = subst (λ (y : Sheet). all_lead_on y.packages ≡ true) (sym (same_sheet text x l t e)) t.well_formed.targets

by_root : (text : List ℕ) (x : Sheet) → read_text lock_reader text ≡ ok x → has_one_root x.head.root x.packages ≡ false → ReadsLock text (Err Root)
by_root text x e h =
    let k = text_taken text x e in
    record {
      found = tt;
      only = λ l t. let w : true ≡ false = sym (root_of text x l t e) ∙ h in absurd cc;
      line = λ n q. absurd cc;
      root = λ q. (x, k.0, k.1, h);
      target = λ n q. absurd cc;
    }

by_target : (text : List ℕ) (x : Sheet) (n : ℕ) → read_text lock_reader text ≡ ok x → LacksTarget x n → ReadsLock text (Err (Target n))
by_target text x n e h =
    let k = text_taken text x e in
    record {
      found = tt;
      only = λ l t. absurd (some_without_target x.packages n (targets_of text x l t e) h.target);
      line = λ m q. absurd cc;
      root = λ q. absurd cc;
      target = λ m q. let s : n ≡ m = cc in (x, k.0, k.1, subst (λ z. LacksTarget x z) s h);
    }

by_lock : (text : List ℕ) (x : Sheet) → read_text lock_reader text ≡ ok x → IsWell x → ReadsLock text (Ok (lock_of x))
by_lock text x e w =
    let k = text_taken text x e in
    record {
      found = record { edition = x.head.edition; allowed = k.0.shaped.allowed; well_formed = well_formed x k.0 w; readable = readable x k.0; same = k.1 };
      only = λ l t. ap lock_of (same_sheet text x l t e);
      line = λ n q. absurd cc;
      root = λ q. absurd cc;
      target = λ n q. absurd cc;
    }

pub by_sheet : (text : List ℕ) (x : Sheet) (r : Result Lock LockFault) → read_text lock_reader text ≡ Ok x → Judged r x → ReadsLock text r
by_sheet text x (Ok l) e j = subst (λ z. ReadsLock text (Ok z)) (sym j.1) (by_lock text x e j.0)
by_sheet text x (Err (LineAt n)) e j = absurd j
by_sheet text x (Err Root) e j = by_root text x e j
by_sheet text x (Err (Target n)) e j = by_target text x n e j
by_sheet text x (Err NoMemory) e j = absurd j

-- ---- laws

pub one_lock : OneTextOneLock
one_lock text l m t u = ap lock_of (ok_is (sheet_in t.edition l) (sheet_in u.edition m) (sym (read_of text l t) ∙ read_of text m u))

pub text_is_locks : TextIsLocks
text_is_locks l h n = second_text l h (lock_readable l n)

pub first_version : FirstVersion
first_version text l h =
    let t : IsTextOf text l = record { edition = one; allowed = h.2; well_formed = h.0; readable = h.1; same = h.3 } in
    record { is_text = t; second = second_text l h.0 h.1; alone = λ m u. one_lock text m l u t }

pub faults_once : OneFault
faults_once = record {
  once = λ ls m n f g. one_by AreShaped ls m n f g;
  none = λ ls n h f. right_has_none AreShaped ls n h f;
}
