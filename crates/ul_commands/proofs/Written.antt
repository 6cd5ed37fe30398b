-- What a merged lock is answered with tells the lock, if its markers are printable, and isn't a refused fork; and what a refused
-- fork is answered with is no lock.
use Rattle.std.proofs.Common.{◌≡◌, ℕ, List, Bool, true, false, length, Option, Some, None, Result, Ok, refl, subst, sym}
use Rattle.ul_lock.specs.declared.parts.Lock.{Lock}
use Rattle.ul_lock_write.specs.Markers.{first_over, markers_of}
use Rattle.ul_nodes.specs.Plain.{Plain}
use Rattle.ul_tree.specs.Paths.{is_printable}
use Rattle.ul_generations.specs.Generations.{leaves_are, refused_at, too_many}
use Rattle.ul_forks.specs.Headline.{TreeAnswer, TreeRefusal}
use Rattle.ul_inputs.specs.Refused.{Refused}
use Rattle.ul_inputs.specs.Resolutions.{ResolutionFields}
use Rattle.ul_answers.specs.Answer.{Answer, locked, no_selection, untold}
use Rattle.ul_commands.specs.Laws.{LocksArePrintable}
use Rattle.ul_commands.specs.Locking.{LocksFor, RefusedWhere, answer_where}
use Rattle.ul_commands.specs.Reasons.{DerivedWhere}
use Rattle.ul_commands.specs.Views.{IsAnswering}

-- two answers that are given for one thing are one
pub ok_same : (a b : Answer) → (let r : Result Answer Refused = Ok a in r) ≡ Ok b → a ≡ b
ok_same a b is = cc

-- ---- locks

-- a lock that is answered is the merged one
pub written_lock : (o : Option ℕ) (k l : Lock) (m n : ℕ) → (let a : Result Answer Refused = Ok (locked k m) in a) ≡ Ok (answer_where o l n) → k ≡ l
written_lock None k l m n e = cc
written_lock (Some paths) k l m n e = absurd (cc)

-- a merged lock is never answered with a refused fork
pub lock_not_refused : (o : Option ℕ) (l : Lock) (n : ℕ) (path : List Bool) (region : Plain) (core : List ℕ)
    → (let a : Result Answer Refused = Ok (no_selection path region core) in a) ≡ Ok (answer_where o l n) → ⊥
lock_not_refused None l n path region core e = absurd (cc)
lock_not_refused (Some paths) l n path region core e = absurd (cc)

-- nor with an untold one
pub lock_not_untold : (o : Option ℕ) (l : Lock) (n : ℕ) → (let a : Result Answer Refused = Ok untold in a) ≡ Ok (answer_where o l n) → ⊥
lock_not_untold None l n e = absurd (cc)
lock_not_untold (Some paths) l n e = absurd (cc)

-- nor with usage
pub lock_answering : (o : Option ℕ) (l : Lock) (n : ℕ) → IsAnswering (answer_where o l n)
lock_answering None l n = tt
lock_answering (Some paths) l n = tt

-- ---- refused forks

-- a refused fork isn't answered with a lock
pub fork_not_locked : (b : Bool) (r : ResolutionFields) (fork : TreeRefusal) (l : Lock) (n : ℕ) → RefusedWhere b r fork (Ok (locked l n)) → ⊥
fork_not_locked true r fork l n h = let bad = h.is in absurd (cc)
fork_not_locked false r fork l n h = absurd (cc)

region_same : (p q : List Bool) (t u : Plain) (xs ys : List ℕ) → (let a : Result Answer Refused = Ok (no_selection p t xs) in a) ≡ Ok (no_selection q u ys) → t ≡ u
region_same p q t u xs ys e = cc

-- the region that is told is the fork's
pub told_region : (b : Bool) (r : ResolutionFields) (fork : TreeRefusal) (path : List Bool) (region : Plain) (core : List ℕ)
    → RefusedWhere b r fork (Ok (no_selection path region core)) → region ≡ fork.region
told_region true r fork path region core h = region_same path fork.path region fork.region core h.lines h.is
told_region false r fork path region core h = absurd (cc)

-- nor is it answered with usage
pub fork_answering : (b : Bool) (r : ResolutionFields) (fork : TreeRefusal) (a : Answer) → RefusedWhere b r fork (Ok a) → IsAnswering a
fork_answering true r fork a h = subst IsAnswering (sym (ok_same a _ h.is)) tt
fork_answering false r fork a h = subst IsAnswering (sym (ok_same a untold h)) tt

-- nor with the lines of a derivation
pub reason_answering : (b : Bool) (r : ResolutionFields) (fork : TreeRefusal) (a : Answer) → DerivedWhere b r fork (Ok a) → IsAnswering a
reason_answering true r fork a h = subst IsAnswering (sym (ok_same a _ h.is)) tt
reason_answering false r fork a h = subst IsAnswering (sym (ok_same a untold h)) tt

-- ---- the markers of a lock

written_none : (o : Option ℕ) (k l : Lock) (m n : ℕ) → (let a : Result Answer Refused = Ok (locked k m) in a) ≡ Ok (answer_where o l n) → o ≡ None
written_none None k l m n e = refl
written_none (Some paths) k l m n e = absurd (cc)

printable_in : (r : ResolutionFields) (l : Lock) (forks : ℕ) (f : TreeAnswer) → LocksFor r f (Ok (locked l forks)) → first_over (markers_of l) ≡ None
printable_in r l forks (leaves_are ls) h =
    subst (λ k. first_over (markers_of k) ≡ None) (sym (written_lock (first_over (markers_of h.lock)) l h.lock forks (length ls) h.is))
    (written_none (first_over (markers_of h.lock)) l h.lock forks (length ls) h.is)
printable_in r l forks (refused_at fork) h = absurd (fork_not_locked (is_printable fork.region) r fork l forks h)
printable_in r l forks (too_many n) h = absurd (cc)

-- the markers of a lock that is answered are printable
pub locks_are_printable : LocksArePrintable
locks_are_printable r l forks h = printable_in r l forks h.forked h.locks
