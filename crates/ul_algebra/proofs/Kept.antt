-- The answers that are kept.
use Rattle.std.specs.Prelude.{IfOk, IfSome}
use Rattle.std.specs.Option.{option_copied}
use Rattle.std.specs.declared.alloc.AllocError.{AllocError}
use Rattle.std.proofs.Common.{Bor, Ok, Err, Result, ◌≡◌, ℕ, Bool, true, false, cond, Some, None, Option, refl, ap, sym, ◌∙◌, subst, rules}
use Rattle.ul_base.proofs.ForCallers.{made_holds}
use Rattle.ul_core.specs.declared.trees.Tree.{Tree}
use Rattle.ul_interner.specs.Marked.{plain, id_of}
use Rattle.ul_interner.specs.Known.{Held, Known, Knows, tree_at}
use Rattle.ul_interner.proofs.ForCallers.{known_here, stays, known_stays}
use Rattle.ul_nodes.specs.Plain.{Plain}
use Rattle.ul_algebra.specs.declared.labels.DiagramLabel.{DiagramLabel}
use Rattle.ul_algebra.specs.declared.questions.Question.{Question}
use Rattle.ul_algebra.specs.Spelled.{spells, tree_of}
use Rattle.ul_nodes.specs.Reduced.{IsReduced}
use Rattle.ul_algebra.specs.Answers.{IsAnswer, Answer, IsDiagram, IsKeptTruth}
use Rattle.ul_algebra.specs.Made.{OwnKnown}
use Rattle.ul_algebra.specs.Made.{Seen}
use Rattle.ul_algebra.specs.contracts.questions.QuestionPartialEq.TheImpl.{eq-value}

-- an answer stays one where more is known
pub kept : (g h : Held DiagramLabel) (q : Question) (r : Seen) → Knows g h → Answer g q r → Answer h q r
kept g h q r more a = record {
  left = a.left;
  right = a.right;
  left_there = stays g h q.left a.left more a.left_there;
  right_there = stays g h q.right a.right more a.right_there;
  known = known_stays g h more r a.known;
  answer = a.answer;
}

some_tree : (s t : Tree DiagramLabel) → Some s ≡ Some t → s ≡ t
some_tree s t e = cc

stands_for : (h : Held DiagramLabel) (i : ℕ × ℕ) (t : Tree DiagramLabel) (m : Seen) → Known h m → i ≡ id_of m → tree_at h i ≡ Some t → spells t ≡ tree_of m
stands_for h i t m k e s = ap spells (some_tree t (plain m) (sym s ∙ ap (tree_at h) e ∙ known_here h m k))

-- the answer to a question about two marks that are known
pub answered : (h : Held DiagramLabel) (q : Question) (a b r : Seen) → Known h a → Known h b → q.left ≡ id_of a → q.right ≡ id_of b → Answer h q r → IsAnswer q.operation (tree_of a) (tree_of b) (tree_of r)
answered h q a b r ka kb p s x =
    subst (λ (z : Plain). IsAnswer q.operation z (tree_of b) (tree_of r)) (stands_for h q.left x.left a ka p x.left_there)
    (subst (λ (z : Plain). IsAnswer q.operation (spells x.left) z (tree_of r)) (stands_for h q.right x.right b kb s x.right_there) x.answer)

-- an answer that is found
pub asked : (h : Held DiagramLabel) (q : Question) (a b r : Seen) → Known h a → Known h b → Known h r → q.left ≡ id_of a → q.right ≡ id_of b → IsAnswer q.operation (tree_of a) (tree_of b) (tree_of r) → Answer h q r
asked h q a b r ka kb kr p s x = record {
  left = plain a;
  right = plain b;
  left_there = ap (tree_at h) p ∙ known_here h a ka;
  right_there = ap (tree_at h) s ∙ known_here h b kb;
  known = kr;
  answer = x;
}

-- the test of questions
pub one_question : (p q : Question) → eq-value.it p q ≡ true → p ≡ q
one_question p q h = search rules

-- what is kept is there at its question, and what was there at others
pub put : (p q : Question) (b : Bool) (v r : Seen) (old : Option Seen) (P : Question → Seen → Type 0) → (b ≡ true → p ≡ q) → P p v → (old ≡ Some r → P q r) → cond b (Some v) old ≡ Some r → P q r
put p q true v r old P same new before e = subst (λ z. P z r) (same refl) (subst (λ z. P p z) (one v r e) new)
  where
    one : (v r : Seen) → Some v ≡ Some r → v ≡ r
    one v r e = cc
put p q false v r old P same new before e = before e

-- what holds of a mark that is made
pub made_then : (r : Result Seen AllocError) (P Q : Seen → Type 0) → ((m : Seen) → P m → Q m) → IfOk r P → IfOk r Q
made_then (Ok m) P Q f p = f m p
made_then (Err e) P Q f p = tt

-- what is said of a value that was looked up
pub found_in : (o : Option (Bor Seen)) (P : Seen → Type 0) (x : Option Seen) → option_copied o ≡ x → ((r : Seen) → x ≡ Some r → P r) → IfSome o (λ d. P d.now)
found_in None P x e f = tt
found_in (Some d) P x e f = f d.now (sym e)

-- ---- diagrams where more is known

-- a diagram is one where more is known
pub diagram_stays : (g h : Held DiagramLabel) (m : Seen) → Knows g h → IsDiagram g m → IsDiagram h m
diagram_stays g h m more d = record { known = known_stays g h more m d.known; reduced = d.reduced }

-- a part of a diagram
pub part_diagram : (g h : Held DiagramLabel) (m p : Seen) (t : Plain) → Knows g h → IsDiagram g m → ((k : Held DiagramLabel) → Known k m → Known k p) → tree_of p ≡ t → IsReduced t → IsDiagram h p
part_diagram g h m p t more d f e r = record { known = f h (known_stays g h more m d.known); reduced = subst (λ (z : Plain). IsReduced z) (sym e) r }

-- what holds of a mark holds of another handle on it
pub if_share : (r : Result Seen AllocError) (m : Seen) (P : Seen → Type 0) → IfOk r (λ d. d ≡ m) → P m → IfOk r P
if_share (Ok d) m P e p = subst P (sym e) p
if_share (Err e) m P q p = tt

-- what holds of a mark that is made holds of it where it was handed on
pub if_handed : (made r : Result Seen AllocError) (P : Seen → Type 0) → IfOk r (λ d. made ≡ Ok d) → IfOk made P → IfOk r P
if_handed made (Ok d) P e p = made_holds made d P e p
if_handed made (Err e) P q p = tt

-- two facts of a mark that is made
pub made_both : (r : Result Seen AllocError) (P Q R : Seen → Type 0) → ((m : Seen) → P m → Q m → R m) → IfOk r P → IfOk r Q → IfOk r R
made_both (Ok m) P Q R f p q = f m p q
made_both (Err e) P Q R f p q = tt

-- a result that is known is known where more is known
pub own_more : (g h : Held DiagramLabel) → Knows g h → (o : Option Seen) → OwnKnown g o → OwnKnown h o
own_more g h more None k = tt
own_more g h more (Some m) k = known_stays g h more m k

-- a truth that is kept stays so where more is known
pub truth_kept : (g h : Held DiagramLabel) (value : Bool) (o : Option Seen) → Knows g h → IsKeptTruth g value o → IsKeptTruth h value o
truth_kept g h value None more k = tt
truth_kept g h value (Some m) more k = (known_stays g h more m k.0, k.1)
