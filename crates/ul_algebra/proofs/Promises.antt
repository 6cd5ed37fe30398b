-- The promises of diagrams.
use Rattle.std.proofs.Common.{◌≡◌, ◌↔◌, ℕ, suc, ◌+◌, ap, sym, ◌∙◌, subst, arith}
use Rattle.ul_interner.specs.Headline.{InternerPromises}
use Rattle.ul_interner.specs.Known.{Held}
use Rattle.ul_interner.specs.Logs.{AreSeen}
use Rattle.ul_interner.specs.Marked.{id_of}
use Rattle.ul_nodes.specs.Apply.{size}
use Rattle.ul_nodes.specs.Plain.{Plain}
use Rattle.ul_nodes.specs.Reduced.{IsReduced}
use Rattle.ul_tree.specs.Values.{tree_holds}
use Rattle.ul_tree.proofs.ForCallers.{one_truth_one_tree, operations, simplify_laws}
use Rattle.ul_algebra.specs.declared.labels.DiagramLabel.{DiagramLabel}
use Rattle.ul_algebra.specs.Answers.{IsDiagram}
use Rattle.ul_algebra.specs.Hashes.{label_hash}
use Rattle.ul_algebra.specs.Headline.{DiagramPromises}
use Rattle.ul_algebra.specs.Joinings.{truth_of}
use Rattle.ul_algebra.specs.Made.{Seen}
use Rattle.ul_algebra.specs.Spelled.{spells, tree_of}
use Rattle.ul_algebra.proofs.Decoded.{same_plant}
use Rattle.ul_algebra.proofs.Kept.{diagram_stays}

one_tree : InternerPromises label_hash → (shards : ℕ) (h : Held DiagramLabel) (a b : Seen) → AreSeen label_hash shards h.logs → IsDiagram h a → IsDiagram h b → (id_of a ≡ id_of b) ↔ (tree_of a ≡ tree_of b)
one_tree i shards h a b seen da db =
    let one = i.one_identity shards h a b seen da.known db.known in
    ((λ e. ap spells (one.0 e)), λ e. one.1 (same_plant a b da.reduced e))

pub diagram_promises : InternerPromises label_hash → DiagramPromises
diagram_promises i = record {
  one_identity = λ shards h a b seen da db.
      let one = one_tree i shards h a b seen da db in (
        (λ e w x iw ix. ap (λ t. tree_holds t w x) (one.0 e)),
        λ f. one.1 (one_truth_one_tree (tree_of a) (tree_of b) da.reduced db.reduced (λ w x iw ascii ix. f w x iw ix)),
      );
  one_tree = one_tree i;
  stays = λ g h d more k. diagram_stays g h d more k;
  one_join = λ op a b d e p q. let n = suc (size (tree_of a) + size (tree_of b)) in p n (omega arith) ∙ sym (q n (omega arith));
  join_reduced = λ op a b d ra rb p. subst (λ (z : Plain). IsReduced z) (sym (p (suc (size (tree_of a) + size (tree_of b))) (omega arith))) (operations.join_reduced (truth_of op) (tree_of a) (tree_of b) ra rb);
  join_truth = λ op a b d ra rb p w x. ap (λ t. tree_holds t w x) (p (suc (size (tree_of a) + size (tree_of b))) (omega arith)) ∙ operations.join_truth (truth_of op) (tree_of a) (tree_of b) ra rb w x;
  one_result = λ f c s t p q. simplify_laws.one_result (tree_of f) (tree_of c) (tree_of s) (tree_of t) p q;
}
