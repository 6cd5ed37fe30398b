-- What all regions share for a question is what they share for its parts.
use Rattle.std.proofs.Common.{◌≡◌, ◌∙◌, ap, sym, subst}
use Rattle.ul_interner.specs.Known.{Knows}
use Rattle.ul_prepared.specs.Prepared.{IsPrepared}
use Rattle.ul_prepared.specs.Project.{IsProjectOf}
use Rattle.ul_prepared.specs.declared.prepared.Prepared.{Prepared}
use Rattle.ul_prepared.proofs.ForCallers.{prepared_still}
use Rattle.ul_region.specs.Truths.{PassView}
use Rattle.ul_forks.specs.Forked.{question_of}
use Rattle.ul_forks.specs.Judge.{IsReady, question_with}
use Rattle.ul_forks.specs.Outcome.{starts_of}
use Rattle.ul_forks.specs.Questions.{IsQuestion, IsReadyFor, view}
use Rattle.ul_forks.specs.declared.question.Question.{Question}

-- by what all regions share the question is the same
pub same_question : (h : PassView) (q : Question) (p : Prepared) → IsReadyFor h q p → question_with p q.extras.now ≡ view q
same_question h q p ready = ap (λ c. question_of c q.extras.now p.wish.now) ready.catalog ∙ ap (λ w. question_of q.catalog.now q.extras.now w) ready.wish

-- so it is right for the question's extras
pub ready_with : (h : PassView) (q : Question) (p : Prepared) → IsQuestion q → IsReadyFor h q p → IsReady h p q.extras.now
ready_with h q p is ready = record {
  prepared = ready.prepared;
  starts = ready.starts ∙ is.starts ∙ ap starts_of (sym (same_question h q p ready));
  project = subst (λ c. IsProjectOf c p.starts.now) (sym ready.catalog) (subst (IsProjectOf q.catalog.now) (sym ready.starts) is.project);
}

-- it is right by its parts
pub shared_by : (h : PassView) (q : Question) (p : Prepared) → IsPrepared h p → p.catalog.now ≡ q.catalog.now → p.starts.now ≡ q.starts.now
    → p.wish.now ≡ q.wish.now → IsReadyFor h q p
shared_by h q p prepared catalog starts wish = record { prepared = prepared; catalog = catalog; starts = starts; wish = wish }

-- and stays right where more is known
pub ready_then : (g h : PassView) (q : Question) (p : Prepared) → Knows g h → IsReadyFor g q p → IsReadyFor h q p
ready_then g h q p more ready =
    record { prepared = prepared_still g h p more ready.prepared; catalog = ready.catalog; starts = ready.starts; wish = ready.wish }
