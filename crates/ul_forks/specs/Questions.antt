-- What a question of the code asks.
use Rattle.std.specs.Prelude.{◌≡◌}
use Rattle.ul_prepared.specs.Prepared.{IsPrepared}
use Rattle.ul_prepared.specs.Project.{IsProjectOf}
use Rattle.ul_prepared.specs.declared.prepared.Prepared.{Prepared}
use Rattle.ul_region.specs.Truths.{PassView}
use Rattle.ul_forks.specs.Outcome as outcomes
use Rattle.ul_forks.specs.Outcome.{starts_of}
use Rattle.ul_forks.specs.Forked.{question_of}
use Rattle.ul_forks.specs.declared.question.Question.{Question}

-- what is resolved
abbrev pub view : Question → outcomes.Question
view q = question_of q.catalog.now q.extras.now q.wish.now

-- the catalog begins with the project, and the nodes are its base and the extras
pub record IsQuestion (q : Question) : Type 0 where
  pub starts : q.starts.now ≡ starts_of (view q)
  pub project : IsProjectOf q.catalog.now q.starts.now

-- what all regions share is right, for the question
pub record IsReadyFor (h : PassView) (q : Question) (shared : Prepared) : Type 0 where
  pub prepared : IsPrepared h shared
  pub catalog : shared.catalog.now ≡ q.catalog.now
  pub starts : shared.starts.now ≡ q.starts.now
  pub wish : shared.wish.now ≡ q.wish.now
