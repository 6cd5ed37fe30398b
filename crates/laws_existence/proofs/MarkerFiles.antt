-- What `marker` answers to a file that is given.
use Rattle.std.proofs.Common.{ℕ, List, [], Result, refl}
use Rattle.ul_inputs.specs.Refused.{Refused}
use Rattle.ul_answers.specs.Answer.{Answer}
use Rattle.ul_canonical.proofs.ForCallers.{canonical_exists}
use Rattle.ul_commands.specs.Markers.{IsMarkerAnswer, answer_of}
use Rattle.laws_trees.specs.Trees.{TruthTrees}

-- `marker` answers: each formula that is read has a tree
pub marker_answered : TruthTrees → (path bytes : List ℕ) → (a : Result Answer Refused) × IsMarkerAnswer path bytes a
marker_answered trees path bytes =
    let found = canonical_exists (λ f is. trees.marker f [] is) bytes in
    (answer_of path found.0, record { texts = found.0; canonical = found.1; is = refl })
