use Rattle.std.proofs.Common.{ap, sym, ◌∙◌}
use Rattle.std.specs.Simd.Lanes.{zip2}
use Rattle.ul_ranges.specs.Operations.{word_by}
use Rattle.ul_ranges.specs.declared.words.Operation.{Operation}
use Rattle.ul_ranges.proofs.WordLaws.{less_lanes}
use Rattle.ul_ranges.proofs.words.lanes_by.Goals as goal
use Rattle.ul_ranges.proofs.words.lanes_by.Goals.{in-Meet, in-Join, in-Less}

pub returns : goal.returns
returns c = elim c.match-operation.branch [
  | in-Meet w ↦ w.result-is ∙ ap (λ (o : Operation). zip2 (word_by o) c.args.x c.args.y) (sym w.in-Meet.is)
  | in-Join w ↦ w.result-is ∙ ap (λ (o : Operation). zip2 (word_by o) c.args.x c.args.y) (sym w.in-Join.is)
  | in-Less w ↦ w.result-is ∙ less_lanes c.args.x c.args.y ∙ ap (λ (o : Operation). zip2 (word_by o) c.args.x c.args.y) (sym w.in-Less.is)
]
