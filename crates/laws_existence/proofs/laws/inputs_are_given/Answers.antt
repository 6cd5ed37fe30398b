use Rattle.laws_existence.proofs.Given.{inputs_are_given as law}
use Rattle.laws_existence.proofs.laws.inputs_are_given.Goals as goal

pub returns : goal.returns
returns c =
    law
    (record {
      reads = c.reading_is_grammar.ensures.formula;
      trees = c.truth_trees.ensures;
      decide = c.regions_decide.ensures;
    })
    c.loading_ends.ensures c.sample_holds.ensures
