use Rattle.ul_marker.proofs.Valid.{answer-formula, tokens-tokens}
use Rattle.ul_marker.specs.declared.reading.Chain.TheVariants.{Disjunction}
use Rattle.ul_marker.proofs.reading.read_dialect.Goals as goal

pub returns-clause-valid : goal.returns-clause-valid
returns-clause-valid c =
    answer-formula c.read_chain.result Disjunction _ c.as_slice-2.result.now
    (rw c.as_slice-2.ensures.value (tokens-tokens c.before_space.result.now c.in_ok-tokens.tokens.items c.in_ok-tokens.ensures))
    c.read_chain.ensures
