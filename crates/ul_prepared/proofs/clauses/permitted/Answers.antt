use Rattle.std.proofs.Common.{List, ap, map, ◌∙◌}
use Rattle.ul_specifier.specs.Clauses.{ClauseFields}
use Rattle.ul_specifier.specs.Meaning.{meets_list}
use Rattle.ul_prepared.proofs.Loops.{made_equal}
use Rattle.ul_prepared.proofs.clauses.permitted.Goals as goal

pub returns : goal.returns
returns c = made_equal c.clauses_set.result _ _ c.clauses_set.ensures
    (ap (λ (z : List ClauseFields). map (meets_list z) c.args.versions.now) (c.as_slice.ensures.value ∙ c.specifiers.view_is))
