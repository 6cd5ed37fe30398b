use Rattle.std.proofs.Common.{List, ap, map}
use Rattle.ul_version.specs.Fields.{Fields}
use Rattle.ul_specifier.specs.Meaning.{meets_list}
use Rattle.ul_prepared.proofs.Loops.{made_equal}
use Rattle.ul_prepared.proofs.permitted.permitted_of.Goals as goal

pub returns : goal.returns
returns c = made_equal c.permitted.result _ _ c.permitted.ensures (ap (λ (vs : List Fields). map (meets_list c.args.specifiers.now) vs) c.as_slice.ensures)
