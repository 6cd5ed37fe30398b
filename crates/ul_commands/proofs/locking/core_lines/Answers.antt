use Rattle.std.proofs.Common.{◌∙◌, ap, List, subst}
use Rattle.std.specs.Prelude.{Contains}
use Rattle.ul_blame.specs.Texts.{core_text}
use Rattle.ul_blame.specs.declared.needs.CoreNeed.{CoreNeed}
use Rattle.ul_commands.proofs.locking.core_lines.Goals as goal

pub lines-requires : goal.lines-requires
lines-requires c =
    λ x i. c.core_laws.ensures.among c.args.problem.now c.in_ok-core.core.items x c.in_ok-core.ensures (subst (λ (l : List CoreNeed). Contains l x) c.as_slice.ensures.value i)

pub returns : goal.returns
returns c =
    record { core = c.in_ok-core.core.items; is_core = c.in_ok-core.ensures; are = c.in_ok-text.ensures ∙ ap (core_text c.args.problem.now) c.as_slice.ensures.value }
