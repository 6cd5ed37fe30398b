use Rattle.std.proofs.Common.{rules, ◌∙◌}
use Rattle.std.specs.Prelude.{string_bytes}
use Rattle.ul_gen.proofs.Written.{condition_written}
use Rattle.ul_gen.proofs.projects.put_condition.Goals as goal

pub returns : goal.returns
returns c = search rules ∙ condition_written (string_bytes c.args.text.now) c.args.condition.now c.args.k
