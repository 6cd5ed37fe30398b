use Rattle.std.proofs.Common.{Ok, subst, sym}
use Rattle.ul_inputs.specs.Resolutions.{view}
use Rattle.ul_region.proofs.ForCallers.{truth_still}
use Rattle.ul_commands.specs.Wanted.{IsAnswerFor}
use Rattle.ul_commands.proofs.Mergeable.{refused_not_false}
use Rattle.ul_commands.proofs.Replies.{refused_answered}
use Rattle.ul_commands.proofs.resolving.answer_of_refused.Goals as goal

pub region_in-requires-clause-some : goal.region_in-requires-clause-some
region_in-requires-clause-some g c =
    refused_not_false c.fork_laws.ensures c.has_world.ensures c.no_extra.ensures (view c.args.resolution.now) c.args.algebra.now _ c.args.region.now c.args.derivation.now c.requires.resolution c.requires.forks

pub region_in-requires-clause-region : goal.region_in-requires-clause-region
region_in-requires-clause-region g c =
    truth_still c.args.algebra.now c.lines_at.new.algebra c.args.region.now _ c.lines_at.ensures.knows c.requires.forks.known.0
