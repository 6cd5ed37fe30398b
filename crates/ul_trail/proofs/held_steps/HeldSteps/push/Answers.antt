use Rattle.ul_trail.proofs.Reading.{numbered_held}
use Rattle.ul_trail.proofs.held_steps.HeldSteps.push.Goals as goal

pub returns : goal.returns
returns c = numbered_held c.args.step c.args.self.now (record { places = c.push.new.self; others = c.number_of.new.others }) c.in_ok-number.number c.in_ok-number.ensures c.in_ok-push.ensures.items
