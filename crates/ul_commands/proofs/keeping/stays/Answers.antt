use Rattle.ul_inputs.specs.Resolutions.{view}
use Rattle.ul_commands.proofs.Relocked.{stays_where}
use Rattle.ul_commands.proofs.keeping.stays.Goals as goal

pub returns : goal.returns
returns g c =
    stays_where (view c.args.resolution.now) c.args.lock.now c.refresh.new.lock c.in_ok-is_verified.field-0 c.in_ok-lists_no_other.field-0
    c.in_ok-fits.fits c.in_ok-is_verified.ensures c.if-not-branch.false c.in_ok-lists_no_other.ensures c.if-not-branch-2.false
    c.in_ok-refresh.ensures c.in_ok-fits.ensures
