use Rattle.std.proofs.Common.{refl}
use Rattle.ul_marker.proofs.Told.{not_interpreter}
use Rattle.ul_marker.proofs.printed.python_comparison.Goals as goal

pub returns-in_err-python-clause-none : goal.returns-in_err-python-clause-none
returns-in_err-python-clause-none c _ = rw (← c.clause.view_is) (not_interpreter c.args.full _ (c.in_err-python.ensures.none refl))
