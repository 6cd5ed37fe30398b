use Rattle.ul_requirement.proofs.Examples.{addresses, may_be_true, no_addresses, no_readings, readings, truths}
use Rattle.ul_requirement.proofs.laws.examples.Goals as goal

pub returns-clause-readings : goal.returns-clause-readings
returns-clause-readings c = readings

pub returns-clause-addresses : goal.returns-clause-addresses
returns-clause-addresses c = addresses

pub returns-clause-no_addresses : goal.returns-clause-no_addresses
returns-clause-no_addresses c = no_addresses

pub returns-clause-no_readings : goal.returns-clause-no_readings
returns-clause-no_readings c = no_readings

pub returns-clause-truths : goal.returns-clause-truths
returns-clause-truths c = truths

pub returns-clause-may_be_true : goal.returns-clause-may_be_true
returns-clause-may_be_true c = may_be_true
