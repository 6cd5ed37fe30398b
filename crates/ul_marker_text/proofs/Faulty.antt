-- Faults of readers.
use Rattle.std.proofs.Common.{◌≡◌, ap, Result, Err}
use Rattle.ul_marker.specs.declared.fault.MarkerFault.{MarkerFault}
use Rattle.ul_marker.specs.declared.fault.MarkerFault.TheVariants.{NoReading}

-- the fault of a refusal
abbrev pub err_of : (X : Type 0) → MarkerFault → Result X MarkerFault
err_of X fault = Err fault

pub fault_is : {X : Type 0} (fault : MarkerFault) → err_of X fault ≡ err_of X NoReading → fault ≡ NoReading
fault_is fault e = cc

pub same_fault : {X Y : Type 0} (fault : MarkerFault) → err_of X fault ≡ err_of X NoReading → err_of Y fault ≡ err_of Y NoReading
same_fault {Y = Y} fault e = ap (err_of Y) (fault_is fault e)
