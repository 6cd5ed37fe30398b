-- Parts without a reading.
use Rattle.std.proofs.Common.{◌≡◌, Option, None, Err}
use Rattle.ul_requirement.specs.Answers.{Reads}
use Rattle.ul_requirement.specs.declared.fault.PartFault.{PartFault}
use Rattle.ul_requirement.specs.declared.fault.PartFault.TheVariants.{NoReading, NoMemory}

-- a part without a reading leaves the whole without one
pub Reads-err : {X Y X' Y' : Type 0} (view : X → Y) (view' : X' → Y') (fault : PartFault) (part : Option Y) (whole : Option Y')
    → (part ≡ None → whole ≡ None) → Reads view (Err fault) part → Reads view' (Err fault) whole
Reads-err view view' NoReading part whole f h = f h
Reads-err view view' NoMemory part whole f h = tt
