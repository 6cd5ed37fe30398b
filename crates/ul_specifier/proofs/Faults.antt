-- Lemmas on the answers of readers that may lack memory.
use Rattle.std.proofs.Common.{◌≡◌, Option, None, Err}
use Rattle.ul_specifier.specs.Views.{Reads}
use Rattle.ul_specifier.specs.declared.fault.SpecFault.{SpecFault}
use Rattle.ul_specifier.specs.declared.fault.SpecFault.TheVariants.{NoReading, NoMemory}

-- a part without a reading leaves the whole without one
pub Reads-err : {X Y X' Y' : Type 0} (view : X → Y) (view' : X' → Y') (fault : SpecFault) (part : Option Y) (whole : Option Y')
    → (part ≡ None → whole ≡ None) → Reads view (Err fault) part → Reads view' (Err fault) whole
Reads-err view view' NoReading part whole f h = f h
Reads-err view view' NoMemory part whole f h = tt
