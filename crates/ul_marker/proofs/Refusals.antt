-- Lemmas on the answers of readers that may lack memory.
use Rattle.std.proofs.Common.{◌≡◌, Option, None, Err, refl, ap}
use Rattle.std.specs.Prelude.{List, ℕ}
use Rattle.std.specs.declared.alloc.Global.{Global}
use Rattle.ul_marker.specs.Readers.{front_view, Reads, ReadsTokens}
use Rattle.ul_marker.specs.Reading.{marker_in}
use Rattle.ul_marker.specs.declared.words.Token.{Token}
use Rattle.ul_marker.specs.declared.fault.MarkerFault.{MarkerFault}
use Rattle.ul_marker.specs.declared.fault.MarkerFault.TheVariants.{NoReading, NoMemory}

-- a part without a reading leaves the whole without one
pub Reads-err : {X Y X' Y' : Type 0} (view : X → Y) (view' : X' → Y') (fault : MarkerFault) (part : Option Y) (whole : Option Y')
    → (part ≡ None → whole ≡ None) → Reads view (Err fault) part → Reads view' (Err fault) whole
Reads-err view view' NoReading part whole f h = f h
Reads-err view view' NoMemory part whole f h = tt

-- a refusal says that there is no reading
pub Reads-refused : {X Y : Type 0} (view : X → Y) (fault : MarkerFault) (whole : Option Y) → (fault ≡ NoReading → whole ≡ None) → Reads view (Err fault) whole
Reads-refused view NoReading whole h = h refl
Reads-refused view NoMemory whole h = tt

-- a token that isn't there leaves the tokens of no marker
pub tokens-refused : (fault : MarkerFault) (front : Option (Token × List ℕ)) (tokens : Option (List Token)) → (front ≡ None → tokens ≡ None)
    → Reads front_view (Err fault) front → ReadsTokens {Z = Global} (Err fault) tokens
tokens-refused NoReading front tokens f h = ap marker_in (f h)
tokens-refused NoMemory front tokens f h = tt
