-- Parts that are refused.
use Rattle.std.proofs.Common.{◌≡◌, Err}
use Rattle.std.proofs.lemmas.Result.{err_from_is_err_and}
use Rattle.std.specs.Prelude.{Result, IsErrAnd}
use Rattle.ul_index.specs.Answers.{Gives}
use Rattle.ul_index.specs.Documents.{DocumentFault, not_json, shape, wrong_name}
use Rattle.ul_index.specs.declared.fault.IndexFault.{IndexFault}
use Rattle.ul_index.specs.declared.fault.IndexFault.TheVariants.{NotJson, Shape, WrongName, NoMemory}

-- what refuses a part refuses the whole
pub Gives-err : {X Y X' Y' : Type 0} (view : X → Y) (view' : X' → Y') (fault : IndexFault) (part : Result Y DocumentFault) (whole : Result Y' DocumentFault)
    → ((f : DocumentFault) → part ≡ Err f → whole ≡ Err f) → Gives view (Err fault) part → Gives view' (Err fault) whole
Gives-err view view' NotJson part whole f h = f not_json h
Gives-err view view' (Shape place) part whole f h = f (shape place) h
Gives-err view view' WrongName part whole f h = f wrong_name h
Gives-err view view' NoMemory part whole f h = tt

-- the same, where the fault is handed on by `?`
pub handed_on : {X Y X' Y' : Type 0} (view : X → Y) (view' : X' → Y') (fault : IndexFault) (answer : Result X' IndexFault) (part : Result Y DocumentFault)
    (whole : Result Y' DocumentFault) → IsErrAnd answer (λ e. e ≡ fault) → ((f : DocumentFault) → part ≡ Err f → whole ≡ Err f) → Gives view (Err fault) part
    → Gives view' answer whole
handed_on view view' fault answer part whole is refused given =
    let p = err_from_is_err_and answer is in rw (p.1, p.2) (Gives-err view view' fault part whole refused given)
