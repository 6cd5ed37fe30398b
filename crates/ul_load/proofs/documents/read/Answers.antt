use Rattle.std.proofs.Common.{Ok, Err, Option, Vec, Global, ℕ, option_map, refl}
use Rattle.ul_files.proofs.ForCallers.{read_tells}
use Rattle.ul_load.specs.Loading.{file_bytes}
use Rattle.ul_load.proofs.DocumentSteps.{file_read}
use Rattle.ul_load.proofs.FaultTexts.{read_cause, read_failed, read_gives}
use Rattle.ul_load.proofs.ReadOnce.{each_of_one}
use Rattle.ul_load.proofs.documents.read.Goals as goal

pub returns-in-Ok-clause-told : goal.returns-in-Ok-clause-told
returns-in-Ok-clause-told g c m a =
    file_read m c.args.path.now c.in-Ok.found
    (read_tells m _ _ c.args.path.now file_bytes (Ok c.in-Ok.found) c.in-Ok.ensures.recorded c.in-Ok.ensures.within a)

pub returns-in-Err-clause-told : goal.returns-in-Err-clause-told
returns-in-Err-clause-told g c m a =
    read_gives c.args.path.now {A = Option (Vec ℕ Global)} (option_map (λ (v : Vec ℕ Global). v.items)) m c.in-Err.refused c.from_str-path.result c.fault_of_read.result
    (read_tells m _ _ c.args.path.now file_bytes (Err c.in-Err.refused) c.in-Err.ensures.recorded c.in-Err.ensures.within a)
    c.from_str-path.ensures.ok c.fault_of_read.ensures

pub returns-in-Err-clause-cause : goal.returns-in-Err-clause-cause
returns-in-Err-clause-cause g c =
    read_cause c.args.path.now (Option (Vec ℕ Global)) _ _ _ _ c.in-Err.refused c.from_str-path.result c.fault_of_read.result
    c.in-Err.ensures.cause c.from_str-path.ensures.ok c.fault_of_read.ensures

pub returns-in-Err-clause-failed : goal.returns-in-Err-clause-failed
returns-in-Err-clause-failed g c =
    read_failed c.args.path.now (Option (Vec ℕ Global)) c.in-Err.refused c.from_str-path.result c.fault_of_read.result c.from_str-path.ensures.ok c.fault_of_read.ensures

pub returns-in-Ok-clause-reads : goal.returns-in-Ok-clause-reads
returns-in-Ok-clause-reads g c = each_of_one _ _ _ _ c.in-Ok.ensures.recorded refl

pub returns-in-Err-clause-reads : goal.returns-in-Err-clause-reads
returns-in-Err-clause-reads g c = each_of_one _ _ _ _ c.in-Err.ensures.recorded refl
