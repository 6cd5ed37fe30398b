use Rattle.ul_index.specs.Documents.{document_of}
use Rattle.ul_load.proofs.FaultTexts.{document_gives, document_of_bytes}
use Rattle.ul_load.proofs.documents.package_in.Goals as goal

pub returns-in-Err-clause-told : goal.returns-in-Err-clause-told
returns-in-Err-clause-told c =
    document_gives c.args.path.now (λ p. p) (document_of c.args.name.now c.args.bytes.now) c.in-Err.fault c.from_str-path.result c.fault_of_document.result
    c.in-Err.ensures c.from_str-path.ensures.ok c.fault_of_document.ensures

pub returns-in-Err-clause-bytes : goal.returns-in-Err-clause-bytes
returns-in-Err-clause-bytes c = document_of_bytes c.in-Err.fault c.from_str-path.result c.fault_of_document.result c.fault_of_document.ensures
