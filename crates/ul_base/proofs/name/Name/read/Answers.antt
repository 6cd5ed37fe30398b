use Rattle.std.proofs.Common.{◌∙◌, sym}
use Rattle.ul_base.proofs.Names.{name_reads, name_reads_itself}
use Rattle.ul_base.proofs.name.Name.read.Goals as goal

pub invariant_of-result : goal.invariant_of-result
invariant_of-result c =
    name_reads_itself c.args.text.now _ (name_reads c.args.text.now _
    (rw (← c.as_bytes-bytes.ensures.value) (sym c.ends_well.ensures ∙ c.if-not-ends_well.false))
    (rw (← c.as_bytes-bytes.ensures.value) c.in_ok-text.ensures.value.0)
    (rw (← c.as_bytes-bytes.ensures.value) c.in_ok-text.ensures.value.1))
