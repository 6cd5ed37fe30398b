use Rattle.std.proofs.Common.{sym, ap}
use Rattle.ul_version.specs.Ascii.{is_blank}
use Rattle.ul_requirement.specs.Reading.{is_inner_byte}
use Rattle.ul_requirement.proofs.Runs.{all-parts, all-between, pass-viewed}
use Rattle.ul_requirement.proofs.reading.tail.Goals as goal

pub specifiers_in-requires : goal.specifiers_in-requires
specifiers_in-requires c =
    let inner = all-parts is_inner_byte c.args.input.now (sym c.if-not-is_run.ensures) in
    rw (c.trimmed.ensures) (all-between is_inner_byte is_blank c.parts.result.0.now (rw (ap (λ p. p.0) c.parts.ensures) inner.0))

pub marker_in-requires : goal.marker_in-requires
marker_in-requires c =
    let inner = all-parts is_inner_byte c.args.input.now (sym c.if-not-is_run.ensures) in
    pass-viewed is_inner_byte c.parts.result.1 (rw (ap (λ p. p.1) c.parts.ensures) inner.1)
