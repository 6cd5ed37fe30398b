use Rattle.std.proofs.Common.{arith, refl}
use Rattle.ul_requirement.proofs.NamedExtras.{names_end, names_found, names_next}
use Rattle.ul_requirement.proofs.truth.+names.Goals as goal

pub some_names_extra-loop-part-init : goal.some_names_extra-loop-part-init
some_names_extra-loop-part-init t c = refl

pub some_names_extra-loop-part-preserved : goal.some_names_extra-loop-part-preserved
some_names_extra-loop-part-preserved t c =
    names_next _ _ _ _ _ _ c.names_extra.ensures c.if-names_extra.false c.loop-part-test.true c.part-item.is c.loop-part.invariant

pub some_names_extra-returns-then-names_extra : goal.some_names_extra-returns-then-names_extra
some_names_extra-returns-then-names_extra t c =
    names_found _ _ _ _ _ _ c.names_extra.ensures c.if-names_extra.true c.loop-part-test.true c.part-item.is c.loop-part.invariant

pub some_names_extra-returns : goal.some_names_extra-returns
some_names_extra-returns t c = names_end _ c.args.parts.now _ c.loop-part.part-index (omega arith) c.loop-part.invariant
