use Rattle.std.proofs.Common.{sym, length}
use Rattle.std.proofs.lemmas.Bool.{eqb-true}
use Rattle.ul_specifier.proofs.ForCallers.{not_empty}
use Rattle.ul_marker.proofs.Listed.{empty-added, one-added, one-none}
use Rattle.ul_marker.proofs.comparison.add_version.Goals as goal

pub returns-then-is_empty-clause-added : goal.returns-then-is_empty-clause-added
returns-then-is_empty-clause-added c = empty-added c.args.piece.now c.args.list.now.items (eqb-true (length c.args.piece.now) 0 (sym c.if-is_empty.ensures))

pub returns-in_ok-push-in-Ok-clause-added : goal.returns-in_ok-push-in-Ok-clause-added
returns-in_ok-push-in-Ok-clause-added c =
    one-added c.args.piece.now c.args.list.now.items _ c.in-Ok.version (not_empty (length c.args.piece.now) c.if-is_empty.ensures) c.in-Ok.ensures.read c.in_ok-push-in-Ok.ensures.items

pub returns-in-Err-NoReading-clause-no_reading : goal.returns-in-Err-NoReading-clause-no_reading
returns-in-Err-NoReading-clause-no_reading c _ =
    one-none c.args.piece.now (not_empty (length c.args.piece.now) c.if-is_empty.ensures) (c.in-Err-NoReading.ensures.no_reading c.in-Err-NoReading.field-0-is)
