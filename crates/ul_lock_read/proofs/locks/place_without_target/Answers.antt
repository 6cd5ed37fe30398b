use Rattle.std.proofs.Common.{sym, subst}
use Rattle.ul_lock_read.specs.Finding.{AreSorted}
use Rattle.ul_lock_read.proofs.Forms.{sorted_of}
use Rattle.ul_lock_read.proofs.locks.place_without_target.Goals as goal

pub package_without_target-requires : goal.package_without_target-requires
package_without_target-requires c = subst (λ z. AreSorted z) (sym c.as_slice.ensures) (sorted_of c.args.sheet.now c.requires)
