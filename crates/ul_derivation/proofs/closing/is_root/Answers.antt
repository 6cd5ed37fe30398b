use Rattle.std.proofs.Common.{sym, ◌∙◌, refl}
use Rattle.ul_ranges.proofs.ForCallers.{any_in, in_any}
use Rattle.ul_derivation.proofs.Needs.{found_at}
use Rattle.ul_derivation.proofs.closing.is_root.Goals as goal

pub returns-in-Ok : goal.returns-in-Ok
returns-in-Ok c = (
  λ _. found_at c.args.roots.now c.args.node _ (rw c.in-Ok.is at c.binary_search.ensures.bound) (rw c.in-Ok.is at c.binary_search.ensures.ok),
  λ _. refl,
)

pub returns-in-Err : goal.returns-in-Err
returns-in-Err c = (
  λ e. any_in c.args.node c.args.roots.now (sym c.contains.ensures.value ∙ e),
  λ h. c.contains.ensures.value ∙ in_any c.args.node c.args.roots.now h,
)
