use Rattle.std.proofs.Common.{◌≡◌, Some, refl, sym, subst, ◌∙◌, slice_get}
use Rattle.std.specs.declared.cmp.Ordering.TheVariants.{Equal}
use Rattle.std.proofs.lemmas.Option.{same_Some, slice_get_read, slice_get_within}
use Rattle.ul_lock.specs.declared.parts.Locked.{Locked}
use Rattle.ul_lock.specs.Orders.{package_cmp}
use Rattle.ul_lock_read.proofs.Halving.{key_of, none_found, some_found}
use Rattle.ul_lock_read.proofs.targets.finds.Goals as goal

pub bounds-packages-place : goal.bounds-packages-place
bounds-packages-place c = slice_get_within c.args.packages.now c.in-Some.place c.in-Some.ensures.0 c.in-Some.ensures.1

pub returns-in-None : goal.returns-in-None
returns-in-None c = none_found c.args.packages.now c.args.edge.now c.requires c.is_proper.ensures c.in-None.ensures

pub returns-in-Some : goal.returns-in-Some
returns-in-Some c =
    let s = c.in-Some.ensures in
    let b = c.index-packages-place.result in
    let at : slice_get c.args.packages.now c.in-Some.place ≡ Some b = slice_get_read c.args.packages.now _ _ b refl (slice_get_within c.args.packages.now c.in-Some.place s.0 s.1) c.index-packages-place.is in
    let same = same_Some s.0 b (sym s.1 ∙ at) in
    let level = subst (λ (z : Locked). package_cmp z (key_of c.args.edge.now) ≡ Equal) same s.2 in
    subst (λ z. c.leads_to.result ≡ z) (some_found c.args.packages.now c.args.edge.now c.in-Some.place b c.requires c.is_proper.ensures at level) c.leads_to.ensures
