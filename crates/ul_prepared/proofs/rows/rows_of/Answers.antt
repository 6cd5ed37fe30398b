use Rattle.std.proofs.Common.{◌≡◌, Global, List, Vec, subst, sym}
use Rattle.std.specs.List.{AllZip}
use Rattle.ul_base.proofs.ForCallers.{made_holds}
use Rattle.ul_problem.specs.declared.problem.Need.{Need}
use Rattle.ul_region.specs.declared.rows.Row.{Row}
use Rattle.ul_prepared.specs.Shared.{IsOfList, IsRowOf}
use Rattle.ul_prepared.proofs.rows.rows_of.Goals as goal

pub returns-clause-rows : goal.returns-clause-rows
returns-clause-rows c =
    let rows = AllZip (IsRowOf c.args.asked.now) c.args.releases.now in
    subst (λ (both : Vec Row Global × Vec (List (List Need)) Global). rows both.0.items) (sym c.in_ok-both.ensures.0)
    (subst (λ (v : Vec Row Global). rows v.items) (sym c.in_ok-rows-2.ensures.0) c.in_ok-rows.ensures)

pub returns-clause-aims : goal.returns-clause-aims
returns-clause-aims c =
    let aims = AllZip (IsOfList c.args.aims.now) c.args.releases.now in
    subst (λ (both : Vec Row Global × Vec (List (List Need)) Global). aims both.1.items) (sym c.in_ok-both.ensures.0)
    (made_holds c.aims_with.result c.in_ok-rows-2.aims (λ v. aims v.items) c.in_ok-rows-2.ensures.1 c.aims_with.ensures)

pub returns-clause-lists : goal.returns-clause-lists
returns-clause-lists c = made_holds c.list_places.result c.in_ok-both.lists (λ v. v.items ≡ _) c.in_ok-both.ensures.1 c.list_places.ensures
