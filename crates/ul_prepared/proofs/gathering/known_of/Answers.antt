use Rattle.std.proofs.Common.{◌≡◌, ap, map, sym, subst, ◌∙◌}
use Rattle.std.proofs.lemmas.Result.{IfOk-weaker}
use Rattle.ul_index.specs.Catalogs.{Packages}
use Rattle.ul_index.specs.Eligible.{eligible}
use Rattle.ul_prepared.specs.Gathered.{IsKnown}
use Rattle.ul_prepared.specs.Lists.{AreListed, releases_in}
use Rattle.ul_prepared.specs.Prepared.{IsName}
use Rattle.ul_prepared.specs.Releases.{AreReleasesOf}
use Rattle.ul_prepared.proofs.KnownNames.{known_is}
use Rattle.ul_prepared.proofs.Loops.{twice_handed}
use Rattle.ul_prepared.proofs.gathering.known_of.Goals as goal

pub returns-clause-known : goal.returns-clause-known
returns-clause-known c =
    let packages = c.args.sources.now.0 in
    let wish = c.args.sources.now.1 in
    let name = c.args.name.now in
    let made = c.listed_releases-listed.result in
    let told = c.listed_releases-listed.ensures in
    let are = subst (λ (ps : Packages). AreReleasesOf ps name (eligible ps name) (map (λ r. r.now) c.in_ok-list.list.items)) c.catalog.ensures c.in_ok-list.ensures.releases in
    IfOk-weaker c.beside.result (λ both. _) (λ both. IsKnown packages wish both.0 both.1)
    (λ both e.
    let same : releases_in both.1 ≡ map (λ r. r.now) c.in_ok-list.list.items =
    twice_handed made c.made_from.result both.1 (λ r. releases_in r ≡ map (λ l. l.now) c.as_slice-2.result.now) e.1 c.made_from.ensures told.same ∙ ap (map (λ l. l.now)) c.as_slice-2.ensures.value in
    known_is packages wish both.0 both.1 name (ap (λ f. f.name) e.0 ∙ c.in_ok-facts.ensures.name) (subst (IsName packages wish) (sym e.0) c.in_ok-facts.ensures.facts)
    (subst (AreReleasesOf packages name (eligible packages name)) (sym same) are) (twice_handed made c.made_from.result both.1 AreListed e.1 c.made_from.ensures told.listed))
    c.beside.ensures

pub returns-clause-name : goal.returns-clause-name
returns-clause-name c = IfOk-weaker c.beside.result (λ both. _) (λ both. both.0.name ≡ c.args.name.now) (λ both e. ap (λ f. f.name) e.0 ∙ c.in_ok-facts.ensures.name) c.beside.ensures
