use Rattle.std.proofs.Common.{◌≡◌, ◌∙◌, ◌++◌, [], ◌∷◌, ap, length, map, sym}
use Rattle.ul_project.specs.Extras.{extra_size}
use Rattle.ul_project.specs.Lists.{names_of}
use Rattle.ul_requirement.specs.Fields.{PackageFields}
use Rattle.ul_groups.specs.Expanded.{first_requirements, lists_with}
use Rattle.ul_groups.proofs.ExtendedPackages.{one_differs, only_one, package_made}
use Rattle.ul_groups.proofs.extras.with_extras.Goals as goal

one : (c : goal.In_ok-kept) → c.args.found.releases ≡ c.in-Some.release ∷ []
one c =
    only_one c.args.found.releases c.pop.new.self.items c.in-Some.release
    (sym (ap (λ (p : PackageFields). p.releases) c.found.view_is) ∙ c.in-Some.ensures.items) c.requires

made : (c : goal.In_ok-kept) → c.in_ok-kept.releases.items ≡ c.in_ok-name.extended.0 ∷ []
made c =
    (rw c.in_ok-kept.ensures.1 at c.with_one-releases.ensures) ∙ ap (λ rs. rs ++ c.in_ok-name.extended.0 ∷ []) c.new.ensures.items

pub invariant_of-found : goal.invariant_of-found
invariant_of-found c = record { differ = one_differs _ _ (made c) }

pub returns-clause-found : goal.returns-clause-found
returns-clause-found c =
    let releases =
    package_made c.args.found c.args.extras.items c.args.sizes.items c.args.lists.items _ _ _ (one c) (made c)
    (rw c.in_ok-name.ensures.1 at c.release_with-extended.ensures.release) in
    rw (c.in_ok-kept.ensures.0, c.in_ok-name.ensures.0)
    (λ i. record { name = (c.found.view_is i).name; entries = (c.found.view_is i).entries; prereleases = (c.found.view_is i).prereleases; releases = releases i })

pub returns-clause-one : goal.returns-clause-one
returns-clause-one c = ap length (made c)

pub returns-clause-extras : goal.returns-clause-extras
returns-clause-extras c =
    rw c.in_ok-kept.ensures.0
    ((rw c.in_ok-name.ensures.1 at c.release_with-extended.ensures.extras)
    ∙ ap (λ rs. names_of (lists_with c.args.extras.items c.args.sizes.items (first_requirements rs) c.args.lists.items)) (sym (one c)))

pub returns-clause-sizes : goal.returns-clause-sizes
returns-clause-sizes c =
    rw c.in_ok-kept.ensures.0
    ((rw c.in_ok-name.ensures.1 at c.release_with-extended.ensures.sizes)
    ∙ ap (λ rs. map extra_size (lists_with c.args.extras.items c.args.sizes.items (first_requirements rs) c.args.lists.items)) (sym (one c)))

pub returns-clause-rises : goal.returns-clause-rises
returns-clause-rises c = rw c.in_ok-kept.ensures.0 (rw c.in_ok-name.ensures.1 at c.release_with-extended.ensures.rises)
