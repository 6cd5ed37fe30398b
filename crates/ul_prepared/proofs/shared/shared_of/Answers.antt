use Rattle.std.proofs.Common.{◌≡◌, List, Global, Vec, ap, map, sym, subst, ◌∙◌}
use Rattle.std.specs.Prelude.{All}
use Rattle.ul_requirement.specs.Fields.{RequirementFields}
use Rattle.ul_prepared.specs.Lists.{listed_in, lists_in, lists_of}
use Rattle.ul_prepared.specs.Shared.{HasList, IsFitted, fitted_in, release_fitted}
use Rattle.ul_prepared.specs.declared.shared.Fitted.{Fitted}
use Rattle.ul_prepared.proofs.Loops.{twice_handed}
use Rattle.ul_prepared.proofs.SharedFacts.{lists_kept, releases_kept}
use Rattle.ul_prepared.proofs.shared.shared_of.Goals as goal
use Rattle.ul_prepared.proofs.shared.shared_of.Goals.{In_ok-lists, In_ok-releases}

-- the releases are those that were listed
same : (g : _) (c : In_ok-lists g) → map fitted_in c.in_ok-lists.releases.items ≡ map listed_in c.args.own.releases.items
same g c =
    twice_handed c.fitted_releases-fitted.result c.made_from.result c.in_ok-lists.releases (λ v. map fitted_in v.items ≡ map listed_in c.as_slice.result.now) c.in_ok-lists.ensures.1 c.made_from.ensures c.fitted_releases-fitted.ensures.listed
    ∙ ap (map listed_in) c.as_slice.ensures.value

-- and the lists are theirs
same_lists : (g : _) (c : In_ok-releases g) → c.in_ok-releases.lists.items ≡ lists_in c.args.own
same_lists g c =
    twice_handed c.lists_by_extra-listed.result c.made_from-2.result c.in_ok-releases.lists (λ v. v.items ≡ lists_of c.as_slice-2.result.now) c.in_ok-releases.ensures.1 c.made_from-2.ensures c.lists_by_extra-listed.ensures
    ∙ (ap lists_of c.as_slice-2.ensures.value ∙ ap (λ z. lists_of z.items) c.in_ok-lists.ensures.0)

pub returns-clause-lists : goal.returns-clause-lists
returns-clause-lists g c = same_lists g (goal.at.returns-clause-lists g c).In_ok-releases

pub returns-clause-shared : goal.returns-clause-shared
returns-clause-shared g c =
    let before = c.in_ok-lists.releases in
    let releases = c.in_ok-releases.releases in
    let kept : releases ≡ before = c.in_ok-releases.ensures.0 in
    let fitted = IsFitted c.fitted_releases-fitted.new.algebra c.fitted_releases-fitted.new.truths.marks.items in
    let lists = same_lists g (goal.at.returns-clause-shared g c).In_ok-releases in record {
      fitted = subst (λ (v : Vec Fitted Global). All fitted v.items) (sym kept)
          (twice_handed c.fitted_releases-fitted.result c.made_from.result before (λ v. All fitted v.items) c.in_ok-lists.ensures.1 c.made_from.ensures c.fitted_releases-fitted.ensures.fitted);
      listed = subst (λ (z : List (List RequirementFields)). All (HasList z) releases.items) (sym lists)
          (subst (λ (v : Vec Fitted Global). All (HasList (lists_of c.args.own.lists.items)) v.items) (sym kept)
          (lists_kept (lists_of c.args.own.lists.items) c.args.own.releases.items before.items (same g (goal.at.returns-clause-shared g c).In_ok-lists) c.requires.listed));
    }

pub returns-clause-releases : goal.returns-clause-releases
returns-clause-releases g c =
    ap (λ (v : Vec Fitted Global). map release_fitted v.items) c.in_ok-releases.ensures.0
    ∙ releases_kept c.args.own.releases.items c.in_ok-lists.releases.items (same g (goal.at.returns-clause-releases g c).In_ok-lists)
