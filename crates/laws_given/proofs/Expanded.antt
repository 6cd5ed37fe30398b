-- A project whose groups are extras has names and versions.
use Rattle.std.proofs.Common.{subst}
use Rattle.laws_given.specs.Texts.{ExpandedAreTexts, IsNamedRequirement, IsTextGroup, IsTextProject, IsTextRelease}
use Rattle.laws_given.proofs.ExpandedProjects.{IsOfRequirements, IsProjectWith, expanded_by, expanded_has, project_with}
use Rattle.laws_given.proofs.FileRequirements.{IsGroupWith}
use Rattle.laws_given.proofs.Files.{extra_named, of_text_group}
use Rattle.laws_given.proofs.Lists.{all_as}

-- a release with names and versions stays one with other requirements that name names
pub text_release : IsOfRequirements IsNamedRequirement IsTextRelease
text_release = record {
  has = λ r h. h.requirements;
  stays = λ r qs h k. record { version = h.version; requirements = k; files = h.files; files_rise = h.files_rise };
}

pub expanded_are_texts : ExpandedAreTexts
expanded_are_texts p q h e =
    let by = expanded_by p q e in
    let start : IsProjectWith IsNamedRequirement IsTextRelease p = record {
      releases = h.package.releases;
      extras = h.extras;
      groups = all_as IsTextGroup (IsGroupWith IsNamedRequirement) of_text_group p.groups h.groups;
    } in
    let has = expanded_has IsNamedRequirement IsTextRelease text_release extra_named p by.lists start by.of_groups in
    subst IsTextProject {x = project_with p by.lists} by.is (record {
      «package» = record { name = h.package.name; releases = has.releases };
      extras = has.extras;
      groups = tt;
    })
