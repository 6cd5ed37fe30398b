use Rattle.std.proofs.Common.{List, [], ◌++◌, ◌∙◌, ap, flat_map, map, sym}
use Rattle.std.specs.BTreeSet.{insert_key}
use Rattle.ul_comparison.specs.Atoms.{atom_cmp}
use Rattle.ul_marker.specs.Parts.{atoms_of}
use Rattle.ul_marker.specs.Views.{marker_view}
use Rattle.ul_project.specs.Fields.{ProjectFields}
use Rattle.ul_project.specs.Lists.{Named}
use Rattle.ul_project.specs.Sources.{SourceFields}
use Rattle.ul_load.specs.Conditions.{beginning, conditions_of}
use Rattle.ul_load.specs.Loading.{atoms_in, comparisons_with, own_atoms, requirements_of}
use Rattle.ul_load.specs.Views.{atoms_of_sources, atoms_view}
use Rattle.ul_load.proofs.Sets.{flat_of_map, fold_then, source_atoms}
use Rattle.ul_load.proofs.progress.own_comparisons.Goals as goal

pub returns : goal.returns
returns c =
    let f = insert_key atom_cmp in
    let p = c.project.inside in
    let own = atoms_in (requirements_of p.«package».releases) in
    let places = flat_map atoms_of (map marker_view p.environments.items) in
    let conditions = flat_map atoms_of (conditions_of p.sources.items) in
    let constraints = atoms_in p.constraints.items in
    let overrides = atoms_in p.overrides.items in
    let none = atoms_view c.new-comparisons.result in
    let required = atoms_view c.add_releases.new.self in
    let placed = atoms_view c.add_markers.new.self in
    let sourced = atoms_view c.add_sources.new.self in
    let constrained = atoms_view c.add_requirements.new.self in
    let last = atoms_view c.add_requirements-2.new.self in
    fold_then f none required last own (places ++ (conditions ++ (constraints ++ overrides)))
    (c.in_ok-add_releases.ensures ∙ ap (λ rs. comparisons_with none (atoms_in (requirements_of rs))) c.releases.ensures.releases)
    (fold_then f required placed last places (conditions ++ (constraints ++ overrides))
    (c.in_ok-add_markers.ensures ∙ ap (λ ms. comparisons_with required (flat_map (λ m. atoms_of (marker_view m)) ms)) c.deref.ensures.value
    ∙ ap (comparisons_with required) (sym (flat_of_map atoms_of marker_view p.environments.items)))
    (fold_then f placed sourced last conditions (constraints ++ overrides)
    (c.in_ok-add_sources.ensures ∙ ap (λ ns. comparisons_with placed (flat_map (λ (named : Named (List SourceFields)). atoms_of_sources named.1) ns)) c.deref-2.ensures.value
    ∙ ap (comparisons_with placed) (sym (source_atoms p.sources.items)))
    (fold_then f sourced constrained last constraints overrides
    (c.in_ok-add_requirements.ensures ∙ ap (λ qs. comparisons_with sourced (atoms_in qs)) c.deref-3.ensures.value)
    (c.in_ok-add_requirements-2.ensures ∙ ap (λ qs. comparisons_with constrained (atoms_in qs)) c.deref-4.ensures.value))))
    ∙ ap (λ v. comparisons_with v (own ++ (places ++ (conditions ++ (constraints ++ overrides))))) c.new-comparisons.ensures
    ∙ ap (λ (q : ProjectFields). comparisons_with [] (own_atoms (beginning q))) c.project.view_is
