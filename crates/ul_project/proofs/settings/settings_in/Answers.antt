use Rattle.std.proofs.Common.{BTreeMap, List, map}
use Rattle.std.specs.declared.alloc.Global.{Global}
use Rattle.toml.specs.View.{table_view}
use Rattle.ul_marker.specs.Views.{marker_view}
use Rattle.ul_project.specs.Answers.{asked_view, formulas_view, listed_view, members_view}
use Rattle.ul_project.specs.Lists.{names_of}
use Rattle.ul_project.proofs.EachRead.{handed_on, read_handed_on}
use Rattle.ul_project.proofs.Parts.{choices-fault, environments-fault, listed-fault, settings-all, sources-fault, uv-fault}
use Rattle.ul_project.proofs.settings.settings_in.Goals as goal

-- the entries of a map
abbrev entries_view : {K V : Type 0} → BTreeMap K V → List (K × V)
entries_view m = m.entries

pub returns-in_err-uv : goal.returns-in_err-uv
returns-in_err-uv c =
    handed_on members_view (asked_view {Z = Global}) c.in_err-uv.field-0.0 c.from_residual.result _ _ c.from_residual.ensures.1
    (λ f e. uv-fault c.args.profile (names_of c.args.extras.now.entries) (table_view c.args.document.now) f e) c.in_err-uv.ensures

pub returns-in_err-sources : goal.returns-in_err-sources
returns-in_err-sources c =
    handed_on entries_view (asked_view {Z = Global}) c.in_err-sources.field-0.0 c.from_residual-in_err-sources.result _ _ c.from_residual-in_err-sources.ensures.1
    (λ f e. sources-fault c.args.profile (names_of c.args.extras.now.entries) (table_view c.args.document.now) (members_view c.in_ok-uv.uv) f c.in_ok-uv.ensures e)
    c.in_err-sources.ensures

pub returns-in_err-sources-2 : goal.returns-in_err-sources-2
returns-in_err-sources-2 c =
    read_handed_on (listed_view {Y = Global} {Z = Global} {W = Global}) (asked_view {Z = Global}) c.listed_in-listed.result c.in_err-sources-2.field-0.0 c.from_residual-in_err-sources-2.result _ _
    c.from_residual-in_err-sources-2.ensures.1 c.in_err-sources-2.ensures c.listed_in-listed.ensures
    (λ f e. listed-fault c.args.profile (names_of c.args.extras.now.entries) (table_view c.args.document.now) (members_view c.in_ok-uv.uv) c.in_ok-sources.sources.entries f
    c.in_ok-uv.ensures c.in_ok-sources.ensures e)

pub returns-in_err-kept : goal.returns-in_err-kept
returns-in_err-kept c =
    read_handed_on (formulas_view {Z = Global}) (asked_view {Z = Global}) c.environments_at-environments.result c.in_err-kept.field-0.0 c.from_residual-in_err-kept.result _ _
    c.from_residual-in_err-kept.ensures.1 c.in_err-kept.ensures (rw c.value_in.ensures at c.environments_at-environments.ensures.markers)
    (λ f e. environments-fault c.args.profile (names_of c.args.extras.now.entries) (table_view c.args.document.now) (members_view c.in_ok-uv.uv) c.in_ok-sources.sources.entries
    (listed_view {Y = Global} {Z = Global} {W = Global} c.in_ok-sources-2.listed) f c.in_ok-uv.ensures c.in_ok-sources.ensures
    (rw c.in_ok-sources-2.ensures.1 at c.listed_in-listed.ensures) e)

pub returns-in_err-kept-2 : goal.returns-in_err-kept-2
returns-in_err-kept-2 c =
    read_handed_on (λ x. x) (asked_view {Z = Global}) c.choices_in.result c.in_err-kept-2.field-0.0 c.from_residual-in_err-kept-2.result _ _
    c.from_residual-in_err-kept-2.ensures.1 c.in_err-kept-2.ensures c.choices_in.ensures
    (λ f e. choices-fault c.args.profile (names_of c.args.extras.now.entries) (table_view c.args.document.now) (members_view c.in_ok-uv.uv) c.in_ok-sources.sources.entries
    (listed_view {Y = Global} {Z = Global} {W = Global} c.in_ok-sources-2.listed) (map marker_view c.in_ok-kept.environments.items) f
    c.in_ok-uv.ensures c.in_ok-sources.ensures (rw c.in_ok-sources-2.ensures.1 at c.listed_in-listed.ensures)
    (rw (c.in_ok-kept.ensures.1, c.value_in.ensures) at c.environments_at-environments.ensures.markers) e)

pub returns : goal.returns
returns c =
    rw (c.in_ok-kept-2.ensures.0, c.in_ok-kept.ensures.0, c.in_ok-sources-2.ensures.0)
    (settings-all c.args.profile (names_of c.args.extras.now.entries) (table_view c.args.document.now) (members_view c.in_ok-uv.uv) c.in_ok-sources.sources.entries
    (listed_view {Y = Global} {Z = Global} {W = Global} c.in_ok-sources-2.listed) (map marker_view c.in_ok-kept.environments.items) c.in_ok-kept-2.choices
    c.in_ok-uv.ensures c.in_ok-sources.ensures (rw c.in_ok-sources-2.ensures.1 at c.listed_in-listed.ensures)
    (rw (c.in_ok-kept.ensures.1, c.value_in.ensures) at c.environments_at-environments.ensures.markers)
    (rw c.in_ok-kept-2.ensures.1 at c.choices_in.ensures))
