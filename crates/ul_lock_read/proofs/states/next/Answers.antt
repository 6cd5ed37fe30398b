use Rattle.std.proofs.Common.{◌∙◌, ap, sym}
use Rattle.ul_lock_read.specs.declared.states.Top.{Top}
use Rattle.ul_lock_read.specs.declared.states.State.TheVariants.{InFiles, AfterFiles, InExtra, InEdges, AfterGap, InExtras, AfterVersion, AfterEdges}
use Rattle.ul_lock_read.proofs.Steps.{behind_known, made_behind_known}
use Rattle.ul_lock_read.proofs.states.next.Goals as goal

pub returns-in-Start : goal.returns-in-Start
returns-in-Start c = behind_known c.args.state _ c.args.line c.after_nothing.result (sym c.in-Start.is) c.after_nothing.ensures

pub returns-in-AfterFirst : goal.returns-in-AfterFirst
returns-in-AfterFirst c = behind_known c.args.state _ c.args.line c.after_first.result (sym c.in-AfterFirst.is) c.after_first.ensures

pub returns-in-AfterRoot : goal.returns-in-AfterRoot
returns-in-AfterRoot c = behind_known c.args.state _ c.args.line c.after_root.result (sym c.in-AfterRoot.is) c.after_root.ensures

pub returns-in-AfterSupported : goal.returns-in-AfterSupported
returns-in-AfterSupported c = behind_known c.args.state _ c.args.line c.after_supported.result (sym c.in-AfterSupported.is) c.after_supported.ensures

pub returns-in-InForks : goal.returns-in-InForks
returns-in-InForks c = made_behind_known c.args.state _ c.args.line c.after_fork.result (sym c.in-InForks.is) c.after_fork.ensures

pub returns-in-AfterForks : goal.returns-in-AfterForks
returns-in-AfterForks c = behind_known c.args.state _ c.args.line c.after_forks.result (sym c.in-AfterForks.is) c.after_forks.ensures

pub returns-in-AfterBlank : goal.returns-in-AfterBlank
returns-in-AfterBlank c = behind_known c.args.state _ c.args.line c.after_blank.result (sym c.in-AfterBlank.is) c.after_blank.ensures

pub returns-in-AfterEntry : goal.returns-in-AfterEntry
returns-in-AfterEntry c = behind_known c.args.state _ c.args.line c.after_entry.result (sym c.in-AfterEntry.is) c.after_entry.ensures

pub returns-in-AfterName : goal.returns-in-AfterName
returns-in-AfterName c = behind_known c.args.state _ c.args.line c.after_name.result (sym c.in-AfterName.is) c.after_name.ensures

pub returns-in-AfterVersion : goal.returns-in-AfterVersion
returns-in-AfterVersion c = behind_known c.args.state _ c.args.line c.after_version.result (ap (λ (t : Top). AfterVersion t.head t.blocks t.name t.version) c.of.ensures ∙ sym c.in-AfterVersion.is) c.after_version.ensures

pub returns-in-InFiles : goal.returns-in-InFiles
returns-in-InFiles c = made_behind_known c.args.state _ c.args.line c.after_file.result (ap (λ (t : Top). InFiles t.head t.blocks t.name t.version c.in-InFiles.files) c.of-in-InFiles.ensures ∙ sym c.in-InFiles.is) c.after_file.ensures

pub returns-in-AfterFiles : goal.returns-in-AfterFiles
returns-in-AfterFiles c = behind_known c.args.state _ c.args.line c.after_files.result (ap (λ (t : Top). AfterFiles t.head t.blocks t.name t.version c.in-AfterFiles.files) c.of-in-AfterFiles.ensures ∙ sym c.in-AfterFiles.is) c.after_files.ensures

pub returns-in-InEdges : goal.returns-in-InEdges
returns-in-InEdges c = made_behind_known c.args.state _ c.args.line c.after_edge.result (ap (λ (t : Top). InEdges t.head t.blocks t.name t.version c.in-InEdges.files c.in-InEdges.edges) c.of-in-InEdges.ensures ∙ sym c.in-InEdges.is) c.after_edge.ensures

pub returns-in-AfterEdges : goal.returns-in-AfterEdges
returns-in-AfterEdges c = behind_known c.args.state _ c.args.line c.after_edges.result (ap (λ (t : Top). AfterEdges t.head t.blocks t.name t.version c.in-AfterEdges.files c.in-AfterEdges.edges) c.of-in-AfterEdges.ensures ∙ sym c.in-AfterEdges.is) c.after_edges.ensures

pub returns-in-AfterGap : goal.returns-in-AfterGap
returns-in-AfterGap c = made_behind_known c.args.state _ c.args.line c.after_gap.result (ap (λ (t : Top). AfterGap t.head t.blocks t.name t.version c.in-AfterGap.files c.in-AfterGap.edges) c.of-in-AfterGap.ensures ∙ sym c.in-AfterGap.is) c.after_gap.ensures

pub returns-in-InExtras : goal.returns-in-InExtras
returns-in-InExtras c = made_behind_known c.args.state _ c.args.line c.after_extra.result (ap (λ (t : Top). InExtras t.head t.blocks t.name t.version c.in-InExtras.files c.in-InExtras.edges c.in-InExtras.extras) c.of-in-InExtras.ensures ∙ sym c.in-InExtras.is) c.after_extra.ensures

pub returns-in-InExtra : goal.returns-in-InExtra
returns-in-InExtra c = made_behind_known c.args.state _ c.args.line c.after_listed.result (ap (λ (t : Top). InExtra t.head t.blocks t.name t.version c.in-InExtra.files c.in-InExtra.edges c.in-InExtra.extras c.in-InExtra.extra c.in-InExtra.listed) c.of-in-InExtra.ensures ∙ sym c.in-InExtra.is) c.after_listed.ensures
