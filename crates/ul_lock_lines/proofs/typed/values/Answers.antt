use Rattle.std.proofs.Common.{◌∙◌, ap, refl, sym}
use Rattle.ul_lock_lines.specs.declared.lines.Line.TheVariants.{Bare, Item, Name, Opens, Root, Supported, Version}
use Rattle.ul_lock_lines.specs.LineReading.{fork_at, marker_at, name_at, typed, version_at}
use Rattle.ul_lock_lines.proofs.LinesOfTexts.{line_of_known, no_line, one_line}
use Rattle.ul_lock_lines.proofs.typed.values.Goals as goal

pub returns-in-None : goal.returns-in-None
returns-in-None c = no_line (λ v. Root v) c.args.raw.now _ c.in_ok-named-in-Root.field-0 (name_at c.in-Root.text) c.in-Root.is refl c.in-None.is c.in_ok-named-in-Root.ensures

pub returns-in-Some : goal.returns-in-Some
returns-in-Some c = one_line (λ v. Root v) c.args.raw.now _ c.in_ok-named-in-Root.field-0 (name_at c.in-Root.text) c.in-Some.name c.in-Root.is refl c.in-Some.is c.in_ok-named-in-Root.ensures

pub returns-in-None-4 : goal.returns-in-None-4
returns-in-None-4 c = no_line (λ v. Name v) c.args.raw.now _ c.in_ok-named-in-Name.field-0 (name_at c.in-Name.text) c.in-Name.is refl c.in-None-4.is c.in_ok-named-in-Name.ensures

pub returns-in-Some-4 : goal.returns-in-Some-4
returns-in-Some-4 c = one_line (λ v. Name v) c.args.raw.now _ c.in_ok-named-in-Name.field-0 (name_at c.in-Name.text) c.in-Some-4.name c.in-Name.is refl c.in-Some-4.is c.in_ok-named-in-Name.ensures

pub returns-in-None-6 : goal.returns-in-None-6
returns-in-None-6 c = no_line (λ v. Opens v) c.args.raw.now _ c.in_ok-named-in-Opens.field-0 (name_at c.in-Opens.text) c.in-Opens.is refl c.in-None-6.is c.in_ok-named-in-Opens.ensures

pub returns-in-Some-6 : goal.returns-in-Some-6
returns-in-Some-6 c = one_line (λ v. Opens v) c.args.raw.now _ c.in_ok-named-in-Opens.field-0 (name_at c.in-Opens.text) c.in-Some-6.name c.in-Opens.is refl c.in-Some-6.is c.in_ok-named-in-Opens.ensures

pub returns-in-None-7 : goal.returns-in-None-7
returns-in-None-7 c = no_line (λ v. Bare v) c.args.raw.now _ c.in_ok-named-in-Bare.field-0 (name_at c.in-Bare.text) c.in-Bare.is refl c.in-None-7.is c.in_ok-named-in-Bare.ensures

pub returns-in-Some-7 : goal.returns-in-Some-7
returns-in-Some-7 c = one_line (λ v. Bare v) c.args.raw.now _ c.in_ok-named-in-Bare.field-0 (name_at c.in-Bare.text) c.in-Some-7.name c.in-Bare.is refl c.in-Some-7.is c.in_ok-named-in-Bare.ensures

pub returns-in-File : goal.returns-in-File
returns-in-File c = line_of_known c.args.raw.now _ c.file.result c.in-File.is c.file.ensures

pub returns-in-Edge : goal.returns-in-Edge
returns-in-Edge c = line_of_known c.args.raw.now _ c.edge.result c.in-Edge.is c.edge.ensures

pub returns-in-Close : goal.returns-in-Close
returns-in-Close c = sym (ap typed c.in-Close.is)

pub returns-in-Gap : goal.returns-in-Gap
returns-in-Gap c = sym (ap typed c.in-Gap.is)

pub returns-in-Entry : goal.returns-in-Entry
returns-in-Entry c = sym (ap typed c.in-Entry.is)

pub returns-in-Table : goal.returns-in-Table
returns-in-Table c = sym (ap typed c.in-Table.is)

pub returns-in-None-2 : goal.returns-in-None-2
returns-in-None-2 c = no_line (λ v. Supported v) c.args.raw.now _ c.in_ok-marker-in-Supported.field-0 (marker_at c.in-Supported.text) c.in-Supported.is refl c.in-None-2.is (c.in_ok-marker-in-Supported.ensures ∙ ap marker_at c.as_bytes.ensures)

pub returns-in-Some-2 : goal.returns-in-Some-2
returns-in-Some-2 c = one_line (λ v. Supported v) c.args.raw.now _ c.in_ok-marker-in-Supported.field-0 (marker_at c.in-Supported.text) c.in-Some-2.region c.in-Supported.is refl c.in-Some-2.is (c.in_ok-marker-in-Supported.ensures ∙ ap marker_at c.as_bytes.ensures)

pub returns-in-None-3 : goal.returns-in-None-3
returns-in-None-3 c = no_line (λ v. Item v) c.args.raw.now _ c.in_ok-fork-in-Item.field-0 (fork_at c.in-Item.text) c.in-Item.is refl c.in-None-3.is (c.in_ok-fork-in-Item.ensures ∙ ap fork_at c.as_bytes-in-Item.ensures)

pub returns-in-Some-3 : goal.returns-in-Some-3
returns-in-Some-3 c = one_line (λ v. Item v) c.args.raw.now _ c.in_ok-fork-in-Item.field-0 (fork_at c.in-Item.text) c.in-Some-3.region c.in-Item.is refl c.in-Some-3.is (c.in_ok-fork-in-Item.ensures ∙ ap fork_at c.as_bytes-in-Item.ensures)

pub returns-in-None-5 : goal.returns-in-None-5
returns-in-None-5 c = no_line (λ v. Version v) c.args.raw.now _ c.in_ok-version-in-Version.field-0 (version_at c.in-Version.text) c.in-Version.is refl c.in-None-5.is (c.in_ok-version-in-Version.ensures ∙ ap version_at c.as_bytes-in-Version.ensures)

pub returns-in-Some-5 : goal.returns-in-Some-5
returns-in-Some-5 c = one_line (λ v. Version v) c.args.raw.now _ c.in_ok-version-in-Version.field-0 (version_at c.in-Version.text) c.in-Some-5.version c.in-Version.is refl c.in-Some-5.is (c.in_ok-version-in-Version.ensures ∙ ap version_at c.as_bytes-in-Version.ensures)
