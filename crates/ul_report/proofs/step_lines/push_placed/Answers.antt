use Rattle.std.proofs.Common.{ap, sym, ◌∙◌, ◌≡◌, ◌++◌, length, string_bytes, true}
use Rattle.std.specs.Prelude.{codes}
use Rattle.ul_problem.specs.Plain.{size_in}
use Rattle.ul_report.specs.Naming.{flagged_elements}
use Rattle.ul_report.specs.Texts.{node_text, versions_text}
use Rattle.ul_report.proofs.Written.{placed_written}
use Rattle.ul_report.proofs.step_lines.push_placed.Goals as goal

pub push_versions-requires : goal.push_versions-requires
push_versions-requires c = c.requires.1 ∙ (ap size_in c.facts_at-facts.ensures ∙ ap length (sym c.as_slice.ensures))

pub returns : goal.returns
returns c =
    let f = c.facts_at-facts.result.now in
    let s = c.args.set.now in
    let a : string_bytes c.push_node.new.out ≡ string_bytes c.args.out.now ++ node_text f.node = c.in_ok-push_node.ensures in
    let b : string_bytes c.push_str.new.self ≡ string_bytes c.push_node.new.out ++ codes " {" = c.in_ok-push_str.ensures.bytes in
    let d : string_bytes c.push_versions.new.out ≡ string_bytes c.push_str.new.self ++ versions_text true (flagged_elements s f.versions) = c.in_ok-push_versions.ensures ∙ ap (λ z. string_bytes c.push_str.new.self ++ versions_text true (flagged_elements s z)) c.as_slice.ensures in
    let e : string_bytes c.push_str-2.new.self ≡ string_bytes c.push_versions.new.out ++ codes "}" = c.in_ok-push_str-2.ensures.bytes in
    e ∙ (ap (λ q. q ++ codes "}") (d ∙ ap (λ q. q ++ versions_text true (flagged_elements s f.versions)) (b ∙ ap (λ q. q ++ codes " {") a))
    ∙ placed_written (string_bytes c.args.out.now) c.args.problem.now c.args.node s f c.facts_at-facts.ensures)
