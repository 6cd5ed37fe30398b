use Rattle.std.proofs.Common.{ap, sym, ◌∙◌, ◌≡◌, ◌++◌, string_bytes}
use Rattle.std.specs.Prelude.{codes}
use Rattle.std.specs.Fmt.{decimal}
use Rattle.ul_report.specs.Naming.{node_in, node_of_place}
use Rattle.ul_report.specs.Texts.{node_text}
use Rattle.ul_report.proofs.Written.{cut_written}
use Rattle.ul_report.proofs.step_lines.push_cut.Goals as goal

pub returns : goal.returns
returns c =
    let name = node_text (node_of_place c.args.problem.now c.args.node) in
    let a : string_bytes c.push_str.new.self ≡ string_bytes c.args.out.now ++ codes " cut " = c.in_ok-push_str.ensures.bytes in
    let b : string_bytes c.push_number.new.out ≡ string_bytes c.push_str.new.self ++ decimal c.args.left = c.in_ok-push_number.ensures in
    let d : string_bytes c.push_str-2.new.self ≡ string_bytes c.push_number.new.out ++ codes " " = c.in_ok-push_str-2.ensures.bytes in
    let e : string_bytes c.push_number-2.new.out ≡ string_bytes c.push_str-2.new.self ++ decimal c.args.right = c.in_ok-push_number-2.ensures in
    let f : string_bytes c.push_str-3.new.self ≡ string_bytes c.push_number-2.new.out ++ codes " on " = c.in_ok-push_str-3.ensures.bytes in
    let g : string_bytes c.push_node.new.out ≡ string_bytes c.push_str-3.new.self ++ name = c.in_ok-push_node.ensures ∙ ap (λ z. string_bytes c.push_str-3.new.self ++ node_text (node_in z)) (sym c.facts_at.ensures) in
    let h : string_bytes c.push_str-4.new.self ≡ string_bytes c.push_node.new.out ++ codes ":" = c.in_ok-push_str-4.ensures.bytes in
    h ∙ (ap (λ q. q ++ codes ":") (g ∙ ap (λ q. q ++ name) (f ∙ ap (λ q. q ++ codes " on ") (e ∙ ap (λ q. q ++ decimal c.args.right) (d ∙ ap (λ q. q ++ codes " ") (b ∙ ap (λ q. q ++ decimal c.args.left) a)))))
    ∙ cut_written (string_bytes c.args.out.now) (codes " cut ") (decimal c.args.left) (codes " ") (decimal c.args.right) (codes " on ") name (codes ":"))
