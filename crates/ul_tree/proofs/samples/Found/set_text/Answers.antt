use Rattle.std.proofs.Common.{arith, ap, ◌∙◌}
use Rattle.std.proofs.lemmas.Grind.{common_steps}
use Rattle.ul_tree.specs.contracts.samples.Found.{the_view}
use Rattle.ul_tree.proofs.NextParts.{set_seen, kept_seen}
use Rattle.ul_tree.proofs.samples.Found.set_text.Goals as goal
use Rattle.ul_tree.proofs.samples.Found.set_text.Goals.{in-Some, in_default}

pub returns : goal.returns
returns c =
    let f = c.self.inside in
    elim c.match-get_mut.branch [
      | in-Some w ↦ ap the_view w.self-inside-is ∙ set_seen f.number f.texts.items f.truths.items _ _ c.args.text c.args.self.now c.self.view_is c.text_number.ensures
      | in_default w ↦ ap the_view w.self-inside-is ∙ kept_seen f.number f.texts.items f.truths.items _ _ c.args.text c.args.self.now c.self.view_is c.text_number.ensures (grind (arith, common_steps))
    ]
