use Rattle.std.proofs.lemmas.Map.Text.{hash_map_updates_text}
use Rattle.ul_region.proofs.ExtraFacts.{opened}
use Rattle.ul_region.proofs.extra_index.ExtraIndex.open.Goals as goal

pub returns-clause-keeps : goal.returns-clause-keeps
returns-clause-keeps c = opened c.args.self.now (record { numbers = c.insert.new.self; places = c.push.new.self }) c.new.result _ c.args.extra.now c.len-number.result
    c.in_ok-key.ensures.ok c.requires c.in_ok-push.ensures.items
    (λ y. hash_map_updates_text _ c.args.self.now.numbers c.insert.new.self _ c.in_ok-insert.ensures.updates y)
