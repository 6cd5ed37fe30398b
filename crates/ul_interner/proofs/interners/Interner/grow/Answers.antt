use Rattle.std.proofs.Common.{rules}
use Rattle.ul_interner.proofs.Keeping.{grows}
use Rattle.ul_interner.proofs.interners.Interner.grow.Goals as goal

pub store-requires : goal.store-requires
store-requires g c = let t = c.self.invariant in let r = c.requires in let n = c.self.inside.shards in let x = c.args.mark.now in (
  search rules,
  search (rules, t.words, t.slots, r.looked.below),
  rw (t.told, r.item) (grows g.L.Label.hash_of n _ _ c.args.shard c.args.seat.now.me c.args.count x t.slots r.looked.holds (search (rules, r.looked.below, r.looked.long)) r.count (search (rules, t.slots, r.here)) r.id r.hash r.fresh r.parts),
)

pub returns-clause-seen : goal.returns-clause-seen
returns-clause-seen g c = rw (← c.self.view_is) (c.store.ensures.2 c.args.shard c.args.mark.now c.requires.looked.holds c.requires.item).1
