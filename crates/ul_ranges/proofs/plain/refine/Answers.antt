use Rattle.std.proofs.Common.{eqb, ◌∙◌, refl}
use Rattle.std.proofs.lemmas.List.Filters.{dedup_is}
use Rattle.ul_ranges.proofs.PlainLaws.{sorted_refines}
use Rattle.ul_ranges.proofs.plain.refine.Goals as goal

pub returns : goal.returns
returns c =
    rw (dedup_is eqb c.sort_unstable.new.self.items c.dedup.new.self.items c.dedup.ensures.filtered)
    (sorted_refines c.args.left.now c.args.right.now _ c.sort_unstable.new.self.items c.requires.left c.requires.right
    (c.in_ok-extend_from_slice.ensures.items ∙ rw c.in_ok-starts.ensures.items refl) c.sort_unstable.ensures.permutation
    c.sort_unstable.ensures.sorted)
