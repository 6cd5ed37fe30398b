use Rattle.ul_region.specs.Truths.{region_at}
use Rattle.std.proofs.Common.{◌≡◌, subst, List, get_or}
use Rattle.ul_region.specs.Truths.{DiagramMark}
use Rattle.ul_region.proofs.AskedFacts.{within_at}
use Rattle.ul_region.proofs.in_region.InRegion.holds_at.Goals as goal

pub returns : goal.returns
returns c h whole p t = within_at h c.args.self.now.region.now c.args.self.now.truths.now c.args.self.now.within.items c.args.place c.index-within-place.result (region_at c.args.self.now.region.now) p whole.region whole.within t c.requires
    (subst (λ (ms : List DiagramMark). c.index-within-place.result ≡ get_or ms c.args.place c.index-within-place.result) c.as_slice-within.ensures.value c.index-within-place.is)
