use Rattle.std.proofs.Common.{◌≡◌, ap, subst, sym, ◌∙◌, take, get_or, slice_get, Some, ◌<◌, length}
use Rattle.ul_problem.specs.Terms.{node_of}
use Rattle.ul_trail.specs.Track.{Track}
use Rattle.ul_trail.specs.Facts.{IsMirror}
use Rattle.ul_trail.specs.declared.fact.Fact.{Fact}
use Rattle.ul_trail.proofs.Mirrors.{before_at}
use Rattle.ul_trail.proofs.trail.Trail.before.Goals as goal

pub returns : goal.returns
returns c =
    let k = c.self.invariant (ap (λ (t : Track). t.whole) c.self.view_is ∙ c.requires.whole) in
    subst (λ (t : Track). (f : Fact) → slice_get t.facts c.args.place ≡ Some f → IsMirror (take c.args.place t.facts) (node_of f.term) (get_or t.sizes (node_of f.term) 0) c.index.result.now) c.self.view_is
    (before_at _ _ _ _ c.args.place c.index.result.now k.standing (subst (λ (t : Track). c.args.place < length t.facts) (sym c.self.view_is) c.requires.place) c.index.ensures)
