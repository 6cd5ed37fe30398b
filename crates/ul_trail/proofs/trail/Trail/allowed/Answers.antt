use Rattle.std.proofs.Common.{◌≡◌, ℕ, List, length, get_or, arith, ap, subst, ◌∙◌}
use Rattle.ul_problem.specs.Plain.{size_of}
use Rattle.ul_problem.proofs.ForCallers.{ok_then}
use Rattle.ul_trail.specs.Track.{Track}
use Rattle.ul_trail.specs.Counts.{sizes_of}
use Rattle.ul_trail.specs.Facts.{IsAllowed}
use Rattle.ul_trail.proofs.Mirrors.{allowed_is}
use Rattle.ul_trail.proofs.Propagating.{sizes_length, sizes_at}
use Rattle.ul_trail.proofs.trail.Trail.allowed.Goals as goal

pub returns : goal.returns
returns c =
    let k = c.self.invariant (ap (λ (t : Track). t.whole) c.self.view_is ∙ c.requires.right.whole) in
    let z : c.self.inside.standing.sizes.items ≡ sizes_of c.args.problem.now = ap (λ (t : Track). t.sizes) c.self.view_is ∙ c.requires.right.sizes in
    let l : length c.self.inside.standing.sizes.items ≡ length c.args.problem.now.nodes = ap (λ (x : List ℕ). length x) z ∙ sizes_length c.args.problem.now.nodes in
    let a = c.requires.node in
    ok_then c.allowed_by.result _ _ c.allowed_by.ensures (λ s e. subst (λ (t : Track). IsAllowed t.facts c.args.node (size_of c.args.problem.now c.args.node) s) c.self.view_is
    (allowed_is _ _ _ _ c.args.node (size_of c.args.problem.now c.args.node) c.index.result.now s k.standing (omega arith) c.index.ensures (ap (λ (x : List ℕ). get_or x c.args.node 0) z ∙ sizes_at c.args.problem.now c.args.node) e))
