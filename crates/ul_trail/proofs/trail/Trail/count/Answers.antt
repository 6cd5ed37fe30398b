use Rattle.std.proofs.Common.{◌≡◌, length, arith, ap, sym, ◌∙◌}
use Rattle.ul_trail.specs.Track.{Track}
use Rattle.ul_trail.proofs.Reading.{read_length}
use Rattle.ul_trail.proofs.trail.Trail.count.Goals as goal

pub returns-clause-value : goal.returns-clause-value
returns-clause-value c =
    let same : length c.self.inside.held.places.items ≡ length c.args.self.now.steps = sym (read_length c.self.inside.held.places.items c.self.inside.held.others.items c.self.inside.watching.terms.items) ∙ ap (λ (t : Track). length t.steps) c.self.view_is in
    omega arith
