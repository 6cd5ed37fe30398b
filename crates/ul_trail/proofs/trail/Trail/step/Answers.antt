use Rattle.std.proofs.Common.{◌≡◌, ℕ, ◌<◌, Some, slice_get, get_or, length, ap, refl, subst, sym, ◌∙◌}
use Rattle.ul_trail.specs.Track.{Track}
use Rattle.ul_trail.proofs.Reading.{read_length, step_is}
use Rattle.ul_trail.proofs.trail.Trail.step.Goals as goal

pub step-requires : goal.step-requires
step-requires c = subst (λ (n : ℕ). c.args.place < n)
    (sym (ap (λ (t : Track). length t.steps) c.self.view_is) ∙ read_length c.self.inside.held.places.items c.self.inside.held.others.items c.self.inside.watching.terms.items) c.requires

pub returns : goal.returns
returns c =
    let within : c.args.place < length c.self.inside.held.places.items = subst (λ (n : ℕ). c.args.place < n)
    (sym (ap (λ (t : Track). length t.steps) c.self.view_is) ∙ read_length c.self.inside.held.places.items c.self.inside.held.others.items c.self.inside.watching.terms.items) c.requires in
    subst (λ (t : Track). slice_get t.steps c.args.place ≡ Some c.in_ok-step.step) c.self.view_is
    (step_is c.self.inside.held.places.items c.self.inside.held.others.items c.self.inside.watching.terms.items c.args.place (get_or c.self.inside.held.places.items c.args.place 0) c.terms_at.result.now c.in_ok-step.step within refl c.terms_at.ensures c.in_ok-step.ensures)
