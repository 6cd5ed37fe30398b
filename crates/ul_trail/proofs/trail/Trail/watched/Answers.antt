use Rattle.std.proofs.Common.{[], length, ap, subst, sym, refl, ◌∙◌, ◌<◌}
use Rattle.std.proofs.lemmas.Option.{slice_get_read, get_or_from_slice_get}
use Rattle.ul_trail.specs.Track.{Track}
use Rattle.ul_trail.specs.Watched.{places_on}
use Rattle.ul_trail.proofs.trail.Trail.watched.Goals as goal

pub returns : goal.returns
returns c =
    let k = c.self.invariant (ap (λ (t : Track). t.whole) c.self.view_is ∙ c.requires.whole) in
    let l : c.args.node < length c.self.inside.watching.rows.items = subst (λ (t : Track). c.args.node < t.width) (sym c.self.view_is) c.requires.node in
    let r = slice_get_read c.self.inside.watching.rows.items (length c.self.inside.watching.rows.items) c.args.node c.index.result.now refl l c.index.ensures in
    c.as_vec.ensures ∙ (sym (get_or_from_slice_get c.self.inside.watching.rows.items c.args.node c.index.result.now [] r) ∙ (k.watched.row c.args.node l ∙ ap (λ (t : Track). places_on c.args.node t.terms) c.self.view_is))
