use Rattle.std.proofs.Common.{◌≡◌, ◌<◌, List, ℕ, [], ◌∷◌, set, length, true, false, sym, refl, subst, arith, ◌∙◌}
use Rattle.std.proofs.lemmas.Option.{get_or_from_slice_get, slice_get_read}
use Rattle.ul_ranges.specs.Flags.{has}
use Rattle.ul_placing.specs.Reach.{MarksPlaces}
use Rattle.ul_placing.proofs.Marking.{marked_one}
use Rattle.ul_placing.proofs.reach.mark.Goals as goal

pub returns : goal.returns
returns c =
    let marks = c.args.marks.now.items in
    let within : c.args.place < length marks = omega (arith, c.if-at-len.false, c.len.ensures) in
    let new : has c.args.place marks ≡ false = get_or_from_slice_get marks c.args.place c.index.result.now false (slice_get_read _ _ _ _ refl within c.index.ensures) ∙ c.if-index.false in
    subst (λ (q : List ℕ). MarksPlaces (c.args.place ∷ []) marks c.args.queue.now.items (set marks c.args.place true) q) (sym c.in_ok-push.ensures.items)
    (marked_one marks c.args.queue.now.items c.args.place within new)
