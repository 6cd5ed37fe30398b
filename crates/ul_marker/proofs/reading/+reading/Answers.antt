use Rattle.std.proofs.Common.{◌≡◌, ◌+◌, ◌-◌, ◌<◌, ◌≤◌, List, [], ◌∷◌, length, take, drop, arith, ap, sym, ◌∙◌}
use Rattle.std.specs.Prelude.{map}
use Rattle.std.proofs.lemmas.List.{drop-drop, length-drop, map-append, take_all, take_rest}
use Rattle.std.proofs.lemmas.Result.{err_from_is_err_and}
use Rattle.ul_marker.specs.Reading.{part_at, pieces_from}
use Rattle.ul_marker.specs.declared.marker.Marker.{Marker}
use Rattle.ul_marker.proofs.Chains.{atom-comparison, atom-inside, atom-too_deep, chain-none, chain-some, each-last, each-more, each-none, piece-front}
use Rattle.ul_marker.proofs.Refusals.{Reads-err}
use Rattle.ul_marker.specs.Views.{marker_view}
use Rattle.ul_marker.proofs.reading.+reading.Goals as goal

pub read_atom-returns-in_default : goal.read_atom-returns-in_default
read_atom-returns-in_default t c = rw (atom-comparison c.args.depth c.args.tokens.now (sym c.in_default.ensures)) c.comparison.ensures

pub read_atom-returns-then-depth-eq0 : goal.read_atom-returns-then-depth-eq0
read_atom-returns-then-depth-eq0 t c = atom-too_deep c.args.depth c.args.tokens.now c.in-Some.inner.now c.if-depth-eq0.true (sym c.in-Some.ensures)

pub read_atom-returns : goal.read_atom-returns
read_atom-returns t c =
    rw (atom-inside c.args.depth (c.args.depth - 1) c.args.tokens.now c.in-Some.inner.now (omega arith) (sym c.in-Some.ensures)) c.read_chain.ensures

pub read_chain-returns-in_err-part : goal.read_chain-returns-in_err-part
read_chain-returns-in_err-part t c =
    let p = err_from_is_err_and c.from_residual.result c.from_residual.ensures.1 in
    let kind = c.args.kind in
    let read = part_at kind c.args.depth in
    let xs = c.parts.rest.now in
    let n = c.part_len.result in
    let piece = piece-front kind xs n c.part_len.ensures.last c.part_len.ensures.more in
    rw (p.1, p.2)
    (Reads-err marker_view marker_view c.in_err-part.field-0.0 (read c.split_at.result.0.now) _
    (λ none. chain-none kind c.args.depth c.args.tokens.now
    (c.parts.invariant ∙ each-none read (map marker_view c.parts.parts.items) (pieces_from kind 0 xs) (take n xs) piece.0 piece.1 (rw c.split_at.ensures.front at none)))
    c.in_err-part.ensures)

pub read_chain-returns-in_default : goal.read_chain-returns-in_default
read_chain-returns-in_default t c =
    let kind = c.args.kind in
    let read = part_at kind c.args.depth in
    let xs = c.parts.rest.now in
    let n = c.part_len.result in
    let past : length xs ≤ n = omega (arith, ap length c.split_at.ensures.back, length-drop n xs) in
    let whole : take n xs ≡ xs = take_all n xs past in
    let front : c.split_at.result.0.now ≡ xs = c.split_at.ensures.front ∙ whole in
    rw c.joined.ensures
    (chain-some kind c.args.depth c.args.tokens.now (map marker_view c.in_ok-parts.parts.items)
    (c.parts.invariant ∙ each-last read (map marker_view c.parts.parts.items) _ (pieces_from kind 0 xs) xs (marker_view c.in_ok-part.part)
    (c.part_len.ensures.last past) (rw front at c.in_ok-part.ensures)
    (ap (λ (l : List Marker). map marker_view l) c.in_ok-parts.ensures ∙ map-append marker_view c.parts.parts.items (c.in_ok-part.part ∷ []))))

pub read_chain-parts-preserved : goal.read_chain-parts-preserved
read_chain-parts-preserved t c =
    let kind = c.args.kind in
    let read = part_at kind c.args.depth in
    let xs = c.parts.rest.now in
    let n = c.part_len.result in
    let more : n < length xs = omega (arith, ap length c.split_at.ensures.back, length-drop n xs) in
    rw (take_rest c.split_at.result.1.now 1, c.split_at.ensures.back, drop-drop 1 n xs)
    (c.parts.invariant ∙ each-more read (map marker_view c.parts.parts.items) _ (pieces_from kind 0 xs) (take n xs) (pieces_from kind 0 (drop (n + 1) xs)) (marker_view c.in_ok-part.part)
    (c.part_len.ensures.more more) (rw c.split_at.ensures.front at c.in_ok-part.ensures)
    (ap (λ (l : List Marker). map marker_view l) c.in_ok-parts.ensures ∙ map-append marker_view c.parts.parts.items (c.in_ok-part.part ∷ [])))
