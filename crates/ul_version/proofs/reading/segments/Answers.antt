use Rattle.std.proofs.Common.{◌≡◌, ◌+◌, ◌<◌, arith, ◌∙◌, length, take, drop, inl, inr, []}
use Rattle.std.specs.List.{slice_split}
use Rattle.std.proofs.lemmas.List.{take_rest, take_all, drop-drop}
use Rattle.std.proofs.lemmas.Bool.{cases_lt}
use Rattle.ul_version.specs.Views.{segments_view}
use Rattle.ul_version.specs.declared.fields.Segment.{Segment}
use Rattle.ul_version.proofs.Faults.{Reads-err}
use Rattle.std.specs.declared.alloc.Global.{Global}
use Rattle.std.proofs.lemmas.Result.{err_from_is_err_and}
use Rattle.ul_version.specs.Reading.{lowercase_text, is_separator, segment}
use Rattle.ul_version.proofs.Cuts.{pieces-none, pieces-next, pieces-last}
use Rattle.ul_version.proofs.reading.segments.Goals as goal

pub returns-in_err-piece : goal.returns-in_err-piece
returns-in_err-piece c =
    let p = err_from_is_err_and c.from_residual.result c.from_residual.ensures.1 in
    let ts = c.pieces.rest.now in
    let n = c.segment_len-count.result in
    rw (p.1, p.2)
    (Reads-err (λ (s : Segment). s) (segments_view {Z = Global}) c.in_err-piece.field-0.0 (segment (lowercase_text (take n ts))) _
    (λ none. c.pieces.invariant ∙ elim (cases_lt n (length ts)) [
      | inl more ↦ pieces-none c.pieces.list.items (lowercase_text (take n ts)) _ _ (c.segment_len-count.ensures.more more) none
      | inr last ↦
          let whole : take n ts ≡ ts = take_all n ts last in
          pieces-none c.pieces.list.items (lowercase_text ts) [] _ (c.segment_len-count.ensures.last last) (rw whole at none)
    ])
    c.in_err-piece.ensures)

pub returns-then-count-rest : goal.returns-then-count-rest
returns-then-count-rest c =
    let ts = c.pieces.rest.now in
    let n = c.segment_len-count.result in
    let whole : take n ts ≡ ts = take_all n ts c.if-count-rest.true in
    rw c.in_ok-push.ensures.items
    (c.pieces.invariant ∙ pieces-last c.pieces.list.items c.in_ok-piece.piece (lowercase_text ts) _ (c.segment_len-count.ensures.last c.if-count-rest.true)
    (rw whole at c.in_ok-piece.ensures))

pub pieces-preserved : goal.pieces-preserved
pieces-preserved c =
    let ts = c.pieces.rest.now in
    let n = c.segment_len-count.result in
    let more : n < length ts = omega arith in
    rw (c.in_ok-push.ensures.items, take_rest ts n, take_rest (drop n ts) 1, drop-drop 1 n ts)
    (c.pieces.invariant ∙ pieces-next c.pieces.list.items c.in_ok-piece.piece (lowercase_text (take n ts)) (slice_split is_separator (lowercase_text (drop (n + 1) ts))) _
    (c.segment_len-count.ensures.more more) c.in_ok-piece.ensures)
