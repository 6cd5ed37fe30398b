use Rattle.std.proofs.Common.{◌≡◌, ◌+◌, ◌<◌, arith, sym, ◌∙◌, length, take, drop, inl, inr}
use Rattle.std.proofs.lemmas.List.{take_rest, take_all, drop-drop}
use Rattle.std.proofs.lemmas.Bool.{cases_lt, eqb-true}
use Rattle.std.proofs.lemmas.Result.{err_from_is_err_and}
use Rattle.std.specs.declared.alloc.Global.{Global}
use Rattle.ul_marker.specs.Readers.{versions_view}
use Rattle.ul_marker.proofs.Listed.{list-end, list-last, list-more, list-none}
use Rattle.ul_marker.proofs.Refusals.{Reads-refused}
use Rattle.ul_marker.proofs.comparison.versions.Goals as goal

pub returns-in_err-add_version : goal.returns-in_err-add_version
returns-in_err-add_version c =
    let p = err_from_is_err_and c.from_residual.result c.from_residual.ensures.1 in
    let xs = c.pieces.rest.now in
    let n = c.piece_len-n.result in
    rw (p.1, p.2)
    (Reads-refused (versions_view {Z = Global}) c.in_err-add_version.field-0.0 _
    (λ e. c.pieces.invariant ∙ elim (cases_lt n (length xs)) [
      | inl more ↦ list-none xs (take n xs) _ c.pieces.list.items (c.piece_len-n.ensures.more more) (c.in_err-add_version.ensures.no_reading e)
      | inr last ↦
          let whole : take n xs ≡ xs = take_all n xs last in
          list-none xs xs _ c.pieces.list.items (c.piece_len-n.ensures.last last) (rw whole at (c.in_err-add_version.ensures.no_reading e))
    ]))

pub returns-then-n-rest : goal.returns-then-n-rest
returns-then-n-rest c =
    let xs = c.pieces.rest.now in
    let n = c.piece_len-n.result in
    c.pieces.invariant ∙ list-last xs (take n xs) c.pieces.list.items _ (c.piece_len-n.ensures.last c.if-n-rest.true) (take_all n xs c.if-n-rest.true)
    c.in_ok-add_version.ensures.added

pub pieces-preserved : goal.pieces-preserved
pieces-preserved c =
    let xs = c.pieces.rest.now in
    let n = c.piece_len-n.result in
    let more : n < length xs = omega arith in
    rw (take_rest xs n, take_rest (drop n xs) 1, drop-drop 1 n xs)
    (c.pieces.invariant ∙ list-more xs (take n xs) (drop (n + 1) xs) c.pieces.list.items _ (c.piece_len-n.ensures.more more) c.in_ok-add_version.ensures.added)

pub returns : goal.returns
returns c = c.pieces.invariant ∙ list-end c.pieces.rest.now c.pieces.list.items (eqb-true (length c.pieces.rest.now) 0 (sym c.pieces-test.ensures))
