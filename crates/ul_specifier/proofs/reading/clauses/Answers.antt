use Rattle.std.proofs.Common.{◌≡◌, ◌+◌, ◌<◌, arith, sym, ◌∙◌, length, take, drop, inl, inr}
use Rattle.std.proofs.lemmas.List.{take_rest, take_all, drop-drop}
use Rattle.std.proofs.lemmas.Bool.{cases_lt, eqb-true}
use Rattle.std.specs.declared.alloc.Global.{Global}
use Rattle.std.proofs.lemmas.Result.{err_from_is_err_and}
use Rattle.ul_specifier.specs.Clauses.{ClauseFields}
use Rattle.ul_specifier.specs.Views.{clauses_view}
use Rattle.ul_specifier.specs.Reading.{clause_of}
use Rattle.ul_specifier.proofs.Faults.{Reads-err}
use Rattle.ul_specifier.proofs.Texts.{list-end, list-last, list-last_none, list-more, list-none, not_empty}
use Rattle.ul_specifier.proofs.reading.clauses.Goals as goal

pub returns-in_err-clause : goal.returns-in_err-clause
returns-in_err-clause c =
    let p = err_from_is_err_and c.from_residual.result c.from_residual.ensures.1 in
    let ts = c.pieces.rest.now in
    let n = c.piece_len-n.result in
    rw (p.1, p.2)
    (Reads-err (λ (s : ClauseFields). s) (clauses_view {Z = Global}) c.in_err-clause.field-0.0 (clause_of (take n ts)) _
    (λ none. c.pieces.invariant ∙ elim (cases_lt n (length ts)) [
      | inl more ↦ list-none ts (take n ts) (drop (n + 1) ts) c.pieces.list.items (c.piece_len-n.ensures.more more) none
      | inr last ↦
          let whole : take n ts ≡ ts = take_all n ts last in
          list-last_none ts c.pieces.list.items (not_empty (length ts) c.pieces-test.ensures) (c.piece_len-n.ensures.last last) (rw whole at none)
    ])
    c.in_err-clause.ensures)

pub returns-then-n-rest : goal.returns-then-n-rest
returns-then-n-rest c =
    let ts = c.pieces.rest.now in
    let n = c.piece_len-n.result in
    let whole : take n ts ≡ ts = take_all n ts c.if-n-rest.true in
    c.pieces.invariant ∙ list-last ts c.pieces.list.items _ c.in_ok-clause.clause (not_empty (length ts) c.pieces-test.ensures) (c.piece_len-n.ensures.last c.if-n-rest.true)
    (rw whole at c.in_ok-clause.ensures) c.in_ok-push.ensures.items

pub pieces-preserved : goal.pieces-preserved
pieces-preserved c =
    let ts = c.pieces.rest.now in
    let n = c.piece_len-n.result in
    let more : n < length ts = omega arith in
    rw (take_rest ts n, take_rest (drop n ts) 1, drop-drop 1 n ts)
    (c.pieces.invariant ∙ list-more ts (take n ts) (drop (n + 1) ts) c.pieces.list.items _ c.in_ok-clause.clause (c.piece_len-n.ensures.more more)
    c.in_ok-clause.ensures c.in_ok-push.ensures.items)

pub returns : goal.returns
returns c = c.pieces.invariant ∙ list-end c.pieces.rest.now c.pieces.list.items (eqb-true (length c.pieces.rest.now) 0 (sym c.pieces-test.ensures))
