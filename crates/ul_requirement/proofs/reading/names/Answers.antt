use Rattle.std.proofs.Common.{◌<◌, arith, ◌∙◌, length, take, drop}
use Rattle.std.proofs.lemmas.List.{take_rest, drop-drop}
use Rattle.std.proofs.lemmas.Result.{err_from_is_err_and}
use Rattle.std.specs.declared.alloc.Global.{Global}
use Rattle.ul_base.specs.Names.{name_of}
use Rattle.ul_version.specs.Ascii.{is_blank, text_between}
use Rattle.ul_requirement.specs.Answers.{names_view}
use Rattle.ul_requirement.proofs.Faults.{Reads-err}
use Rattle.ul_requirement.proofs.Names.{names-last, names-more, names-none, names-start, names_in_text}
use Rattle.ul_requirement.proofs.reading.names.Goals as goal

pub pieces-init : goal.pieces-init
pieces-init c = names-start c.new-list.result.items c.new-list.ensures.items (names_in_text c.args.input.now)

pub returns-in_err-name : goal.returns-in_err-name
returns-in_err-name c =
    let p = err_from_is_err_and c.from_residual.result c.from_residual.ensures.1 in
    let ts = c.pieces.rest.now in
    let n = c.piece_len-n.result in
    rw (p.1, p.2)
    (Reads-err (λ x. x) (names_view {Z = Global}) c.in_err-name.field-0.0 (name_of (text_between is_blank (take n ts))) _
    (λ none. c.pieces.invariant ∙ names-none ts n c.pieces.list.items c.piece_len-n.ensures.last c.piece_len-n.ensures.more none)
    c.in_err-name.ensures)

pub returns-then-n-rest : goal.returns-then-n-rest
returns-then-n-rest c =
    let ts = c.pieces.rest.now in
    let n = c.piece_len-n.result in
    c.pieces.invariant ∙ names-last ts n c.pieces.list.items _ c.in_ok-name.name c.piece_len-n.ensures.last c.if-n-rest.true c.in_ok-name.ensures c.in_ok-push.ensures.items

pub pieces-preserved : goal.pieces-preserved
pieces-preserved c =
    let ts = c.pieces.rest.now in
    let n = c.piece_len-n.result in
    let more : n < length ts = omega arith in
    rw (take_rest ts n, take_rest (drop n ts) 1, drop-drop 1 n ts)
    (c.pieces.invariant ∙ names-more ts n c.pieces.list.items _ c.in_ok-name.name c.piece_len-n.ensures.more more c.in_ok-name.ensures c.in_ok-push.ensures.items)
