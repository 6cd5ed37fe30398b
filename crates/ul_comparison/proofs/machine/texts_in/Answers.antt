use Rattle.std.proofs.Common.{◌+◌, ◌∙◌, ℕ, Bor, List, [], drop, map, get_or, sym}
use Rattle.std.proofs.lemmas.List.{at_drop_more}
use Rattle.std.specs.Prelude.{string_bytes}
use Rattle.serde_json.specs.View.{view}
use Rattle.ul_comparison.specs.MachineFiles.{refusal_of, texts_in}
use Rattle.ul_comparison.proofs.TextsRead.{passed_on, texts_refused, texts_then}
use Rattle.ul_comparison.proofs.machine.texts_in.Goals as goal

pub returns-in_err-text_in-clause-texts : goal.returns-in_err-text_in-clause-texts
returns-in_err-text_in-clause-texts c =
    let none : Bor (List ℕ) = record { ref_ptr = (0, 0); now = [] } in
    let key = get_or c.args.keys.now c.loop-key.key-index none in
    let file = view c.args.file.now in
    let all = texts_in (map (λ k. k.now) c.args.keys.now) file in
    passed_on _ c.from_residual-in_err-text_in.result c.in_err-text_in.field-0.0 all c.from_residual-in_err-text_in.ensures.1
    (texts_refused (map string_bytes c.loop-key.texts.items) all key.now (map (λ k. k.now) (drop (c.loop-key.key-index + 1) c.args.keys.now)) file (refusal_of c.in_err-text_in.field-0.0)
    (sym (at_drop_more (λ ks. texts_then (map string_bytes c.loop-key.texts.items) (texts_in (map (λ k. k.now) ks) file)) c.args.keys.now c.loop-key.key-index none c.loop-key-test.true) ∙ c.loop-key.invariant.found)
    c.in_err-text_in.ensures)
