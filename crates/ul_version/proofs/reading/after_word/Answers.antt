use Rattle.std.proofs.Common.{◌≡◌, arith, sym, ◌∙◌, length}
use Rattle.std.proofs.lemmas.List.{take_rest, length-map}
use Rattle.std.specs.Char.{to_ascii_lowercase}
use Rattle.ul_version.specs.Reading.{lowercase_text}
use Rattle.ul_version.proofs.Cuts.{after_word-short, after_word-next, after_word-differs, after_word-end}
use Rattle.ul_version.proofs.reading.after_word.Goals as goal

pub returns-then-input-word : goal.returns-then-input-word
returns-then-input-word c =
    let same : length (lowercase_text c.args.input.now) ≡ length c.args.input.now = length-map c.args.input.now to_ascii_lowercase in
    sym (after_word-short c.args.word.now (lowercase_text c.args.input.now) (omega arith))

pub returns-then-to_ascii_lowercase-word : goal.returns-then-to_ascii_lowercase-word
returns-then-to_ascii_lowercase-word c =
    let k = c.to_ascii_lowercase in
    sym (c.loop-i.invariant ∙ after_word-differs c.args.word.now c.args.input.now c.loop-i.i c.loop-i-test.true (omega arith)
    (λ e. c.if-to_ascii_lowercase-word.true (c.to_ascii_lowercase.ensures.value ∙ e)))

pub loop-i-preserved : goal.loop-i-preserved
loop-i-preserved c =
    c.loop-i.invariant ∙ after_word-next c.args.word.now c.args.input.now c.loop-i.i c.loop-i-test.true (omega arith)
    (sym c.to_ascii_lowercase.ensures.value ∙ c.if-to_ascii_lowercase-word.false)

pub returns : goal.returns
returns c =
    let n : c.loop-i.i ≡ length c.args.word.now = omega arith in
    rw (take_rest c.args.input.now (length c.args.word.now), ← n)
    (sym (c.loop-i.invariant ∙ after_word-end c.args.word.now (lowercase_text _) c.loop-i.i (omega arith)))
