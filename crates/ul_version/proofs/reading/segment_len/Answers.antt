use Rattle.std.proofs.Common.{List, ℕ, ap, map, ◌∙◌, ◌+◌, drop, sym, ◌∷◌, take}
use Rattle.ul_version.specs.Reading.{lowercase_text}
use Rattle.ul_version.proofs.Cuts.{pieces-lowered}
use Rattle.ul_version.proofs.reading.segment_len.Goals as goal

pub returns-clause-last : goal.returns-clause-last
returns-clause-last c = λ all. pieces-lowered c.args.input.now ∙ ap (map lowercase_text) (c.piece_len.ensures.last all)

pub returns-clause-more : goal.returns-clause-more
returns-clause-more c = λ lt.
    pieces-lowered c.args.input.now ∙ (ap (map lowercase_text) (c.piece_len.ensures.more lt)
    ∙ ap (λ (ps : List (List ℕ)). lowercase_text (take c.piece_len.result c.args.input.now) ∷ ps)
    (sym (pieces-lowered (drop (c.piece_len.result + 1) c.args.input.now))))
