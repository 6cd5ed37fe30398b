use Rattle.std.proofs.Common.{◌∙◌, ap, sym}
use Rattle.ul_version.specs.Ascii.{is_white, text_between}
use Rattle.ul_requirement.proofs.Spelled.{front_address}
use Rattle.ul_requirement.proofs.requirement.Requirement.read.Goals as goal

pub returns-then-begins : goal.returns-then-begins
returns-then-begins c =
    front_address c.args.text.now c.trimmed-input.result.now _ (c.trimmed-input.ensures ∙ ap (text_between is_white) c.as_bytes.ensures.value)
    c.in_ok-name.ensures.front (sym c.begins.ensures ∙ c.if-begins.true)
