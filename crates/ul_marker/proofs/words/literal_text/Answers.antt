use Rattle.std.proofs.Common.{◌≡◌, rules}
use Rattle.ul_marker.proofs.Tokens.{all-literal, literal-utf8, quoted-is_literal}
use Rattle.ul_marker.proofs.words.literal_text.Goals as goal

pub returns-in_default : goal.returns-in_default
returns-in_default c = absurd (c.in_default.ensures.cases.0 (literal-utf8 c.args.bytes.now (all-literal c.args.quote c.args.bytes.now c.requires.bytes)))

pub invariant_of-result : goal.invariant_of-result
invariant_of-result c =
    let same : c.in-Ok.text.now ≡ c.args.bytes.now = search rules in
    rw (c.in_ok-text.ensures.ok, same) (quoted-is_literal c.args.quote c.args.bytes.now c.requires.quote c.requires.bytes)
