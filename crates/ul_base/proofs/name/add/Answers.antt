use Rattle.std.proofs.Common.{ℕ, ◌<◌, ◌++◌, ◌∷◌, [], ◌∙◌, ap, sym, subst, string_bytes}
use Rattle.std.specs.Char.{to_ascii_lowercase}
use Rattle.ul_base.proofs.Names.{adds_separator, adds_letter, letter-below}
use Rattle.ul_base.proofs.name.add.Goals as goal

pub returns-then-separates : goal.returns-then-separates
returns-then-separates c = adds_separator _ c.args.run c.args.byte (sym c.separates.ensures ∙ c.if-separates.true)

pub returns : goal.returns
returns c =
    let letter = sym c.is_ascii_alphanumeric.ensures.value ∙ c.if-not-is_ascii_alphanumeric.false in
    let low = c.from.ensures ∙ c.to_ascii_lowercase.ensures.value in
    let below : c.from.result < 128 = let P : ℕ → Type 0 = λ n. n < 128 in subst P (sym low) (letter-below c.args.byte letter) in
    adds_letter _ _ c.args.run c.args.byte letter
    (c.in_ok-push.ensures.bytes ∙ ap (λ t. string_bytes c.close.new.text ++ t) (c.push.ensures.ascii below ∙ ap (λ b. b ∷ []) low)
    ∙ ap (λ t. t ++ to_ascii_lowercase c.args.byte ∷ []) c.in_ok-close.ensures)
