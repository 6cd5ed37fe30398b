use Rattle.std.proofs.Common.{◌≡◌, ◌++◌, ℕ, [], ◌∷◌, true, false, length, string_bytes, arith, ap, ◌∙◌}
use Rattle.std.proofs.Math.ListN.{length-append}
use Rattle.std.proofs.lemmas.Str.{encode_ascii}
use Rattle.ul_tree.specs.Sample.{has_key, fresh}
use Rattle.ul_tree.specs.Views.{points_view}
use Rattle.ul_tree.proofs.FreshTexts.{key_short, fresh_more, fresh_end}
use Rattle.ul_tree.proofs.samples.fresh_text.Goals as goal

pub loop-text-smaller : goal.loop-text-smaller
loop-text-smaller c =
    let bs = points_view c.args.points.now in
    let text = string_bytes c.loop-text.text in
    let found : has_key bs text ≡ true = cc (c.has_point.ensures, c.as_str.ensures.value, c.loop-text-test.true) in
    let short = key_short bs text found in
    let more : string_bytes c.push.new.self ≡ text ++ 120 ∷ [] = c.in_ok-push.ensures.bytes ∙ ap (λ t. text ++ t) (encode_ascii 120 (omega arith)) in
    let longer = ap (length {A = ℕ}) more in
    omega (arith, short, longer, length-append text (120 ∷ []))

pub loop-text-preserved : goal.loop-text-preserved
loop-text-preserved c =
    let bs = points_view c.args.points.now in
    let text = string_bytes c.loop-text.text in
    let found : has_key bs text ≡ true = cc (c.has_point.ensures, c.as_str.ensures.value, c.loop-text-test.true) in
    let short = key_short bs text found in
    let more : string_bytes c.push.new.self ≡ text ++ 120 ∷ [] = c.in_ok-push.ensures.bytes ∙ ap (λ t. text ++ t) (encode_ascii 120 (omega arith)) in
    let longer = ap (length {A = ℕ}) more in
    record {
      bounded = omega (arith, short, longer, length-append text (120 ∷ []));
      left = fresh_more bs text (string_bytes c.push.new.self) (fresh bs) c.loop-text.invariant.left found more;
    }

pub returns : goal.returns
returns c =
    let bs = points_view c.args.points.now in
    let text = string_bytes c.loop-text.text in
    let none : has_key bs text ≡ false = cc (c.has_point.ensures, c.as_str.ensures.value, c.loop-text-test.false) in
    fresh_end bs text (fresh bs) c.loop-text.invariant.left none c.loop-text.invariant.bounded
