use Rattle.std.proofs.Common.{◌≡◌, true, false, ap, sym, ◌∙◌, string_bytes}
use Rattle.std.proofs.lemmas.List.{drop_all}
use Rattle.std.specs.Str.{bytes_eq}
use Rattle.ul_tree.specs.Sample.{has_key}
use Rattle.ul_tree.specs.Views.{points_view}
use Rattle.ul_tree.proofs.FreshTexts.{key_met, key_passed}
use Rattle.ul_tree.proofs.samples.has_point.Goals as goal

pub loop-point-preserved : goal.loop-point-preserved
loop-point-preserved c =
    let e : bytes_eq (string_bytes c.point-item.result.0) c.args.text.now ≡ false = cc (c.eq.ensures, c.as_str.ensures.value, c.if-eq.false) in
    key_passed c.args.points.now c.loop-point.point-index c.point-item.result c.args.text.now c.loop-point-test.true c.point-item.is e ∙ c.loop-point.invariant

pub returns-then-eq : goal.returns-then-eq
returns-then-eq c =
    let e : bytes_eq (string_bytes c.point-item.result.0) c.args.text.now ≡ true = cc (c.eq.ensures, c.as_str.ensures.value, c.if-eq.true) in
    sym (key_met c.args.points.now c.loop-point.point-index c.point-item.result c.args.text.now c.loop-point-test.true c.point-item.is e) ∙ c.loop-point.invariant

pub returns : goal.returns
returns c = sym (ap (λ ps. has_key (points_view ps) c.args.text.now) (drop_all c.loop-point.point-index c.args.points.now c.loop-point-test.false)) ∙ c.loop-point.invariant
