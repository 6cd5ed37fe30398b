use Rattle.std.proofs.Common.{◌++◌, sym, ap, ◌∙◌, append-nil}
use Rattle.std.specs.Prelude.{Some, None, codes, string_bytes}
use Rattle.ul_gen.proofs.Written.{wants_joined, three_put}
use Rattle.ul_gen.proofs.documents.put_needs.Goals as goal

pub returns-in-None-None : goal.returns-in-None-None
returns-in-None-None c =
    sym (append-nil (string_bytes c.args.text.now))
    ∙ ap (λ z. string_bytes c.args.text.now ++ z) (wants_joined c.args.seed c.args.size c.args.k c.args.version _ _ None None c.need_at.ensures c.need_at-2.ensures c.in-None-None.is-0 c.in-None-None.is-1)

pub returns-in_ok-put_need-in-Some-Some-2 : goal.returns-in_ok-put_need-in-Some-Some-2
returns-in_ok-put_need-in-Some-Some-2 c =
    three_put _ _ _ _ _ _ _ c.in_ok-put_need-in-Some-Some.ensures c.in_ok-push_str-in-Some-Some.ensures.bytes c.in_ok-put_need-in-Some-Some-2.ensures
    ∙ ap (λ z. string_bytes c.args.text.now ++ z) (wants_joined c.args.seed c.args.size c.args.k c.args.version _ _ (Some c.in-Some-Some.first) (Some c.in-Some-Some.second) c.need_at.ensures c.need_at-2.ensures c.in-Some-Some.is-0 c.in-Some-Some.is-1)

pub returns-in_ok-put_need-in-Some-None : goal.returns-in_ok-put_need-in-Some-None
returns-in_ok-put_need-in-Some-None c =
    c.in_ok-put_need-in-Some-None.ensures
    ∙ ap (λ z. string_bytes c.args.text.now ++ z) (wants_joined c.args.seed c.args.size c.args.k c.args.version _ _ (Some c.in-Some-None.first) None c.need_at.ensures c.need_at-2.ensures c.in-Some-None.is-0 c.in-Some-None.is-1)

pub returns-in_ok-put_need-in-None-Some : goal.returns-in_ok-put_need-in-None-Some
returns-in_ok-put_need-in-None-Some c =
    c.in_ok-put_need-in-None-Some.ensures
    ∙ ap (λ z. string_bytes c.args.text.now ++ z) (wants_joined c.args.seed c.args.size c.args.k c.args.version _ _ None (Some c.in-None-Some.second) c.need_at.ensures c.need_at-2.ensures c.in-None-Some.is-0 c.in-None-Some.is-1)
