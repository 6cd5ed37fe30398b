use Rattle.std.proofs.Common.{◌≡◌, ◌++◌, ◌∷◌, [], List, refl, sym, ap, ◌∙◌, length, arith}
use Rattle.std.proofs.lemmas.Bool.{eqb-true}
use Rattle.std.proofs.lemmas.Result.{err_from_is_err_and}
use Rattle.ul_specifier.specs.Reading.{after_all, is_blank}
use Rattle.ul_specifier.proofs.ForCallers.{not_empty}
use Rattle.ul_marker.proofs.Depths.{deep-none, level-push, level_after}
use Rattle.ul_marker.proofs.Refusals.{tokens-refused}
use Rattle.ul_marker.proofs.Tokens.{onto-end, onto-next, onto-none, tokens-shorter}
use Rattle.ul_marker.specs.Reading.{marker_in, open_count}
use Rattle.ul_marker.specs.Words.{front_token, tokens_of}
use Rattle.ul_marker.specs.declared.words.Token.{Token}
use Rattle.ul_marker.proofs.words.tokens.Goals as goal

pub returns-in_err-token : goal.returns-in_err-token
returns-in_err-token c =
    let p = err_from_is_err_and c.from_residual.result c.from_residual.ensures.1 in
    let xs = c.tokens.rest.now in
    rw (p.1, p.2)
    (tokens-refused c.in_err-token.field-0.0 (front_token xs) (tokens_of c.args.input.now)
    (λ none. c.tokens.invariant.found ∙ onto-none xs c.tokens.list.items (not_empty (length xs) c.tokens-test.ensures) none)
    c.in_err-token.ensures)

pub returns-then-depth-from : goal.returns-then-depth-from
returns-then-depth-from c =
    let token = c.in_ok-token.token in
    let seen = c.tokens.list.items ++ token ∷ [] in
    let level : level_after 0 seen ≡ c.opened-depth.result =
    level-push 0 c.tokens.list.items token ∙ ap (open_count token) (sym c.tokens.invariant.depth) ∙ sym c.opened-depth.ensures in
    ap marker_in (c.tokens.invariant.found ∙ onto-next c.tokens.rest.now token c.in_ok-token.after.now c.tokens.list.items seen c.in_ok-token.ensures refl)
    ∙ deep-none seen (tokens_of (after_all is_blank c.in_ok-token.after.now)) (omega arith)

pub tokens-smaller : goal.tokens-smaller
tokens-smaller c =
    rw c.after_space-rest.ensures
    (tokens-shorter c.tokens.rest.now c.in_ok-token.token c.in_ok-token.after.now c.in_ok-token.ensures)

pub tokens-preserved : goal.tokens-preserved
tokens-preserved c = record {
  found =
      rw c.after_space-rest.ensures
      (c.tokens.invariant.found ∙ onto-next c.tokens.rest.now c.in_ok-token.token c.in_ok-token.after.now c.tokens.list.items _ c.in_ok-token.ensures c.in_ok-list.ensures);
  depth =
      c.opened-depth.ensures ∙ ap (open_count c.in_ok-token.token) c.tokens.invariant.depth ∙ sym (level-push 0 c.tokens.list.items c.in_ok-token.token)
      ∙ ap (λ (ts : List Token). level_after 0 ts) (sym c.in_ok-list.ensures);
  fits = omega arith;
}

pub returns : goal.returns
returns c = c.tokens.invariant.found ∙ onto-end c.tokens.rest.now c.tokens.list.items (eqb-true (length c.tokens.rest.now) 0 (sym c.tokens-test.ensures))
