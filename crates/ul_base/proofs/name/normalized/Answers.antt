use Rattle.std.proofs.Common.{◌≡◌, ◌++◌, ◌&&◌, ◌+◌, [], drop, ◌∙◌, ap, sym, string_bytes}
use Rattle.std.proofs.lemmas.List.{drop_all, drop_more}
use Rattle.std.specs.List.{list_all}
use Rattle.ul_base.specs.Names.{is_name_byte, form_behind}
use Rattle.ul_base.proofs.Names.{form-end}
use Rattle.ul_base.proofs.name.normalized.Goals as goal

pub loop-byte-preserved : goal.loop-byte-preserved
loop-byte-preserved c =
    let rest = drop (c.loop-byte.byte-index + 1) c.args.bytes.now in
    let next = sym (drop_more c.args.bytes.now c.loop-byte.byte-index 0 c.loop-byte-test.true) in record {
      form = c.in_ok-run.ensures.1 rest ∙ ap (λ t. string_bytes c.loop-byte.text ++ form_behind c.loop-byte.run t) next ∙ c.loop-byte.invariant.form;
      name_bytes = sym (ap (λ t. t && list_all is_name_byte rest) c.in_ok-run.ensures.0) ∙ ap (list_all is_name_byte) next ∙ c.loop-byte.invariant.name_bytes;
    }

pub returns-clause-value : goal.returns-clause-value
returns-clause-value c =
    let over : drop c.loop-byte.byte-index c.args.bytes.now ≡ [] = drop_all c.loop-byte.byte-index c.args.bytes.now c.loop-byte-test.false in (
      sym c.loop-byte.invariant.name_bytes ∙ ap (list_all is_name_byte) over,
      c.in_ok-close.ensures ∙ ap (λ t. string_bytes c.loop-byte.text ++ t) (sym (form-end c.loop-byte.run))
          ∙ ap (λ t. string_bytes c.loop-byte.text ++ form_behind c.loop-byte.run t) (sym over) ∙ c.loop-byte.invariant.form,
    )
