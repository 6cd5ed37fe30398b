use Rattle.std.specs.Prelude.{All}
use Rattle.std.proofs.Common.{ℕ, List, sym, subst}
use Rattle.std.proofs.lemmas.List.Elements.{All-get_or}
use Rattle.ul_specifier.specs.Clauses.{ClauseFields}
use Rattle.ul_prepared.specs.Permitted.{IsPermitted, IsSetOf}
use Rattle.ul_prepared.proofs.permitted.Sets.found.Goals as goal

pub returns : goal.returns
returns c =
    let names = c.args.names.now in
    let of = IsSetOf names in
    let list = c.as_slice-list.result.now in
    let one = c.index-list-place.result in
    let own = subst of (sym c.index-list-place.is)
    (All-get_or of list c.in_ok-place.field-0.now one c.if-place-list.false (subst (All of) (sym c.as_slice-list.ensures.value) c.requires)) in
    subst (λ (k : ℕ). IsPermitted names k c.args.specifiers.now one.set) c.if-one-name.false
    (subst (λ (s : List ClauseFields). IsPermitted names one.name s one.set) (c.same_specifiers.ensures c.if-not-same_specifiers.false) own)
