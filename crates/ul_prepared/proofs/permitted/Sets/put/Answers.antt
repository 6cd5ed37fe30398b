use Rattle.std.specs.Prelude.{All}
use Rattle.std.proofs.Common.{sym, subst}
use Rattle.std.proofs.lemmas.List.Elements.{All-push}
use Rattle.ul_prepared.specs.Permitted.{IsSetOf}
use Rattle.ul_prepared.proofs.permitted.Sets.put.Goals as goal

pub returns-in_err-insert : goal.returns-in_err-insert
returns-in_err-insert c = let of = IsSetOf c.args.names.now in
    subst (All of) (sym c.in_ok-push.ensures.items) (All-push of c.args.self.now.list.items c.args.one c.requires.sets c.requires.one)

pub returns : goal.returns
returns c = let of = IsSetOf c.args.names.now in
    subst (All of) (sym c.in_ok-push.ensures.items) (All-push of c.args.self.now.list.items c.args.one c.requires.sets c.requires.one)
