use Rattle.std.proofs.Common.{refl}
use Rattle.std.specs.Vec.{with_item}
use Rattle.ul_region.specs.declared.extra_index.ExtraIndex.{ExtraIndex}
use Rattle.ul_region.proofs.ExtraFacts.{keeps_then, literal_named, put_has, put_keeps}
use Rattle.ul_region.proofs.extra_index.ExtraIndex.put.Goals as goal

pub returns : goal.returns
returns c =
    let before = c.number_of.new.self in
    let number = c.in_ok-number.number in
    let after : ExtraIndex = record { numbers = before.numbers; places = with_item before.places number c.push.new.self } in
    let told = c.in_ok-number.ensures in
    let was = c.index_mut.result.now in
    literal_named c.args.self.now after c.args.extra.now c.args.place
    (keeps_then c.args.self.now before after told.keeps (put_keeps before after number c.args.place was c.push.new.self told.there c.index_mut.ensures.value c.in_ok-push.ensures.items refl refl))
    (put_has before after c.args.extra.now number c.args.place was c.push.new.self told.there c.index_mut.ensures.value c.in_ok-push.ensures.items told.number refl refl)
