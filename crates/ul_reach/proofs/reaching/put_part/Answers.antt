use Rattle.std.proofs.Common.{refl}
use Rattle.std.proofs.lemmas.Option.{slice_get_read}
use Rattle.ul_reach.proofs.reaching.put_part.Goals as goal

pub returns : goal.returns
returns c = record {
  old = c.index_mut.result.now;
  new = c.push.new.self;
  at = slice_get_read _ _ _ _ refl c.requires c.index_mut.ensures.value;
  items = c.in_ok-push.ensures.items;
  after_is = refl;
}
