use Rattle.std.proofs.Common.{◌∙◌, ap, map}
use Rattle.ul_index.specs.VersionOrders.{by_version}
use Rattle.ul_index.proofs.Inserted.{insert_mapped}
use Rattle.ul_index.proofs.version_order.VersionOrder.add.Goals as goal

pub returns : goal.returns
returns c =
    ap (map (λ k. (k.version.now, k.place))) c.in_ok-added.ensures.keys
    ∙ insert_mapped (λ k. (k.version.now, k.place)) by_version c.args.self.now.keys.keys (record { version = c.args.version; place = c.args.place })
