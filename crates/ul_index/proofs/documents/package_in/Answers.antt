use Rattle.serde_json.specs.View.{view}
use Rattle.ul_index.specs.Answers.{values_view}
use Rattle.ul_index.proofs.Packages.{package-all}
use Rattle.ul_index.proofs.Values.{length-values}
use Rattle.ul_index.proofs.documents.package_in.Goals as goal

pub returns : goal.returns
returns c =
    let same = rw c.in_ok-releases-2.ensures.1 at c.copy.ensures in
    rw (same, c.in_ok-releases-2.ensures.0)
    (package-all c.args.name.now c.in_ok-title.title.now (view c.args.document.now) (values_view c.in_ok-items.items) c.in_ok-releases.releases.items _
    c.in_ok-object_at.ensures (rw c.get.ensures at c.in_ok-title.ensures) (rw c.get-2.ensures at c.in_ok-items.ensures)
    c.in_ok-right_name.ensures c.in_ok-releases.ensures.releases (length-values c.in_ok-items.items.now))
