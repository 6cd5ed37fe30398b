-- What all regions share stays right where more is known.
use Rattle.std.specs.Prelude.{All}
use Rattle.std.proofs.lemmas.List.Elements.{All-weaker}
use Rattle.ul_interner.specs.Known.{Knows}
use Rattle.ul_algebra.specs.Answers.{IsDiagram}
use Rattle.ul_region.specs.Truths.{PassView}
use Rattle.ul_region.proofs.ForCallers.{all_still, grown_knows, row_grown}
use Rattle.ul_prepared.specs.Prepared.{IsPrepared, IsPlanned}
use Rattle.ul_prepared.specs.declared.prepared.Planned.{Planned}
use Rattle.ul_prepared.specs.declared.prepared.Prepared.{Prepared}

planned_still : (g h : PassView) (p : Prepared) (planned : Planned) → Knows g h → All (IsDiagram g) p.truths.marks.items → IsPlanned p.catalog.now g p.names.items p.nodes.items p.truths.marks.items planned
    → IsPlanned p.catalog.now h p.names.items p.nodes.items p.truths.marks.items planned
planned_still g h p planned more known is = record {
  facts = is.facts;
  at = is.at;
  named = is.named;
  base = is.base;
  count = is.count;
  aimed = is.aimed;
  shared = is.shared;
  rows = λ v x row aims e d c. let r = is.rows v x row aims e d c in record {
    found = r.found;
    holds = row_grown g h planned.node p.truths.marks.items p.truths.marks.items row (grown_knows g h p.truths.marks.items more known) r.holds;
    aimed = r.aimed;
  };
}

pub prepared_still : (g h : PassView) (p : Prepared) → Knows g h → IsPrepared g p → IsPrepared h p
prepared_still g h p more is = record {
  names = is.names;
  increasing = is.increasing;
  nodes = All-weaker (IsPlanned p.catalog.now g p.names.items p.nodes.items p.truths.marks.items) (IsPlanned p.catalog.now h p.names.items p.nodes.items p.truths.marks.items)
      (λ planned k. planned_still g h p planned more is.truths k) p.nodes.items is.nodes;
  roots = is.roots;
  truths = all_still g h p.truths.marks.items more is.truths;
}
