use Rattle.std.proofs.Common.{[], ap, sym, ◌∙◌, subst}
use Rattle.ul_marker.specs.Views.{marker_view}
use Rattle.ul_nodes.specs.Plain.{Plain}
use Rattle.ul_nodes.specs.Reduced.{Fits}
use Rattle.ul_marker_text.specs.RowViews.{rows_view}
use Rattle.ul_marker_text.proofs.TextsRead.{AreRows, found_by, no_rows, readable_rows, rows_readable, rows_tree_is}
use Rattle.ul_marker_text.proofs.Faulty.{same_fault}
use Rattle.ul_marker_text.proofs.texts.tree_of_marker.Goals as goal

pub returns-in-Err-clause-refused : goal.returns-in-Err-clause-refused
returns-in-Err-clause-refused c e spelled t h read r =
    no_rows spelled t (marker_view c.args.marker.now) h read (c.in-Err.ensures.refused (same_fault c.in-Err.fault e))

pub returns-clause-tree : goal.returns-clause-tree
returns-clause-tree c =
    let said : AreRows c.deref.result.now (marker_view c.args.marker.now) = ap rows_view c.deref.ensures.value ∙ c.in-Ok.ensures.said in
    found_by c.tree_of_rows.result _ _ _
    (λ found kept within spelled t h read.
    let e = rows_tree_is spelled t (marker_view c.args.marker.now) c.deref.result.now h read said in
    record {
      same = kept.same (subst (λ (z : Plain). Fits z []) (sym e) h.reduced) ∙ e;
      readable = rows_readable spelled t (marker_view c.args.marker.now) c.deref.result.now h read said within;
    })
    c.tree_of_rows.ensures.tree c.tree_of_rows.ensures.within

pub returns-clause-refused : goal.returns-clause-refused
returns-clause-refused c e spelled t h read r =
    let said : AreRows c.deref.result.now (marker_view c.args.marker.now) = ap rows_view c.deref.ensures.value ∙ c.in-Ok.ensures.said in
    c.tree_of_rows.ensures.refused e (readable_rows spelled t (marker_view c.args.marker.now) c.deref.result.now h read said r)
