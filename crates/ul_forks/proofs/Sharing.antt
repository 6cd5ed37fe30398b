-- What threads may share of what all regions share.
use denote.Param.Send.{IsSync, sendable, recorded_sync, struct_sync}
use denote.Ref.{NamedLft}
use denote.Struct.Declared.{shape}
use Rattle.ul_prepared.specs.contracts.prepared.Prepared
use Rattle.ul_prepared.specs.contracts.prepared.Planned
use Rattle.std.below.std_collections.proofs.index_table.Bucket.TheSendSync as bucket_threads
use Rattle.std.below.std_collections.proofs.index_table.group.Group.TheSendSync as group_threads
use Rattle.std.proofs.Crossing
use Rattle.std.proofs.MapsCrossing
use Rattle.std.proofs.hash.FoldHasher.TheSendSync as foldhasher_threads
use Rattle.ul_algebra.proofs.labels.DiagramLabel.TheSendSync as diagramlabel_threads
use Rattle.ul_algebra.proofs.lists.Points.TheSendSync as points_threads
use Rattle.ul_algebra.proofs.lists.Starts.TheSendSync as starts_threads
use Rattle.ul_base.proofs.node.Node.TheSendSync as node_threads
use Rattle.ul_index.proofs.Sharing.{catalog_sync, parts, release_sync, requirement_sync}
use Rattle.ul_interner.proofs.marks.Mark.TheLaws.TheKnot as marks
use Rattle.ul_prepared.proofs.prepared.NameFacts.TheSendSync as namefacts_threads
use Rattle.ul_problem.proofs.needs.HeldNeeds.TheSendSync as heldneeds_threads
use Rattle.ul_problem.proofs.problem.Need.TheSendSync as need_threads
use Rattle.ul_problem.proofs.problem.NeedRow.TheSendSync as needrow_threads
use Rattle.ul_problem.proofs.problem.NeedRows.TheSendSync as needrows_threads
use Rattle.ul_ranges.proofs.forms.Form.TheSendSync as form_threads
use Rattle.ul_ranges.proofs.ordinals.Ordinals.TheSendSync as ordinals_threads
use Rattle.ul_region.specs.contracts.rows.Truths
use Rattle.ul_requirement.proofs.wish.Mode.TheSendSync as mode_threads
use Rattle.ul_requirement.proofs.wish.Strategy.TheSendSync as strategy_threads
use Rattle.ul_requirement.proofs.wish.Wish.TheSendSync as wish_threads

pub truths_sync : IsSync Truths.the_row
truths_sync = search (MapsCrossing.crosses, Crossing.crosses, marks.crosses, sendable) depth 60 fits 20000

-- by what the parts of all that regions share may cross threads
pub ruleset shared = (
  catalog_sync,
  truths_sync,
  release_sync,
  requirement_sync,
  foldhasher_threads.the_field_send,
  foldhasher_threads.the_send,
  foldhasher_threads.the_field_sync,
  foldhasher_threads.the_sync,
  bucket_threads.the_field_send,
  bucket_threads.the_send,
  bucket_threads.the_field_sync,
  bucket_threads.the_sync,
  group_threads.the_field_send,
  group_threads.the_send,
  group_threads.the_field_sync,
  group_threads.the_sync,
  diagramlabel_threads.the_field_send,
  diagramlabel_threads.the_send,
  diagramlabel_threads.the_field_sync,
  diagramlabel_threads.the_sync,
  points_threads.the_send,
  points_threads.the_sync,
  starts_threads.the_send,
  starts_threads.the_sync,
  node_threads.the_field_send,
  node_threads.the_send,
  node_threads.the_field_sync,
  node_threads.the_sync,
  namefacts_threads.the_field_send,
  namefacts_threads.the_send,
  namefacts_threads.the_field_sync,
  namefacts_threads.the_sync,
  need_threads.the_field_send,
  need_threads.the_send,
  need_threads.the_field_sync,
  need_threads.the_sync,
  heldneeds_threads.the_field_send,
  heldneeds_threads.the_send,
  heldneeds_threads.the_field_sync,
  heldneeds_threads.the_sync,
  needrow_threads.the_send,
  needrow_threads.the_sync,
  needrows_threads.the_send,
  needrows_threads.the_sync,
  form_threads.the_field_send,
  form_threads.the_send,
  form_threads.the_field_sync,
  form_threads.the_sync,
  ordinals_threads.the_send,
  ordinals_threads.the_sync,
  mode_threads.the_field_send,
  mode_threads.the_send,
  mode_threads.the_field_sync,
  mode_threads.the_sync,
  strategy_threads.the_field_send,
  strategy_threads.the_send,
  strategy_threads.the_field_sync,
  strategy_threads.the_sync,
  wish_threads.the_send,
  wish_threads.the_sync,
  MapsCrossing.crosses,
  marks.crosses,
  parts,
)

pub planned_sync : (a : NamedLft) → IsSync (Planned.the_row a)
planned_sync a = search shared depth 60 fits 20000

pub prepared_sync : (a : NamedLft) → IsSync (Prepared.the_row a)
prepared_sync a = recorded_sync (Prepared.the_field a).row _ _ (Prepared.the_type a).to_one (struct_sync (shape (Prepared.the_type a)) (
  search shared depth 60 fits 20000,
  (
    search shared depth 60 fits 20000,
    (
      search shared depth 60 fits 20000,
      (
        search shared depth 60 fits 20000,
        (
          search (planned_sync, shared) depth 60 fits 20000,
          (
            search shared depth 60 fits 20000,
            (
              search shared depth 60 fits 20000,
              tt,
            ),
          ),
        ),
      ),
    ),
  ),
)
    )
