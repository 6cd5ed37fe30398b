-- What threads may share of what a lock is merged of, and what they may hand on.
use denote.Param.Send.{IsSend, IsSync}
use denote.Ref.{NamedLft}
use Rattle.std.below.std_collections.proofs.index_table.Bucket.TheSendSync as bucket_threads
use Rattle.std.below.std_collections.proofs.index_table.group.Group.TheSendSync as group_threads
use Rattle.std.proofs.MapsCrossing
use Rattle.std.proofs.hash.FoldHasher.TheSendSync as foldhasher_threads
use Rattle.ul_algebra.proofs.labels.DiagramLabel.TheSendSync as diagramlabel_threads
use Rattle.ul_algebra.proofs.lists.Points.TheSendSync as points_threads
use Rattle.ul_algebra.proofs.lists.Starts.TheSendSync as starts_threads
use Rattle.ul_base.proofs.node.Node.TheSendSync as node_threads
use Rattle.ul_index.proofs.Sharing.{catalog_sync, plain}
use Rattle.ul_interner.proofs.marks.Mark.TheLaws.TheKnot as marks
use Rattle.ul_lock.specs.contracts.parts.Edge
use Rattle.ul_lock.specs.contracts.parts.Extra
use Rattle.ul_lock.specs.contracts.parts.Locked
use Rattle.ul_merge.specs.contracts.choices.Choices
use Rattle.ul_merge.specs.contracts.sources.Sources
use Rattle.ul_tree.proofs.tree.Tree.TheLaws.TheKnot as trees

-- by what nodes may cross threads
pub ruleset nodes = (
  node_threads.the_field_send,
  node_threads.the_send,
  node_threads.the_field_sync,
  node_threads.the_sync,
  plain,
)

-- by what maps of numbers may
pub ruleset maps = (
  foldhasher_threads.the_field_send,
  foldhasher_threads.the_send,
  foldhasher_threads.the_field_sync,
  foldhasher_threads.the_sync,
  bucket_threads.the_field_send,
  bucket_threads.the_send,
  bucket_threads.the_field_sync,
  bucket_threads.the_sync,
  group_threads.the_field_send,
  group_threads.the_send,
  group_threads.the_field_sync,
  group_threads.the_sync,
  MapsCrossing.crosses,
  nodes,
)

pub choices_sync : (a : NamedLft) → IsSync (Choices.the_row a)
choices_sync a = search maps depth 60 fits 20000

-- by what diagrams may
pub ruleset diagrams = (
  diagramlabel_threads.the_field_send,
  diagramlabel_threads.the_send,
  diagramlabel_threads.the_field_sync,
  diagramlabel_threads.the_sync,
  points_threads.the_send,
  points_threads.the_sync,
  starts_threads.the_send,
  starts_threads.the_sync,
  marks.crosses,
  nodes,
)

pub sources_sync : (a : NamedLft) → IsSync (Sources.the_row a)
sources_sync a = search (catalog_sync, choices_sync, diagrams) depth 60 fits 20000

edge_send : IsSend Edge.the_row
edge_send = search (trees.crosses, nodes) depth 60 fits 20000

extra_send : IsSend Extra.the_row
extra_send = search (edge_send, nodes) depth 60 fits 20000

pub locked_send : IsSend Locked.the_row
locked_send = search (edge_send, extra_send, nodes) depth 60 fits 20000

-- by what the job and its result may
pub ruleset shared = (
  catalog_sync,
  choices_sync,
  sources_sync,
  locked_send,
  maps,
  diagrams,
)
