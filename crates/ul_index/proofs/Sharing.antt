-- What threads may share of a catalog: requirements, releases and packages, one after another.
use denote.Param.Send.{IsSend, IsSync, sendable}
use Rattle.std.proofs.Crossing
use Rattle.std.proofs.MapsCrossing
use Rattle.std.proofs.alloc.Global.TheSendSync as global_threads
use Rattle.std.proofs.rt.Memory.TheSendSync as memory_threads
use Rattle.std.proofs.vec.Vec.TheSendSync as vec_threads
use Rattle.ul_base.proofs.name.Name.TheSendSync as name_threads
use Rattle.ul_version.proofs.fields.Pre.TheSendSync as pre_threads
use Rattle.ul_version.proofs.fields.PreKind.TheSendSync as prekind_threads
use Rattle.ul_version.proofs.fields.Segment.TheSendSync as segment_threads
use Rattle.ul_version.proofs.fields.Text.TheSendSync as text_threads
use Rattle.ul_version.proofs.fields.Version.TheSendSync as version_threads
use Rattle.ul_ranges.proofs.shared.SharedList.TheSendSync as sharedlist_threads
use Rattle.ul_specifier.proofs.clause.Clause.TheSendSync as clause_threads
use Rattle.ul_specifier.proofs.clause.Op.TheSendSync as op_threads
use Rattle.ul_specifier.proofs.clause.Specifiers.TheSendSync as specifiers_threads
use Rattle.ul_comparison.proofs.atom.Atom.TheSendSync as atom_threads
use Rattle.ul_comparison.proofs.variable.AtomKind.TheSendSync as atomkind_threads
use Rattle.ul_comparison.proofs.variable.Variable.TheSendSync as variable_threads
use Rattle.ul_marker.proofs.marker.Marker.TheLaws.TheKnot as formulas
use Rattle.ul_requirement.proofs.package.FileEntry.TheSendSync as fileentry_threads
use Rattle.ul_requirement.specs.contracts.package.Package
use Rattle.ul_requirement.specs.contracts.package.Release
use Rattle.ul_requirement.specs.contracts.requirement.Requirement
use Rattle.ul_index.specs.contracts.catalog.Catalog

-- by what texts, names, versions and comparisons may cross threads
pub ruleset plain = (
  memory_threads.the_field_send,
  memory_threads.the_send,
  memory_threads.the_field_sync,
  memory_threads.the_sync,
  vec_threads.the_sync,
  global_threads.the_field_send,
  global_threads.the_send,
  global_threads.the_field_sync,
  global_threads.the_sync,
  name_threads.the_send,
  name_threads.the_sync,
  atom_threads.the_send,
  atom_threads.the_sync,
  atomkind_threads.the_field_send,
  atomkind_threads.the_send,
  atomkind_threads.the_field_sync,
  atomkind_threads.the_sync,
  variable_threads.the_field_send,
  variable_threads.the_send,
  variable_threads.the_field_sync,
  variable_threads.the_sync,
  fileentry_threads.the_send,
  fileentry_threads.the_sync,
  pre_threads.the_field_send,
  pre_threads.the_send,
  pre_threads.the_field_sync,
  pre_threads.the_sync,
  prekind_threads.the_field_send,
  prekind_threads.the_send,
  prekind_threads.the_field_sync,
  prekind_threads.the_sync,
  segment_threads.the_field_send,
  segment_threads.the_send,
  segment_threads.the_field_sync,
  segment_threads.the_sync,
  text_threads.the_send,
  text_threads.the_sync,
  version_threads.the_send,
  version_threads.the_sync,
  Crossing.crosses,
  sendable,
)

-- by what the parts of a release may
pub ruleset parts = (
  sharedlist_threads.the_send,
  sharedlist_threads.the_sync,
  clause_threads.the_send,
  clause_threads.the_sync,
  op_threads.the_field_send,
  op_threads.the_send,
  op_threads.the_field_sync,
  op_threads.the_sync,
  specifiers_threads.the_send,
  specifiers_threads.the_sync,
  formulas.crosses,
  plain,
)

-- requirements may be shared, and handed on
pub requirement_sync : IsSync Requirement.the_row
requirement_sync = search parts depth 60 fits 20000

requirement_send : IsSend Requirement.the_row
requirement_send = search parts depth 60 fits 20000

-- releases, which share lists of requirements, may be shared
pub release_sync : IsSync Release.the_row
release_sync = search (requirement_send, requirement_sync, parts) depth 60 fits 20000

-- so may packages, and catalogs of them
package_sync : IsSync Package.the_row
package_sync = search (release_sync, parts) depth 60 fits 20000

pub catalog_sync : IsSync Catalog.the_row
catalog_sync = search (package_sync, MapsCrossing.crosses, Crossing.crosses, sendable) depth 60 fits 20000
