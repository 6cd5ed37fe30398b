-- Well formed locks.
use Rattle.std.specs.Prelude.{◌≡◌, List, true, IfSome}
use Rattle.ul_base.specs.Names.{IsNormalName}
use Rattle.ul_version.specs.Fields.{IsVersion}
use Rattle.ul_requirement.specs.Fields.{IsFile}
use Rattle.ul_lines.specs.Reader.{Each}
use Rattle.ul_lock.specs.declared.parts.Edge.{Edge}
use Rattle.ul_lock.specs.declared.parts.Extra.{Extra}
use Rattle.ul_lock.specs.declared.parts.Locked.{Locked}
use Rattle.ul_lock.specs.declared.parts.Lock.{Lock}
use Rattle.ul_lock.specs.Region.{IsRegion}
use Rattle.ul_lock.specs.Orders.{edge_less, extra_less, file_less, block_less}
use Rattle.ul_lock.specs.Increasing.{Rising, NoneOrSeveral}
use Rattle.ul_lock.specs.Targets.{has_one_root, all_lead_on}

-- the parts of an edge
pub record IsEdge (e : Edge) : Type 0 where
  pub name : IsNormalName e.target.name
  pub version : IsVersion e.version
  pub extra : IfSome e.target.extra IsNormalName
  pub marker : IsRegion e.marker

-- edges, each once, by target and version, the base before the extras
pub record AreEdges (es : List Edge) : Type 0 where
  pub rise : Rising edge_less es
  pub each : Each IsEdge es

-- an extra of a package
pub record IsListed (x : Extra) : Type 0 where
  pub name : IsNormalName x.name
  pub edges : AreEdges x.edges

-- a package: files by name, edges and extras in their orders, each once
pub record IsPackage (b : Locked) : Type 0 where
  pub name : IsNormalName b.name
  pub version : IsVersion b.version
  pub files : Each IsFile b.files
  pub files_rise : Rising file_less b.files
  pub edges : AreEdges b.edges
  pub extras : Each IsListed b.extras
  pub extras_rise : Rising extra_less b.extras

-- a lock as a resolver gives it: no forks, or two and more; packages by name and version, each once; one of them has
-- the root's name; and each edge leads to a package that has its target's name, the same text of its version, and its
-- target's extra, if it has one
pub record IsWellFormed (l : Lock) : Type 0 where
  pub root : IsNormalName l.root
  pub supported : IsRegion l.supported
  pub forks : Each IsRegion l.forks
  pub several : NoneOrSeveral l.forks
  pub packages : Each IsPackage l.packages
  pub packages_rise : Rising block_less l.packages
  pub one_root : has_one_root l.root l.packages ≡ true
  pub targets : all_lead_on l.packages ≡ true
