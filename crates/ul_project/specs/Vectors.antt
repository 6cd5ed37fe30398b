-- Worked examples: what project files say, and the first of two faults.
use Rattle.std.specs.Prelude.{◌≡◌, ℕ, List, [], ◌∷◌, codes, true, false, Option, Some, None, Ok, Err}
use Rattle.ul_version.specs.Fields.{plain}
use Rattle.ul_specifier.specs.Clauses.{ClauseFields}
use Rattle.ul_specifier.specs.declared.clause.Op.TheVariants.{AtLeast}
use Rattle.ul_comparison.specs.Formulas.{Formula, all, extra, text, more, none}
use Rattle.ul_comparison.specs.Worlds.{WorldFields}
use Rattle.ul_comparison.specs.declared.variable.Variable.TheVariants.{OsName}
use Rattle.ul_requirement.specs.Fields.{RequirementFields}
use Rattle.ul_requirement.specs.declared.wish.Mode.TheVariants.{Highest, Lowest}
use Rattle.ul_requirement.specs.declared.wish.Prereleases.TheVariants.{Disallow, IfNecessaryOrExplicit}
use Rattle.ul_requirement.specs.declared.wish.Strategy.TheVariants.{Fewest, Deep}
use Rattle.ul_project.specs.ProjectFile.{file_of}
use Rattle.ul_project.specs.Region.{is_supported}
use Rattle.ul_project.specs.Settings.{SettingsFields}
use Rattle.ul_project.specs.Sources.{sources_path}
use Rattle.ul_project.specs.Shapes.{at_key, not_toml, requirement_fault, shape, unsupported}
use Rattle.ul_project.specs.declared.group.GroupEntry.TheVariants.{Needs, Include}
use Rattle.ul_project.specs.declared.path.Place.TheVariants as place
use Rattle.ul_project.specs.declared.path.ProjectKey.TheVariants as key
use Rattle.ul_project.specs.declared.path.ProjectPath.TheVariants.{Whole, Entry}

-- ---- what files say

-- nothing is asked of the resolver
abbrev pub plain_settings : SettingsFields
plain_settings = record { sources = []; constraints = []; overrides = []; environments = []; mode = Highest; prereleases = IfNecessaryOrExplicit; strategy = Fewest }

-- a requirement of a name, with a marker
abbrev pub named_requirement : List ℕ → Option Formula → RequirementFields
named_requirement name marker = record { name = name; extras = []; specifiers = []; marker = marker }

-- what some files say
pub record SaidFiles : Type 0 where
  pub smallest : file_of (codes "[project]\nname = 'A.B'\n")
      ≡ Ok (record { head = record { name = codes "a-b"; version = plain (0 ∷ []); python = [] }; requirements = []; extras = []; sizes = []; groups = []; settings = plain_settings })
  pub extras_in_order : file_of (codes "[project]\nname = 'a'\nversion = '1'\ndependencies = ['b']\n[project.optional-dependencies]\nZ = ['c']\ny = [\"d; os_name == 'nt'\"]\n")
      ≡ Ok (record {
        head = record { name = codes "a"; version = plain (1 ∷ []); python = [] };
        requirements = named_requirement (codes "b") None
            ∷ named_requirement (codes "d") (Some (all (more (text OsName (codes "nt") true) (more (extra (codes "y") true) none))))
            ∷ named_requirement (codes "c") (Some (extra (codes "z") true)) ∷ [];
        extras = codes "y" ∷ codes "z" ∷ [];
        sizes = 1 ∷ 1 ∷ [];
        groups = [];
        settings = plain_settings;
      })
  pub groups_in_order : file_of (codes "[project]\nname = 'a'\n[dependency-groups]\nT = ['t']\nall = [{include-group = 'T'}]\n")
      ≡ Ok (record {
        head = record { name = codes "a"; version = plain (0 ∷ []); python = [] };
        requirements = [];
        extras = [];
        sizes = [];
        groups = record { name = codes "all"; entries = Include (codes "t") ∷ [] } ∷ record { name = codes "t"; entries = Needs (named_requirement (codes "t") None) ∷ [] } ∷ [];
        settings = plain_settings;
      })
  pub settings : file_of (codes "[project]\nname = 'a'\n[tool.uv]\nsources = {}\nenvironments = []\nresolution = 'lowest'\nfork-strategy = 'deep'\nconstraint-dependencies = ['c']\n")
      ≡ Ok (record {
        head = record { name = codes "a"; version = plain (0 ∷ []); python = [] };
        requirements = [];
        extras = [];
        sizes = [];
        groups = [];
        settings = record { sources = []; constraints = named_requirement (codes "c") None ∷ []; overrides = []; environments = []; mode = Lowest; prereleases = IfNecessaryOrExplicit; strategy = Deep };
      })

-- what some files of the profile `wide` say
pub record WideFiles : Type 0 where
  pub sources : file_of (codes "[project]\nname = 'a'\n[tool.uv.sources]\nT_U = [{ index = 'Beta', marker = \"os_name == 'nt'\" }, { path = '../t' }]\nb = { git = 'x' }\n[tool.unilock]\nprofile = 'wide'\n")
      ≡ Ok (record {
        head = record { name = codes "a"; version = plain (0 ∷ []); python = [] };
        requirements = [];
        extras = [];
        sizes = [];
        groups = [];
        settings = record plain_settings {
          sources = (codes "b", record { label = codes "direct"; condition = None } ∷ [])
              ∷ (codes "t-u", record { label = codes "beta"; condition = Some (text OsName (codes "nt") true) } ∷ record { label = codes "direct"; condition = None } ∷ [])
              ∷ [];
        };
      })
  pub addresses : file_of (codes "[project]\nname = 'a'\ndependencies = [\"b[x] @ https://c/d ; os_name == 'nt'\"]\n[tool.unilock]\nprofile = 'wide'\n")
      ≡ Ok (record {
        head = record { name = codes "a"; version = plain (0 ∷ []); python = [] };
        requirements = record { name = codes "b"; extras = codes "x" ∷ []; specifiers = []; marker = Some (text OsName (codes "nt") true) } ∷ [];
        extras = [];
        sizes = [];
        groups = [];
        settings = plain_settings;
      })
  pub dev_alone : file_of (codes "[project]\nname = 'a'\n[dependency-groups]\nx = []\n[tool.uv]\nindex = [1]\nprerelease = 'disallow'\ndev-dependencies = ['t']\n[tool.unilock]\nprofile = 'wide'\n")
      ≡ Ok (record {
        head = record { name = codes "a"; version = plain (0 ∷ []); python = [] };
        requirements = [];
        extras = [];
        sizes = [];
        groups = record { name = codes "dev"; entries = Needs (named_requirement (codes "t") None) ∷ [] } ∷ record { name = codes "x"; entries = [] } ∷ [];
        settings = record plain_settings { prereleases = Disallow };
      })
  pub dev_behind : file_of (codes "[project]\nname = 'a'\n[dependency-groups]\nDev = ['u']\n[tool.uv]\ndev-dependencies = ['t']\n[tool.unilock]\nprofile = 'wide'\n")
      ≡ Ok (record {
        head = record { name = codes "a"; version = plain (0 ∷ []); python = [] };
        requirements = [];
        extras = [];
        sizes = [];
        groups = record { name = codes "dev"; entries = Needs (named_requirement (codes "u") None) ∷ Needs (named_requirement (codes "t") None) ∷ [] } ∷ [];
        settings = plain_settings;
      })

-- ---- the first of two faults

-- of two faults in a file that of the earlier check, up to the groups' tables
pub record FirstFaults : Type 0 where
  pub no_toml : file_of (codes "[") ≡ Err not_toml
  pub project_first : file_of (codes "tool = 1\n") ≡ Err (shape (at_key key.Project))
  pub name_first : file_of (codes "[project]\nversion = 'x'\n") ≡ Err (shape (at_key key.Name))
  pub version_first : file_of (codes "[project]\nname = 'a'\nversion = 'x'\ndynamic = 1\n") ≡ Err (shape (at_key key.Version))
  pub dynamic_first : file_of (codes "[project]\nname = 'a'\ndynamic = ['dependencies']\nrequires-python = 1\n") ≡ Err (unsupported (at_key key.Dynamic))
  pub python_first : file_of (codes "[project]\nname = 'a'\nrequires-python = 'x'\ndependencies = 1\n") ≡ Err (shape (at_key key.RequiresPython))
  pub address_first : file_of (codes "[project]\nname = 'a'\ndependencies = ['b', 'a @ https://x/y', 'a==']\n") ≡ Err (unsupported (Entry (place.Key key.Dependencies) 1))
  pub dependencies_first : file_of (codes "[project]\nname = 'a'\ndependencies = ['a==']\noptional-dependencies = 1\n") ≡ Err (requirement_fault (Entry (place.Key key.Dependencies) 0))
  pub extra_keys_first : file_of (codes "[project]\nname = 'a'\n[project.optional-dependencies]\na = 1\nb-c = []\n'b.C' = []\n") ≡ Err (shape (at_key key.OptionalDependencies))
  pub raw_keys_in_order : file_of (codes "[project]\nname = 'a'\n[project.optional-dependencies]\na = 1\nB = [1]\n") ≡ Err (shape (Entry (place.Extra (codes "b")) 0))
  pub extras_first : file_of (codes "dependency-groups = 1\n[project]\nname = 'a'\n[project.optional-dependencies]\na = 1\n") ≡ Err (shape (Whole (place.Extra (codes "a"))))

-- and from the groups on
pub record LaterFaults : Type 0 where
  pub group_keys_first : file_of (codes "[project]\nname = 'a'\n[project.optional-dependencies]\nGroup_x = []\n[dependency-groups]\na = 1\nX = []\n") ≡ Err (shape (at_key key.DependencyGroups))
  pub groups_first : file_of (codes "tool = 1\n[project]\nname = 'a'\n[dependency-groups]\nA = [{include-group = 'b', x = 1}]\n") ≡ Err (shape (Entry (place.Group (codes "a")) 0))
  pub tool_first : file_of (codes "tool = 1\n[project]\nname = 'a'\n") ≡ Err (shape (at_key key.Tool))
  pub sources_first : file_of (codes "[project]\nname = 'a'\n[tool.uv]\nconflicts = [1]\nsources = 1\n") ≡ Err (unsupported (at_key key.Sources))
  pub keys_first : file_of (codes "[project]\nname = 'a'\n[tool.uv]\nconstraint-dependencies = 1\nworkspace = 1\n") ≡ Err (unsupported (at_key key.Workspace))
  pub constraints_first : file_of (codes "[project]\nname = 'a'\n[tool.uv]\noverride-dependencies = 1\nconstraint-dependencies = ['b', 'b[x]']\n") ≡ Err (unsupported (Entry (place.Key key.ConstraintDependencies) 1))
  pub overrides_first : file_of (codes "[project]\nname = 'a'\n[tool.uv]\noverride-dependencies = [\"b; extra == 'x'\"]\nenvironments = 1\n") ≡ Err (unsupported (Entry (place.Key key.OverrideDependencies) 0))
  pub environments_first : file_of (codes "[project]\nname = 'a'\n[tool.uv]\nresolution = 1\nenvironments = 'x'\n") ≡ Err (shape (at_key key.Environments))
  pub mode_first : file_of (codes "[project]\nname = 'a'\n[tool.uv]\nresolution = 'x'\nprerelease = 1\n") ≡ Err (shape (at_key key.Resolution))
  pub prerelease_first : file_of (codes "[project]\nname = 'a'\n[tool.uv]\nprerelease = 'allow'\nfork-strategy = 1\n") ≡ Err (unsupported (at_key key.Prerelease))

-- and of the profile `wide`
pub record WideFaults : Type 0 where
  pub source_keys_first : file_of (codes "[project]\nname = 'a'\n[tool.uv.sources]\nb-c = 1\n'b.C' = {}\n[tool.unilock]\nprofile = 'wide'\n") ≡ Err (shape (at_key key.Sources))
  pub no_source : file_of (codes "[project]\nname = 'a'\n[tool.uv.sources]\nb = []\nc = 1\n[tool.unilock]\nprofile = 'wide'\n") ≡ Err (shape (sources_path (codes "b")))
  pub index_direct : file_of (codes "[project]\nname = 'a'\n[tool.uv.sources]\nb = { index = 'Direct' }\n[tool.unilock]\nprofile = 'wide'\n") ≡ Err (shape (sources_path (codes "b")))
  pub source_of_extra : file_of (codes "[project]\nname = 'a'\n[tool.uv.sources]\nb = { marker = \"extra == 'x'\" }\n[tool.unilock]\nprofile = 'wide'\n") ≡ Err (shape (sources_path (codes "b")))
  pub own_source_first : file_of (codes "[project]\nname = 'a'\n[tool.uv]\nconflicts = 1\nsources = { A = 1 }\n[tool.unilock]\nprofile = 'wide'\n") ≡ Err (shape (sources_path (codes "a")))
  pub conflicts_before_asked : file_of (codes "[project]\nname = 'a'\n[tool.uv]\nconflicts = 1\nsources = { b = { extra = 'x' } }\n[tool.unilock]\nprofile = 'wide'\n") ≡ Err (unsupported (at_key key.Conflicts))
  pub source_asks : file_of (codes "[project]\nname = 'a'\n[tool.uv]\nsources = { b = [{}, { group = 'x' }], C = { extra = 'y' } }\n[tool.unilock]\nprofile = 'wide'\n") ≡ Err (unsupported (sources_path (codes "c")))
  pub address_first : file_of (codes "[project]\nname = 'a'\ndependencies = ['b', 'a @ ', 'a==']\n[tool.unilock]\nprofile = 'wide'\n") ≡ Err (requirement_fault (Entry (place.Key key.Dependencies) 1))
  pub uv_first : file_of (codes "[project]\nname = 'a'\n[tool]\nuv = 1\nunilock = 1\n") ≡ Err (shape (at_key key.Uv))
  pub unilock_first : file_of (codes "[project]\nname = 'a'\n[tool]\nunilock = 1\n[tool.uv]\nsources = 1\n") ≡ Err (shape (at_key key.Unilock))
  pub profile_first : file_of (codes "[project]\nname = 'a'\n[tool.unilock]\nprofile = 'Wide'\n[tool.uv]\nsources = 1\n") ≡ Err (shape (at_key key.Profile))
  pub conflicts_first : file_of (codes "[project]\nname = 'a'\n[tool.unilock]\nprofile = 'wide'\n[tool.uv]\nworkspace = 1\nconflicts = 1\nconstraint-dependencies = 1\n") ≡ Err (unsupported (at_key key.Conflicts))
  pub dev_first : file_of (codes "[project]\nname = 'a'\n[tool.unilock]\nprofile = 'wide'\n[tool.uv]\ndev-dependencies = {}\nenvironments = 1\n") ≡ Err (shape (at_key key.DevDependencies))
  pub dev_taken : file_of (codes "[project]\nname = 'a'\n[project.optional-dependencies]\nGroup_Dev = []\n[tool.unilock]\nprofile = 'wide'\n[tool.uv]\ndev-dependencies = [1]\n") ≡ Err (shape (at_key key.DevDependencies))
  pub dev_text_first : file_of (codes "[project]\nname = 'a'\n[tool.unilock]\nprofile = 'wide'\n[tool.uv]\ndev-dependencies = ['t', 1]\nenvironments = 1\n") ≡ Err (shape (Entry (place.Key key.DevDependencies) 1))
  pub prerelease_first : file_of (codes "[project]\nname = 'a'\n[tool.unilock]\nprofile = 'wide'\n[tool.uv]\nprerelease = 'never'\nfork-strategy = 1\n") ≡ Err (unsupported (at_key key.Prerelease))

-- ---- supported worlds

-- a world of an interpreter, where `os_name` is the text
abbrev pub world : ℕ → ℕ → List ℕ → WorldFields
world major minor name = record { major = major; minor = minor; patch = 0; texts = name ∷ [] ∷ [] ∷ [] ∷ [] ∷ [] ∷ [] ∷ [] ∷ []; truths = [] }

-- the clause `>=3.9`
abbrev pub from_nine : List ClauseFields
from_nine = record { op = AtLeast; version = plain (3 ∷ 9 ∷ []); prefix = false } ∷ []

-- `os_name` is a text
abbrev pub on : List ℕ → Formula
on name = text OsName name true

-- worlds that a project supports, by its lower bounds and its environments
pub record SupportedWorlds : Type 0 where
  pub everywhere : is_supported [] [] (world 2 7 []) ≡ true
  pub too_old : is_supported from_nine [] (world 3 8 []) ≡ false
  pub at_least : is_supported from_nine [] (world 3 9 []) ≡ true
  pub in_one : is_supported from_nine (on (codes "nt") ∷ on (codes "posix") ∷ []) (world 3 9 (codes "posix")) ≡ true
  pub in_none : is_supported from_nine (on (codes "nt") ∷ on (codes "posix") ∷ []) (world 3 9 (codes "java")) ≡ false
  pub old_in_one : is_supported from_nine (on (codes "nt") ∷ []) (world 3 8 (codes "nt")) ≡ false
