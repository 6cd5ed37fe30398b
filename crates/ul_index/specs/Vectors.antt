-- Worked examples: eligible releases, usable entries, lower Python bounds, preference, and documents.
use Rattle.std.specs.Prelude.{◌≡◌, ℕ, List, [], ◌∷◌, map, codes, Bool, true, false, Option, Some, None, Ok, Err, option_map}
use Rattle.ul_version.specs.Fields.{Fields, plain}
use Rattle.ul_version.specs.Reading.{version_of}
use Rattle.ul_specifier.specs.Reading.{specifiers_of}
use Rattle.ul_requirement.specs.Fields.{ReleaseFields}
use Rattle.ul_requirement.specs.Reading.{requirement_of}
use Rattle.ul_requirement.specs.declared.wish.Mode.{Mode}
use Rattle.ul_requirement.specs.declared.wish.Mode.TheVariants.{Highest, Lowest, LowestDirect}
use Rattle.ul_requirement.specs.declared.wish.Prereleases.{Prereleases}
use Rattle.ul_requirement.specs.declared.wish.Prereleases.TheVariants.{Disallow, Allow, IfNecessary, Explicit, IfNecessaryOrExplicit}
use Rattle.ul_requirement.specs.declared.wish.Strategy.TheVariants.{Fewest}
use Rattle.ul_index.specs.Catalogs.{Packages, is_release_fit}
use Rattle.ul_index.specs.Documents.{document_of, not_json, shape, wrong_name}
use Rattle.ul_index.specs.Eligible.{eligible}
use Rattle.ul_index.specs.Preference.{preference}
use Rattle.ul_index.specs.Results.{option_bind, read_each}
use Rattle.ul_index.specs.Usable.{EntryFields, usable}
use Rattle.ul_index.specs.declared.place.EntryKey.TheVariants.{RequiresDist}
use Rattle.ul_index.specs.declared.place.Place.TheVariants.{Document, Versions, Entry, Key, File}

-- ---- eligible releases

-- a release without requirements, and whether it was withdrawn
abbrev pub bare : Fields → Bool → ReleaseFields
bare version yanked = record { version = version; python = []; requirements = []; yanked = yanked; files = []; source = None }

-- a release of a version's text
abbrev pub release_named : List ℕ × Bool → Option ReleaseFields
release_named p = option_map (λ v. bare v p.1) (version_of p.0)

-- a project with direct requirements, and a package `a`, whose pre-releases count by a mode
abbrev pub packages_by : Prereleases → List (List ℕ) → List (List ℕ × Bool) → Option Packages
packages_by mode directs releases =
    option_bind (read_each requirement_of directs) (λ qs.
    option_bind (read_each release_named releases) (λ rs.
    Some (record { name = codes "demo"; entries = 1; prereleases = mode; releases = record { version = plain (0 ∷ []); python = []; requirements = qs; yanked = false; files = []; source = None } ∷ [] }
    ∷ record { name = codes "a"; entries = 9; prereleases = mode; releases = rs } ∷ [])))

-- a project with direct requirements, and a package `a`, with the usual mode
abbrev pub two_packages : List (List ℕ) → List (List ℕ × Bool) → Option Packages
two_packages = packages_by IfNecessaryOrExplicit

-- the eligible versions of `a` in a mode
abbrev pub eligible_by : Prereleases → List (List ℕ) → List (List ℕ × Bool) → Option (List Fields)
eligible_by mode directs releases = option_map (λ c. eligible c (codes "a")) (packages_by mode directs releases)

-- the eligible versions of `a` in the usual mode
abbrev pub eligible_among : List (List ℕ) → List (List ℕ × Bool) → Option (List Fields)
eligible_among = eligible_by IfNecessaryOrExplicit

-- the eligible versions of a project of this version
abbrev pub own_eligible : Prereleases → List ℕ → Option (List Fields)
own_eligible mode version =
    option_map (λ r. eligible (record { name = codes "demo"; entries = 1; prereleases = mode; releases = r ∷ [] } ∷ []) (codes "demo")) (release_named (version, false))

-- versions
abbrev pub versions : List (List ℕ) → Option (List Fields)
versions = read_each version_of

-- a release that stands
abbrev pub stands : List ℕ → List ℕ × Bool
stands text = (text, false)

-- one that was withdrawn
abbrev pub withdrawn : List ℕ → List ℕ × Bool
withdrawn text = (text, true)

-- a pre-release and a final release
abbrev pub pre_and_final : List (List ℕ × Bool)
pre_and_final = stands (codes "2.0a1") ∷ stands (codes "1.0") ∷ []

-- a withdrawn release and another
abbrev pub withdrawn_and_other : List (List ℕ × Bool)
withdrawn_and_other = withdrawn (codes "2") ∷ stands (codes "1") ∷ []

-- pre-releases, withdrawn releases (PEP 592), and both, beside the direct requirements on the package
pub record EligibleReleases : Type 0 where
  pub increasing : eligible_among (codes "a" ∷ []) (stands (codes "1.10") ∷ stands (codes "1.9") ∷ stands (codes "1!0") ∷ []) ≡ versions (codes "1.9" ∷ codes "1.10" ∷ codes "1!0" ∷ [])
  pub pre_alone : eligible_among (codes "a" ∷ []) (stands (codes "2.0a1") ∷ []) ≡ versions (codes "2.0a1" ∷ [])
  pub pre_beside_final : eligible_among (codes "a" ∷ []) pre_and_final ≡ versions (codes "1.0" ∷ [])
  pub pre_named : eligible_among (codes "a>=2.0a0" ∷ []) pre_and_final ≡ versions (codes "1.0" ∷ codes "2.0a1" ∷ [])
  pub pre_excluded : eligible_among (codes "a!=2.0a1" ∷ []) pre_and_final ≡ versions (codes "1.0" ∷ [])
  pub pre_named_elsewhere : eligible_among (codes "b>=2.0a0" ∷ []) pre_and_final ≡ versions (codes "1.0" ∷ [])
  pub dev_is_pre : eligible_among [] (stands (codes "1.dev1") ∷ stands (codes "0.9") ∷ []) ≡ versions (codes "0.9" ∷ [])
  pub withdrawn_final_counts : eligible_among [] (stands (codes "1a1") ∷ withdrawn (codes "0.9") ∷ []) ≡ Some []
  pub withdrawn_passed : eligible_among (codes "a" ∷ []) withdrawn_and_other ≡ versions (codes "1" ∷ [])
  pub withdrawn_pinned : eligible_among (codes "a==2.0" ∷ []) withdrawn_and_other ≡ versions (codes "1" ∷ codes "2" ∷ [])
  pub withdrawn_front : eligible_among (codes "a==2.*" ∷ []) withdrawn_and_other ≡ versions (codes "1" ∷ [])
  pub pinned_by_any_marker : eligible_among (codes "a" ∷ codes "a==2; os_name=='x'" ∷ []) withdrawn_and_other ≡ versions (codes "1" ∷ codes "2" ∷ [])
  pub both_reasons : eligible_among (codes "a==2a1" ∷ []) (withdrawn (codes "2a1") ∷ withdrawn (codes "3a1") ∷ []) ≡ versions (codes "2a1" ∷ [])

-- a pre-release and nothing else
abbrev pub only_pre : List (List ℕ × Bool)
only_pre = stands (codes "1a1") ∷ []

-- each mode: where nothing else is there, beside a final release, and where the project names a pre-release; and the
-- project's own release
pub record PrereleaseModes : Type 0 where
  pub disallow_alone : eligible_by Disallow (codes "a" ∷ []) only_pre ≡ Some []
  pub disallow_named : eligible_by Disallow (codes "a>=2.0a1" ∷ []) pre_and_final ≡ versions (codes "1.0" ∷ [])
  pub allow_alone : eligible_by Allow (codes "a" ∷ []) only_pre ≡ versions (codes "1a1" ∷ [])
  pub allow_beside_final : eligible_by Allow (codes "a" ∷ []) pre_and_final ≡ versions (codes "1.0" ∷ codes "2.0a1" ∷ [])
  pub allow_withdrawn : eligible_by Allow (codes "a" ∷ []) (withdrawn (codes "1a1") ∷ []) ≡ Some []
  pub necessary_alone : eligible_by IfNecessary (codes "a" ∷ []) only_pre ≡ versions (codes "1a1" ∷ [])
  pub necessary_beside_final : eligible_by IfNecessary (codes "a" ∷ []) pre_and_final ≡ versions (codes "1.0" ∷ [])
  pub necessary_named : eligible_by IfNecessary (codes "a>=2.0a1" ∷ []) pre_and_final ≡ versions (codes "1.0" ∷ [])
  pub explicit_alone : eligible_by Explicit (codes "a" ∷ []) only_pre ≡ Some []
  pub explicit_named : eligible_by Explicit (codes "a>=2.0a1" ∷ []) pre_and_final ≡ versions (codes "1.0" ∷ codes "2.0a1" ∷ [])
  pub explicit_excluded : eligible_by Explicit (codes "a!=2.0a1" ∷ []) pre_and_final ≡ versions (codes "1.0" ∷ [])
  pub either_alone : eligible_by IfNecessaryOrExplicit (codes "a" ∷ []) only_pre ≡ versions (codes "1a1" ∷ [])
  pub either_beside_final : eligible_by IfNecessaryOrExplicit (codes "a" ∷ []) pre_and_final ≡ versions (codes "1.0" ∷ [])
  pub either_named : eligible_by IfNecessaryOrExplicit (codes "a>=2.0a1" ∷ []) pre_and_final ≡ versions (codes "1.0" ∷ codes "2.0a1" ∷ [])
  pub own_disallow : own_eligible Disallow (codes "0.1.dev0") ≡ versions (codes "0.1.dev0" ∷ [])
  pub own_explicit : own_eligible Explicit (codes "0.1.dev0") ≡ versions (codes "0.1.dev0" ∷ [])

-- ---- preference

-- the versions of `a` in the order of preference, with versions that an old lock has
abbrev pub preference_among : Mode → List (List ℕ) → List (List ℕ) → List (List ℕ × Bool) → Option (List Fields)
preference_among mode kept directs releases =
    option_bind (versions kept) (λ vs.
    option_map (λ c. preference c (record { mode = mode; strategy = Fewest; kept = map (λ v. (codes "a", v)) vs }) (codes "a")) (two_packages directs releases))

-- four releases
abbrev pub four : List (List ℕ × Bool)
four = stands (codes "1") ∷ stands (codes "4") ∷ stands (codes "3") ∷ stands (codes "2") ∷ []

-- each mode, and versions of an old lock
pub record Preferences : Type 0 where
  pub newest : preference_among Highest [] [] four ≡ versions (codes "4" ∷ codes "3" ∷ codes "2" ∷ codes "1" ∷ [])
  pub oldest : preference_among Lowest [] [] four ≡ versions (codes "1" ∷ codes "2" ∷ codes "3" ∷ codes "4" ∷ [])
  pub oldest_of_direct : preference_among LowestDirect [] (codes "a" ∷ []) four ≡ versions (codes "1" ∷ codes "2" ∷ codes "3" ∷ codes "4" ∷ [])
  pub newest_of_others : preference_among LowestDirect [] (codes "b" ∷ []) four ≡ versions (codes "4" ∷ codes "3" ∷ codes "2" ∷ codes "1" ∷ [])
  pub kept_newest_first : preference_among Lowest (codes "2.0" ∷ codes "3" ∷ codes "9" ∷ []) [] four ≡ versions (codes "3" ∷ codes "2" ∷ codes "1" ∷ codes "4" ∷ [])

-- ---- lower Python bounds

-- whether a release with this Python bound is fit at an interpreter
abbrev pub fit_at : List ℕ → ℕ → ℕ → ℕ → Option Bool
fit_at text major minor patch =
    option_map (λ python. is_release_fit (record { version = plain (1 ∷ []); python = python; requirements = []; yanked = false; files = []; source = None })
    (record { major = major; minor = minor; patch = patch; texts = []; truths = [] })) (specifiers_of text)

-- clauses that bound from below, and clauses that say nothing of the lower bound
pub record LowerBounds : Type 0 where
  pub below : fit_at (codes ">=3.8") 3 7 9 ≡ Some false
  pub at : fit_at (codes ">=3.8") 3 8 0 ≡ Some true
  pub upper_is_nothing : fit_at (codes ">=3.8,<3.10,!=3.12.*,<=3.9") 3 12 0 ≡ Some true
  pub front_from_below : fit_at (codes "==3.8.*") 3 7 0 ≡ Some false
  pub front_to_above : fit_at (codes "==3.8.*") 3 9 0 ≡ Some true
  pub compatible_to_above : fit_at (codes "~=3.8") 4 0 0 ≡ Some true
  pub none : fit_at [] 2 7 18 ≡ Some true

-- ---- usable entries

-- what an entry of these texts says
abbrev pub entry_of : List ℕ → List (List ℕ) → EntryFields
entry_of version requirements =
    record { version = version_of version; python = Some []; requirements = read_each requirement_of requirements; yanked = false; files = []; source = None }

-- the versions of the usable releases
abbrev pub usable_versions : List EntryFields → List Fields
usable_versions entries = map (λ r. r.version) (usable entries)

-- entries whose texts have no reading, an address, and versions that are equal by PEP 440
pub record UsableEntries : Type 0 where
  pub no_requirement : usable_versions (entry_of (codes "1") [] ∷ entry_of (codes "2") (codes "!!" ∷ []) ∷ []) ≡ plain (1 ∷ []) ∷ []
  pub address : usable_versions (entry_of (codes "1") (codes "b @ https://x/y" ∷ []) ∷ entry_of (codes "2") (codes "b" ∷ []) ∷ []) ≡ plain (2 ∷ []) ∷ []
  pub no_version : usable_versions (entry_of (codes "x") [] ∷ entry_of (codes "1") [] ∷ []) ≡ plain (1 ∷ []) ∷ []
  pub earlier_equal : usable_versions (entry_of (codes "1.0") [] ∷ entry_of (codes "1") [] ∷ []) ≡ plain (1 ∷ 0 ∷ []) ∷ []
  pub earlier_unusable : usable_versions (entry_of (codes "1.0") (codes "!!" ∷ []) ∷ entry_of (codes "1") [] ∷ []) ≡ []

-- ---- documents

-- a release of this source, or of none
abbrev pub release_from : ℕ → Option (List ℕ) → ReleaseFields
release_from n source = record (bare (plain (n ∷ [])) false) { source = source }

-- whole documents, and one of each fault
pub record DocumentExamples : Type 0 where
  pub empty : document_of (codes "a-b") (codes "{\"name\": \"A.B\", \"versions\": []}") ≡ Ok (record { name = codes "a-b"; entries = 0; prereleases = IfNecessaryOrExplicit; releases = [] })
  pub one : document_of (codes "a") (codes "{\"name\": \"a\", \"versions\": [{\"version\": \"1\", \"yanked\": \"bad\"}]}")
      ≡ Ok (record { name = codes "a"; entries = 1; prereleases = IfNecessaryOrExplicit; releases = bare (plain (1 ∷ [])) true ∷ [] })
  pub sourced : document_of (codes "a") (codes "{\"name\": \"a\", \"versions\": [{\"version\": \"1\", \"source\": \"My_Index\"}]}")
      ≡ Ok (record { name = codes "a"; entries = 1; prereleases = IfNecessaryOrExplicit; releases = release_from 1 (Some (codes "my-index")) ∷ [] })
  pub no_source : document_of (codes "a") (codes "{\"name\": \"a\", \"versions\": [{\"version\": \"1\", \"source\": \"https://x\"}, {\"version\": \"2\", \"source\": 1}]}")
      ≡ Ok (record { name = codes "a"; entries = 2; prereleases = IfNecessaryOrExplicit; releases = release_from 1 None ∷ release_from 2 None ∷ [] })
  pub unusable : document_of (codes "a") (codes "{\"name\": \"a\", \"versions\": [{\"version\": \"1\", \"requires_dist\": [\"!!\"]}]}")
      ≡ Ok (record { name = codes "a"; entries = 1; prereleases = IfNecessaryOrExplicit; releases = [] })
  pub no_json : document_of (codes "a") (codes "{") ≡ Err not_json
  pub no_object : document_of (codes "a") (codes "[]") ≡ Err (shape Document)
  pub no_versions : document_of (codes "a") (codes "{\"name\": \"b\"}") ≡ Err (shape Versions)
  pub other_name : document_of (codes "a") (codes "{\"name\": \"b\", \"versions\": [0]}") ≡ Err wrong_name
  pub no_entry : document_of (codes "a") (codes "{\"name\": \"a\", \"versions\": [0]}") ≡ Err (shape (Entry 0))
  pub no_text : document_of (codes "a") (codes "{\"name\": \"a\", \"versions\": [{\"version\": \"x\"}, {\"version\": \"1\", \"requires_dist\": [1]}]}") ≡ Err (shape (Key 1 RequiresDist))
  pub no_file : document_of (codes "a") (codes "{\"name\": \"a\", \"versions\": [{\"version\": \"1\", \"files\": [{\"file\": \"\"}]}]}") ≡ Err (shape (File 0 0))
