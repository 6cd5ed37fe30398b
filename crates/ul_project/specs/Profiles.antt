-- The profile of a project file, `tool.unilock.profile`: which keys are read, and how.
use Rattle.std.specs.Prelude.{ℕ, List, codes, Option, Some, None, Ok, if◌then◌else◌}
use Rattle.std.specs.Str.{bytes_eq}
use Rattle.toml.specs.Data.{Data, string, table, Members, no_members, get_member}
use Rattle.ul_project.specs.Results.{◌>>=◌, or_fault}
use Rattle.ul_project.specs.Shapes.{Reading, at_key, optional_table_at, shape, text_or}
use Rattle.ul_project.specs.declared.path.ProjectKey.TheVariants as key
use Rattle.ul_project.specs.declared.profile.Profile.{Profile}
use Rattle.ul_project.specs.declared.profile.Profile.TheVariants.{Strict, Wide}

-- ---- before anything is checked

-- the members of a table; of anything else, none
abbrev pub members_of : Option Data → Members
members_of (Some (table ms)) = ms
members_of other = no_members

-- the profile that a value asks for: `wide` where it is that text
abbrev pub asked_profile : Option Data → Profile
asked_profile (Some (string word)) = if bytes_eq word (codes "wide") then Wide else Strict
asked_profile other = Strict

-- the profile by which a document is read, whatever is wrong with its keys
unfoldable pub profile_of : Members → Profile
profile_of document =
    asked_profile (get_member (codes "profile") (members_of (get_member (codes "unilock") (members_of (get_member (codes "tool") document)))))

-- ---- where its keys are checked

-- a profile by its word
abbrev pub profile_by : List ℕ → Option Profile
profile_by word =
    if bytes_eq word (codes "strict") then Some Strict
    else if bytes_eq word (codes "wide") then Some Wide
    else None

-- `tool.unilock` is a table, and its profile a word that is known; where nothing is said, `strict`
unfoldable pub profile_at : Members → Reading Profile
profile_at tool = do
  unilock ← optional_table_at (at_key key.Unilock) (get_member (codes "unilock") tool)
  word ← text_or (codes "strict") (at_key key.Profile) (get_member (codes "profile") unilock)
  or_fault (shape (at_key key.Profile)) (profile_by word)
