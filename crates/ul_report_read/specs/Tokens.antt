-- Reading names, versions, sets and numbers in a line.
use Rattle.std.specs.Prelude.{ℕ, ◌^◌, List, [], ◌∷◌, Bool, true, false, cond, Option, Some, None, option_and_then, option_map, codes, nat_lt, not, ◌==◌, ◌&&◌, if◌then◌else◌}
use Rattle.std.specs.Char.{is_ascii_digit}
use Rattle.std.specs.List.{list_all, slice_split}
use Rattle.std.specs.Ordering.{is_lt}
use Rattle.std.specs.Str.Parse.{digits_value}
use Rattle.ul_base.specs.declared.node.Node.{Node}
use Rattle.ul_lines.specs.Pieces.{cut_end, strip, until}
use Rattle.ul_version.specs.Fields.{Fields}
use Rattle.ul_version.specs.Order.{version_cmp}
pub use Rattle.ul_lock_lines.specs.LineReading.{name_at, version_at}

-- ---- names

-- the base of a name
abbrev pub base_node : List ℕ → Node
base_node n = record { name = n; extra = None }

-- an extra of a name
abbrev pub extra_node : List ℕ → List ℕ → Node
extra_node n x = record { name = n; extra = Some x }

-- the base of the name whose text this is
abbrev pub base_at : List ℕ → Option Node
base_at t = option_map base_node (name_at t)

-- the extra, between its name's text and the end
abbrev pub extra_of : List ℕ → List ℕ → Option Node
extra_of front inner = option_and_then (λ n. option_map (extra_node n) (name_at inner)) (name_at front)

-- the same, where a bracket stands behind it
abbrev pub extra_at : List ℕ → List ℕ → Option Node
extra_at front back = option_and_then (extra_of front) (cut_end (codes "]") back)

-- a node that is cut at its bracket, if it has one
abbrev pub node_of_parts : List ℕ → Option (List ℕ × List ℕ) → Option Node
node_of_parts t None = base_at t
node_of_parts t (Some p) = extra_at p.0 p.1

-- a node: `name` or `name[extra]`
unfoldable pub node_at : List ℕ → Option Node
node_at t = node_of_parts t (until 91 t)

-- ---- versions

-- a version in front of others
abbrev pub onto_versions : Option (List Fields) → Fields → Option (List Fields)
onto_versions more v = option_map (λ vs. v ∷ vs) more

-- the versions of texts
abbrev pub each_version : List (List ℕ) → Option (List Fields)
each_version [] = Some []
each_version (t ∷ ts) = option_and_then (onto_versions (each_version ts)) (version_at t)

-- versions joined by commas, one at least
abbrev pub joined_at : List ℕ → Option (List Fields)
joined_at t = each_version (slice_split (λ b. b == 44) t)

-- versions joined by commas
abbrev pub versions_at : List ℕ → Option (List Fields)
versions_at [] = Some []
versions_at (b ∷ t) = joined_at (b ∷ t)

-- one version comes before another
abbrev pub version_less : Fields → Fields → Bool
version_less v w = is_lt (version_cmp v w)

-- each element comes before the next, from this one on
abbrev pub rises_from : {A : Type 0} → (A → A → Bool) → A → List A → Bool
rises_from less x [] = true
rises_from less x (y ∷ ys) = less x y && rises_from less y ys

-- each element comes before the next
abbrev pub rises : {A : Type 0} → (A → A → Bool) → List A → Bool
rises less [] = true
rises less (x ∷ xs) = rises_from less x xs

-- versions, if they increase
abbrev pub kept_versions : List Fields → Option (List Fields)
kept_versions vs = cond (rises version_less vs) (Some vs) None

-- what stands between the braces of a set
unfoldable pub set_at : List ℕ → Option (List Fields)
set_at t = option_and_then kept_versions (versions_at t)

-- ---- a node and a set

-- a node and a set
abbrev pub with_set : Node → List Fields → Node × List Fields
with_set n vs = (n, vs)

-- the node and the set of two texts
abbrev pub placed_of : List ℕ → List ℕ → Option (Node × List Fields)
placed_of front inner = option_and_then (λ n. option_map (with_set n) (set_at inner)) (node_at front)

-- the same, where a brace stands before the set
abbrev pub placed_at : List ℕ → List ℕ → Option (Node × List Fields)
placed_at front back = option_and_then (placed_of front) (strip (codes "{") back)

-- the same of what a space divides
abbrev pub placed_of_parts : List ℕ × List ℕ → Option (Node × List Fields)
placed_of_parts p = placed_at p.0 p.1

-- a node and a set, up to the set's closing brace
unfoldable pub placed_in : List ℕ → Option (Node × List Fields)
placed_in t = option_and_then placed_of_parts (until 32 t)

-- ---- numbers

-- not empty, and without a zero before other digits
abbrev pub leads_well : List ℕ → Bool
leads_well [] = false
leads_well (b ∷ []) = true
leads_well (b ∷ c ∷ t) = not (b == 48)

-- digits without a leading zero
abbrev pub is_decimal : List ℕ → Bool
is_decimal t = list_all is_ascii_digit t && leads_well t

-- the number of digits, if it is below 2^64
abbrev pub value_at : List ℕ → Option ℕ
value_at t = if nat_lt (digits_value 10 t) (2 ^ 64) then Some (digits_value 10 t) else None

-- a number below 2^64 in decimal, without a leading zero
unfoldable pub number_at : List ℕ → Option ℕ
number_at t = if is_decimal t then value_at t else None
