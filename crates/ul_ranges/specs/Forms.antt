-- How a set is kept, beside its size: up to 64 numbers by the bits of one word; more by the one member that there may be, or by
-- blocks of bits where there are two members at least.
use Rattle.std.specs.Prelude.{◌≡◌, ℕ, ◌<◌, ◌≤◌, ◌^◌, List, length, Bool, true, false, cond, Option, Some, None, nat_eq, nat_lt, map, zip}
use Rattle.std.specs.List.{range_with_len, list_any}
use Rattle.ul_ranges.specs.Blocks.{flag, flag_at, IsExact}
use Rattle.ul_ranges.specs.declared.forms.Form.{Form}
use Rattle.ul_ranges.specs.declared.forms.Form.TheVariants.{Word, Few, Many}

-- bit k of a word; past its 64 bits there is none
abbrev pub bit_in : ℕ → ℕ → Bool
bit_in word k = cond (nat_lt k 64) (flag word k) false

-- whether a number is the one member, where there is one
abbrev pub is_one : Option ℕ → ℕ → Bool
is_one None k = false
is_one (Some member) k = nat_eq member k

-- the size of a set as it is kept
abbrev pub size_in : Form → ℕ
size_in (Word size word) = size
size_in (Few size one) = size
size_in (Many size blocks) = size

-- whether a number is a member of a set as it is kept
abbrev pub flag_in : Form → ℕ → Bool
flag_in (Word size word) k = bit_in word k
flag_in (Few size one) k = is_one one k
flag_in (Many size blocks) k = flag_at blocks k

-- the set that is kept so
unfoldable pub flags_in : Form → List Bool
flags_in form = map (λ k. flag_in form k) (range_with_len 0 (size_in form))

-- two flags of the blocks are set
pub record HasTwo (blocks : List ℕ) : Type 0 where
  pub first : ℕ
  pub second : ℕ
  pub rising : first < second
  pub first_set : flag_at blocks first ≡ true
  pub second_set : flag_at blocks second ≡ true

-- one word keeps the set: no bit past the size is set
pub record IsWord (size word : ℕ) : Type 0 where
  pub small : size ≤ 64
  pub fits : word < 2 ^ 64
  pub clear : (k : ℕ) → size ≤ k → flag word k ≡ false

-- the one member, where there is one, is below the size
abbrev pub IsBelow : ℕ → Option ℕ → Type 0
IsBelow size None = Unit {0}
IsBelow size (Some member) = member < size

-- at most one member keeps the set
pub record IsFew (size : ℕ) (one : Option ℕ) : Type 0 where
  pub large : 64 < size
  pub below : IsBelow size one

-- blocks keep the set
pub record IsMany (size : ℕ) (blocks : List ℕ) : Type 0 where
  pub large : 64 < size
  pub exact : IsExact size blocks
  pub two : HasTwo blocks

-- a set may be kept so
abbrev pub IsForm : Form → Type 0
IsForm (Word size word) = IsWord size word
IsForm (Few size one) = IsFew size one
IsForm (Many size blocks) = IsMany size blocks

-- the one member of blocks, where they haven't two
abbrev pub IsFewOf : ℕ → List ℕ → Option (Option ℕ) → Type 0
IsFewOf size blocks None = HasTwo blocks
IsFewOf size blocks (Some one) = IsBelow size one × ((k : ℕ) → flag_at blocks k ≡ is_one one k)

-- these blocks of a set of this size, as they are kept
pub record IsSealed (size : ℕ) (blocks : List ℕ) (form : Form) : Type 0 where
  pub is_form : IsForm form
  pub same_size : size_in form ≡ size
  pub each : (k : ℕ) → flag_in form k ≡ flag_at blocks k

-- the blocks of a set of this size as it is kept
pub record HasBlocks (size : ℕ) (form : Form) (blocks : List ℕ) : Type 0 where
  pub same_size : size_in form ≡ size
  pub exact : IsExact size blocks
  pub each : (k : ℕ) → flag_at blocks k ≡ flag_in form k

-- an operation made the set of two others, flag by flag
pub record IsMade (op : Bool → Bool → Bool) (mine theirs made : Form) : Type 0 where
  pub is_form : IsForm made
  pub same_size : size_in made ≡ size_in mine
  pub each : (k : ℕ) → flag_in made k ≡ op (flag_in mine k) (flag_in theirs k)

-- the one member where it is in the other set
abbrev pub only_in : Option ℕ → Form → Option ℕ
only_in None other = None
only_in (Some member) other = cond (flag_in other member) (Some member) None

-- the one member where it isn't in the other set
abbrev pub only_out : Option ℕ → Form → Option ℕ
only_out None other = None
only_out (Some member) other = cond (flag_in other member) None (Some member)

-- two sets of one size may be kept so
pub record AreForms (mine theirs : Form) : Type 0 where
  pub left : IsForm mine
  pub right : IsForm theirs
  pub same_size : size_in mine ≡ size_in theirs

-- the forms have the same members
abbrev pub AreSame : Form → Form → Type 0
AreSame mine theirs = (k : ℕ) → flag_in mine k ≡ flag_in theirs k

-- each member of the first is one of the second
abbrev pub AreWithin : Form → Form → Type 0
AreWithin mine theirs = (k : ℕ) → flag_in mine k ≡ true → flag_in theirs k ≡ true

-- no member of the first is one of the second
abbrev pub AreApart : Form → Form → Type 0
AreApart mine theirs = (k : ℕ) → flag_in mine k ≡ true → flag_in theirs k ≡ false

-- blocks of two sets are as many
abbrev pub AreLevel : Form → Form → Type 0
AreLevel (Many m xs) (Many n ys) = length xs ≡ length ys
AreLevel mine theirs = Unit {0}

-- an operation on words made the blocks of two others
abbrev pub IsZipped : (ℕ → ℕ → ℕ) → Form → Form → Form → Type 0
IsZipped op (Many m xs) (Many n ys) made = made ≡ Many m (map (λ p. op p.0 p.1) (zip xs ys))
IsZipped op mine theirs made = ⊥

-- a set is kept so, where its blocks may have fewer than two members
abbrev pub IsOpen : Form → Type 0
IsOpen (Many size blocks) = (64 < size) × IsExact size blocks
IsOpen form = IsForm form

-- the same members, as they are kept
pub record IsResealed (before now : Form) : Type 0 where
  pub is_form : IsForm now
  pub same_size : size_in now ≡ size_in before
  pub each : (k : ℕ) → flag_in now k ≡ flag_in before k

-- the members of a list are those of a set of this size as it is kept
pub record HasMembers (size : ℕ) (members : List ℕ) (form : Form) : Type 0 where
  pub is_form : IsForm form
  pub same_size : size_in form ≡ size
  pub each : (k : ℕ) → flag_in form k ≡ list_any (λ m. nat_eq m k) members

-- every number below a count, and no other, is a member of a set of this size as it is kept
pub record HasFront (size count : ℕ) (form : Form) : Type 0 where
  pub is_form : IsForm form
  pub same_size : size_in form ≡ size
  pub each : (k : ℕ) → flag_in form k ≡ nat_lt k count
