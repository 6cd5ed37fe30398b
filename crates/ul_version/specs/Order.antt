-- The order of versions of PEP 440 ("Summary of permitted suffixes and relative ordering" and "Local
-- version identifiers"): six keys, compared in turn.
use Rattle.std.specs.Prelude.{◌≡◌, ℕ, ◌-◌, List, [], ◌∷◌, ◌++◌, length, replicate, Option, Some, None, max, nat_eq, Bool, ◌⊎◌}
use Rattle.std.specs.List.{starts_with}
use Rattle.std.specs.Ordering.{nat_cmp, on, then_cmp}
use Rattle.std.specs.Cmp.Lexicographic.{slice_cmp}
use Rattle.std.specs.declared.cmp.Ordering.{Ordering}
use Rattle.ul_version.specs.Fields.{Fields}
use Rattle.ul_version.specs.declared.fields.Pre.{Pre}
use Rattle.ul_version.specs.declared.fields.PreKind.{PreKind}
use Rattle.ul_version.specs.declared.fields.PreKind.TheVariants.{A, B, Rc}
use Rattle.ul_version.specs.declared.fields.Segment.{Segment}
use Rattle.ul_version.specs.declared.fields.Segment.TheVariants.{Number, Word}

-- lists of numbers in the order of a dictionary: the first that differ decide, and a list that ends
-- first comes first
abbrev pub numbers_cmp : List ℕ → List ℕ → Ordering
numbers_cmp = slice_cmp nat_cmp

-- a release padded with zeros to at least this length
unfoldable pub padded_release : ℕ → List ℕ → List ℕ
padded_release size release = release ++ replicate (size - length release) 0

-- two releases, the shorter one padded with zeros to the length of the longer
unfoldable pub release_cmp : List ℕ → List ℕ → Ordering
release_cmp xs ys = let size = max (length xs) (length ys) in numbers_cmp (padded_release size xs) (padded_release size ys)

-- whether a release, padded with zeros to at least the length of `front`, begins with `front`
unfoldable pub has_release_front : List ℕ → List ℕ → Bool
has_release_front front release = starts_with nat_eq (padded_release (length front) release) front

-- A rank and a number: a lower rank comes first, and in one rank the lower number
abbrev pub Place : Type 0
Place = ℕ × ℕ

-- the order of two places: by rank, and then by number
abbrev pub place_cmp : Place → Place → Ordering
place_cmp = then_cmp (on (λ p. p.0) nat_cmp) (on (λ p. p.1) nat_cmp)

-- a comes before b, and b before rc
abbrev pub kind_rank : PreKind → ℕ
kind_rank A = 1
kind_rank B = 2
kind_rank Rc = 3

-- the place by the pre part: a version with a dev part and neither pre nor post part comes before every
-- pre part, then the pre parts by kind and number, and then every other version without a pre part
abbrev pub pre_place_of : Option Pre → Option ℕ → Option ℕ → Place
pre_place_of (Some p) post dev = (kind_rank p.kind, p.number)
pre_place_of None None (Some n) = (0, 0)
pre_place_of None None None = (4, 0)
pre_place_of None (Some m) dev = (4, 0)

-- the place of a version by its pre part
abbrev pub pre_place : Fields → Place
pre_place f = pre_place_of f.pre f.post f.dev

-- the place by the post part: none comes before any, and then by number
abbrev pub post_place : Option ℕ → Place
post_place None = (0, 0)
post_place (Some n) = (1, n)

-- the place by the dev part: by number, and none comes after any
abbrev pub dev_place : Option ℕ → Place
dev_place (Some n) = (0, n)
dev_place None = (1, 0)

-- the key of a segment of the local part: a word before a number, words by their bytes, numbers by value
abbrev pub segment_key : Segment → List ℕ
segment_key (Word text) = 0 ∷ text
segment_key (Number n) = 1 ∷ n ∷ []

-- the order of two segments of local parts
abbrev pub segment_cmp : Segment → Segment → Ordering
segment_cmp = on segment_key numbers_cmp

-- local parts segment by segment: none comes before any, and a front before the longer list
abbrev pub local_cmp : List Segment → List Segment → Ordering
local_cmp = slice_cmp segment_cmp

-- the order by the parts after the release: pre, post, dev and local part, in turn
abbrev pub suffix_cmp : Fields → Fields → Ordering
suffix_cmp = then_cmp (on pre_place place_cmp) (then_cmp (on (λ f. post_place f.post) place_cmp)
    (then_cmp (on (λ f. dev_place f.dev) place_cmp) (on (λ f. f.local) local_cmp)))

-- the order of versions: epoch, release, pre, post, dev and local part, in turn
unfoldable pub version_cmp : Fields → Fields → Ordering
version_cmp = then_cmp (on (λ f. f.epoch) nat_cmp) (then_cmp (on (λ f. f.release) release_cmp) suffix_cmp)

-- two lists of which one is the other with zeros after it
abbrev pub AreZerosApart : List ℕ → List ℕ → Type 0
AreZerosApart xs ys = ((n : ℕ) × (ys ≡ xs ++ replicate n 0)) ⊎ ((n : ℕ) × (xs ≡ ys ++ replicate n 0))

-- versions that differ in nothing but zeros at the end of the release
pub record DifferInZeros (f g : Fields) : Type 0 where
  pub epoch : f.epoch ≡ g.epoch
  pub release : AreZerosApart f.release g.release
  pub pre : f.pre ≡ g.pre
  pub post : f.post ≡ g.post
  pub dev : f.dev ≡ g.dev
  pub local : f.local ≡ g.local
