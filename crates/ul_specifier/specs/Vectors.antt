-- Worked examples: which versions meet which clauses (PEP 440, "Version specifiers"), texts with and
-- without a reading, and lower bounds.
use Rattle.std.specs.Prelude.{◌≡◌, ℕ, Bool, true, false, List, [], ◌∷◌, codes, Option, Some, None}
use Rattle.ul_version.specs.Fields.{Fields, plain}
use Rattle.ul_version.specs.Reading.{◌>>=◌, version_of}
use Rattle.ul_version.specs.declared.fields.Segment.TheVariants.{Word}
use Rattle.ul_specifier.specs.Clauses.{ClauseFields}
use Rattle.ul_specifier.specs.Meaning.{distinct_clause, lower_list, meets_clause, meets_list, names_pre_of, pins_of}
use Rattle.ul_specifier.specs.Reading.{clause_with, specifiers_of}
use Rattle.ul_specifier.specs.declared.clause.Op.TheVariants.{Equal, Unequal, AtLeast, More, Less, Compatible, Distinct}

-- whether the version of a text meets the specifier of a text
unfoldable pub is_met : List ℕ → List ℕ → Option Bool
is_met list version = specifiers_of list >>= λ s. version_of version >>= λ v. Some (meets_list s v)

-- versions that meet a specifier, and versions that don't
pub record Meetings : Type 0 where
  pub local_of_equal : is_met (codes "==1.0") (codes "1.0+cpu") ≡ Some true
  pub local_of_unequal : is_met (codes "!=1.0") (codes "1.0+x") ≡ Some false
  pub local_of_at_most : is_met (codes "<=1.0") (codes "1.0+x") ≡ Some true
  pub other_local : is_met (codes "==1.0+cpu") (codes "1.0") ≡ Some false
  pub post_of_more : is_met (codes ">1.7") (codes "1.7.post1") ≡ Some false
  pub padded_post_of_more : is_met (codes ">1.7") (codes "1.7.0.post1") ≡ Some false
  pub next_of_more : is_met (codes ">1.7") (codes "1.7.1") ≡ Some true
  pub post_of_post : is_met (codes ">1.7.post1") (codes "1.7.post2") ≡ Some true
  pub local_of_more : is_met (codes ">1.7") (codes "1.7+x") ≡ Some false
  pub pre_of_less : is_met (codes "<3.1") (codes "3.1rc1") ≡ Some false
  pub pre_of_pre : is_met (codes "<3.1rc2") (codes "3.1rc1") ≡ Some true
  pub compatible : is_met (codes "~=2.2") (codes "2.10") ≡ Some true
  pub compatible_next : is_met (codes "~=2.2") (codes "3.0") ≡ Some false
  pub compatible_patch : is_met (codes "~=2.2.0") (codes "2.3") ≡ Some false
  pub front_of_pre : is_met (codes "==1.1.*") (codes "1.1a1") ≡ Some true
  pub front_of_longer : is_met (codes "==1.1.*") (codes "1.10") ≡ Some false
  pub front_of_shorter : is_met (codes "==1.0.*") (codes "1") ≡ Some true
  pub every_clause : is_met (codes ">=1, !=1.5.*, <2") (codes "1.5.2") ≡ Some false
  pub no_clause : is_met [] (codes "1!0.dev0") ≡ Some true

-- a version with a release alone
abbrev pub one_five : Fields
one_five = plain (1 ∷ 5 ∷ [])

-- whether the version of a text meets the exclusion of another's
unfoldable pub is_other : List ℕ → List ℕ → Option Bool
is_other excluded version = version_of excluded >>= λ V. version_of version >>= λ c. Some (meets_clause (distinct_clause V) c)

-- versions that meet the exclusion of one, and versions that don't; and what an exclusion is none of
pub record Exclusions : Type 0 where
  pub itself : is_other (codes "1") (codes "1.0") ≡ Some false
  pub local_of_it : is_other (codes "1") (codes "1+c") ≡ Some true
  pub post_of_it : is_other (codes "1") (codes "1.0.post1") ≡ Some true
  pub local_itself : is_other (codes "1+c") (codes "1.0+C") ≡ Some false
  pub without_its_local : is_other (codes "1+c") (codes "1") ≡ Some true
  pub other_local : is_other (codes "1+c") (codes "1+d") ≡ Some true
  pub no_bound : lower_list (distinct_clause one_five ∷ []) ≡ []
  pub no_pre_release : names_pre_of (distinct_clause (record one_five { dev = Some 1 }) ∷ []) ≡ false
  pub no_pin : pins_of (distinct_clause one_five ∷ []) one_five ≡ false
  pub no_text : clause_with Distinct (codes "1.5") ≡ None
  pub no_star : clause_with Distinct (codes "1.5.*") ≡ None

-- texts and what they are read as
pub record Readings : Type 0 where
  pub empty : specifiers_of (codes " ") ≡ Some []
  pub two : specifiers_of (codes "\t>= 1.5 ,~=1.5, ") ≡ Some (record { op = AtLeast; version = one_five; prefix = false }
      ∷ record { op = Compatible; version = one_five; prefix = false } ∷ [])
  pub star : specifiers_of (codes "!=1.5.*") ≡ Some (record { op = Unequal; version = one_five; prefix = true } ∷ [])
  pub dropped_star : specifiers_of (codes ">=1.5.*,<1.5.*") ≡ Some (record { op = AtLeast; version = one_five; prefix = false }
      ∷ record { op = Less; version = one_five; prefix = false } ∷ [])
  pub local : specifiers_of (codes "==1.5+X") ≡ Some (record { op = Equal; version = record one_five { local = Word (codes "x") ∷ [] }; prefix = false } ∷ [])
  pub one : clause_with More (codes " 1.5\n") ≡ Some (record { op = More; version = one_five; prefix = false })
  pub one_dropped : clause_with Less (codes "1.5.*") ≡ Some (record { op = Less; version = one_five; prefix = false })

-- texts without a reading
pub record NoReadings : Type 0 where
  pub three_signs : specifiers_of (codes "===1.0") ≡ None
  pub one_number : specifiers_of (codes "~=1") ≡ None
  pub local_of_bound : specifiers_of (codes ">=1+local") ≡ None
  pub local_of_compatible : specifiers_of (codes "~=1.0+local") ≡ None
  pub star_of_more : specifiers_of (codes ">1.*") ≡ None
  pub star_of_at_most : specifiers_of (codes "<=1.*") ≡ None
  pub star_of_compatible : specifiers_of (codes "~=1.0.*") ≡ None
  pub star_of_pre : specifiers_of (codes "==1.0a1.*") ≡ None
  pub star_of_dropped_pre : specifiers_of (codes ">=1.0a1.*") ≡ None
  pub star_of_local : specifiers_of (codes "==1.0+x.*") ≡ None
  pub comma : specifiers_of (codes ",") ≡ None
  pub two_commas : specifiers_of (codes ">=1,,") ≡ None
  pub first_comma : specifiers_of (codes ",>=1") ≡ None
  pub no_operator : specifiers_of (codes "1.0") ≡ None
  pub no_version : specifiers_of (codes ">=") ≡ None
  pub inner_space : specifiers_of (codes "== 1 .*") ≡ None
  pub inner_line : specifiers_of (codes ">=1\n,<2") ≡ None
  pub line_before_version : specifiers_of (codes ">=\n1") ≡ None
  pub operator_twice : clause_with Equal (codes "==1.0") ≡ None
  pub short_compatible : clause_with Compatible (codes "1") ≡ None

-- whether the lower bounds of a text are those of another
unfoldable pub lower_of : List ℕ → Option (List ClauseFields)
lower_of text = specifiers_of text >>= λ s. Some (lower_list s)

-- whether a text names a pre-release
unfoldable pub names_pre_in : List ℕ → Option Bool
names_pre_in text = specifiers_of text >>= λ s. Some (names_pre_of s)

-- whether a text pins the version of another
unfoldable pub pins_in : List ℕ → List ℕ → Option Bool
pins_in text version = specifiers_of text >>= λ s. version_of version >>= λ v. Some (pins_of s v)

-- lower bounds, pre-releases and pins
pub record Summaries : Type 0 where
  pub bounds : lower_of (codes "<9,==1.0+x,!=2,>3,==4.*,<=5,~=6.1,>=7") ≡ specifiers_of (codes ">=1.0,>3,>=4,>=6.1,>=7")
  pub no_bounds : lower_of (codes "<3,!=1.*,<=2") ≡ Some []
  pub pre : names_pre_in (codes ">=1,<2.0rc1") ≡ Some true
  pub dev : names_pre_in (codes "==1.dev0") ≡ Some true
  pub not_pre : names_pre_in (codes "!=1.0a1,>=1.0.post1") ≡ Some false
  pub pin : pins_in (codes ">0,==1.0") (codes "1") ≡ Some true
  pub local_not_pinned : pins_in (codes "==1.0") (codes "1.0+x") ≡ Some false
  pub front_not_pinned : pins_in (codes "==1.0.*") (codes "1.0") ≡ Some false
