-- Worked examples: texts that PEP 440's normalization reads, texts that it doesn't read, and versions in
-- increasing order.
use Rattle.std.specs.Prelude.{◌≡◌, ℕ, ◌-◌, ◌^◌, Bool, true, List, [], ◌∷◌, codes, Option, Some, None, ◌&&◌}
use Rattle.std.specs.Ordering.{is_lt}
use Rattle.std.specs.declared.cmp.Ordering.TheVariants.{Less, Equal}
use Rattle.ul_version.specs.Fields.{Fields, plain}
use Rattle.ul_version.specs.Order.{version_cmp}
use Rattle.ul_version.specs.Reading.{◌>>=◌, version_of}
use Rattle.ul_version.specs.Texts.{version_text}
use Rattle.ul_version.specs.declared.fields.PreKind.TheVariants.{A, B, Rc}
use Rattle.ul_version.specs.declared.fields.Segment.TheVariants.{Number, Word}

-- the version 1.0
abbrev pub one : Fields
one = plain (1 ∷ 0 ∷ [])

-- spellings that are normalized, with the fields that they are read as
pub record Readings : Type 0 where
  pub letter : version_of (codes "v1.0") ≡ Some one
  pub spaces_and_case : version_of (codes " 1!2.0-ALPHA_3 ") ≡ Some (record (plain (2 ∷ 0 ∷ [])) { epoch = 1; pre = Some (record { kind = A; number = 3 }) })
  pub dash_number : version_of (codes "1.0-1") ≡ Some (record one { post = Some 1 })
  pub longest_first : version_of (codes "1.0a-1") ≡ Some (record one { pre = Some (record { kind = A; number = 1 }) })
  pub candidate : version_of (codes "1.0.RC") ≡ Some (record one { pre = Some (record { kind = Rc; number = 0 }) })
  pub preview : version_of (codes "1.0preview2") ≡ Some (record one { pre = Some (record { kind = Rc; number = 2 }) })
  pub short_preview : version_of (codes "1.0pre1") ≡ Some (record one { pre = Some (record { kind = Rc; number = 1 }) })
  pub beta : version_of (codes "1.0.beta.4") ≡ Some (record one { pre = Some (record { kind = B; number = 4 }) })
  pub revision : version_of (codes "1.0.rev3") ≡ Some (record one { post = Some 3 })
  pub leading_zeros : version_of (codes "01.002") ≡ Some (plain (1 ∷ 2 ∷ []))
  pub local_case : version_of (codes "1.0+Ubuntu-1_2") ≡ Some (record one { local = Word (codes "ubuntu") ∷ Number 1 ∷ Number 2 ∷ [] })
  pub local_zeros : version_of (codes "1.0+001") ≡ Some (record one { local = Number 1 ∷ [] })
  pub two_suffixes : version_of (codes "1.0a.dev") ≡ Some (record one { pre = Some (record { kind = A; number = 0 }); dev = Some 0 })
  pub dev : version_of (codes "1.0dev") ≡ Some (record one { dev = Some 0 })
  pub largest : version_of (codes "18446744073709551615") ≡ Some (plain ((2 ^ 64 - 1) ∷ []))

-- texts that are no version
pub record NoReadings : Type 0 where
  pub empty : version_of [] ≡ None
  pub ends_in_point : version_of (codes "1.") ≡ None
  pub empty_local : version_of (codes "1.0+") ≡ None
  pub no_release : version_of (codes "a1") ≡ None
  pub two_points : version_of (codes "1..0") ≡ None
  pub epoch_alone : version_of (codes "1!") ≡ None
  pub too_large : version_of (codes "18446744073709551616") ≡ None
  pub empty_segment : version_of (codes "1.0+a..b") ≡ None

-- whether the text of each version comes before that of the next
abbrev pub is_before : List ℕ → List ℕ → Bool
is_before a b = elim (version_of a >>= λ f. version_of b >>= λ g. Some (version_cmp f g)) [ None ↦ is_lt Equal | Some r ↦ is_lt r ]

-- whether each text of a list comes before the next
unfoldable pub is_increasing : List (List ℕ) → Bool
is_increasing [] = true
is_increasing (a ∷ []) = true
is_increasing (a ∷ b ∷ texts) = is_before a b && is_increasing (b ∷ texts)

-- the order of releases with their suffixes, zeros at the end, and the epoch
pub record Orders : Type 0 where
  pub increasing : is_increasing (codes "1.0.dev456" ∷ codes "1.0a1" ∷ codes "1.0a2.dev456" ∷ codes "1.0a12.dev456" ∷ codes "1.0a12" ∷ codes "1.0b1.dev456"
      ∷ codes "1.0b2" ∷ codes "1.0b2.post345.dev456" ∷ codes "1.0b2.post345" ∷ codes "1.0rc1.dev456" ∷ codes "1.0rc1" ∷ codes "1.0" ∷ codes "1.0+abc.5"
      ∷ codes "1.0+abc.7" ∷ codes "1.0+5" ∷ codes "1.0.post456.dev34" ∷ codes "1.0.post456" ∷ codes "1.0.15" ∷ codes "1.1.dev1" ∷ []) ≡ true
  pub locals : is_increasing (codes "1.0" ∷ codes "1.0+ab" ∷ codes "1.0+abc" ∷ codes "1.0+abc.x" ∷ codes "1.0+abc.5"
      ∷ codes "1.0+abc.9" ∷ codes "1.0+abc.10" ∷ codes "1.0+abd" ∷ codes "1.0+9" ∷ codes "1.0+9.0" ∷ codes "1.0+10" ∷ []) ≡ true
  pub digits : is_increasing (codes "1.0a9" ∷ codes "1.0a10" ∷ codes "1.0.post9" ∷ codes "1.0.post10" ∷ codes "1.9"
      ∷ codes "1.10" ∷ codes "9" ∷ codes "10" ∷ codes "9!1" ∷ codes "10!1" ∷ []) ≡ true
  pub zeros : version_cmp one (plain (1 ∷ 0 ∷ 0 ∷ [])) ≡ Equal
  pub epoch : version_cmp (plain (9 ∷ [])) (record one { epoch = 1 }) ≡ Less

-- the normal text of the version that a text spells
abbrev pub normal_of : List ℕ → Option (List ℕ)
normal_of text = version_of text >>= λ f. Some (version_text f)

-- the normal texts of some spellings
pub record NormalTexts : Type 0 where
  pub epoch : normal_of (codes " 1!2.0-ALPHA_3 ") ≡ Some (codes "1!2.0a3")
  pub suffixes : normal_of (codes "1.0C1-r4_DEV") ≡ Some (codes "1.0rc1.post4.dev0")
  pub local : normal_of (codes "v10.020+Ubuntu-1_2") ≡ Some (codes "10.20+ubuntu.1.2")
