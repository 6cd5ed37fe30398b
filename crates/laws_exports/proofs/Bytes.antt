-- Which bytes names, extras, versions and specifiers have.
use Rattle.std.proofs.Common.{◌≡◌, ℕ, List, [], ◌∷◌, ◌++◌, Bool, true, false, true≢false, eqb, Option, Some, None, IfSome, refl, sym, ap, ◌∙◌}
use Rattle.std.specs.Prelude.{◌==◌, ◌||◌, codes}
use Rattle.std.specs.List.{list_all, list_any}
use Rattle.std.proofs.lemmas.Bool.{and_from, and_parts, eqb-true}
use Rattle.ul_base.specs.Names.{IsNormalName, is_normal_byte}
use Rattle.ul_base.proofs.ForCallers.{name_is_plain}
use Rattle.ul_version.specs.Fields.{Fields, IsVersion}
use Rattle.ul_version.specs.Texts.{is_text_byte, version_text}
use Rattle.ul_version.proofs.ForCallers.{plain}
use Rattle.ul_specifier.proofs.ForCallers.{all-joined, all-weaker}
use Rattle.ul_reach.specs.Lines.{extra_text}

-- all bytes of a text pass a test
abbrev pub Pass : (ℕ → Bool) → List ℕ → Type 0
Pass p text = list_all p text ≡ true

-- a byte that fails a test doesn't stand among bytes that pass it
pub none_of : (p : ℕ → Bool) (c : ℕ) (xs : List ℕ) → p c ≡ false → Pass p xs → list_any (λ b. b == c) xs ≡ false
none_of p c [] e h = refl
none_of p c (x ∷ xs) e h = by_first (eqb x c) refl (none_of p c xs e both.1)
  where
    both : (p x ≡ true) × (list_all p xs ≡ true)
    both = and_parts (p x) (list_all p xs) h

    by_first : (t : Bool) → eqb x c ≡ t → list_any (λ b. b == c) xs ≡ false → (t || list_any (λ b. b == c) xs) ≡ false
    by_first true q r =
        let clash : true ≡ false = sym both.0 ∙ ap p (eqb-true x c q) ∙ e in absurd (true≢false clash)
    by_first false q r = r

-- a byte of a name in its normal form passes
abbrev pub OfNames : (ℕ → Bool) → Type 0
OfNames p = (b : ℕ) → is_normal_byte b ≡ true → p b ≡ true

-- a byte of a version's normal text passes
abbrev pub OfVersions : (ℕ → Bool) → Type 0
OfVersions p = (b : ℕ) → is_text_byte b ≡ true → p b ≡ true

pub name_passes : (p : ℕ → Bool) (name : List ℕ) → IsNormalName name → OfNames p → Pass p name
name_passes p name is names = all-weaker is_normal_byte p name names (name_is_plain name is).1

-- so do the brackets round an extra
pub extra_passes : (p : ℕ → Bool) (extra : Option (List ℕ)) → IfSome extra IsNormalName → OfNames p
    → p 91 ≡ true → p 93 ≡ true → Pass p (extra_text extra)
extra_passes p None named names left right = refl
extra_passes p (Some x) named names left right =
    and_from (p 91) (list_all p (x ++ codes "]")) left
    (all-joined p x (codes "]") (name_passes p x named names) (and_from (p 93) true right refl))

pub version_passes : (p : ℕ → Bool) (v : Fields) → IsVersion v → OfVersions p → Pass p (version_text v)
version_passes p v is versions = all-weaker is_text_byte p (version_text v) versions (plain v is).0

-- the text of the specifier `==VERSION`
abbrev pub pin_text : Fields → List ℕ
pin_text v = codes "==" ++ version_text v

pub pin_passes : (p : ℕ → Bool) (v : Fields) → IsVersion v → OfVersions p → Pass p (codes "==") → Pass p (pin_text v)
pin_passes p v is versions sign =
    all-joined p (codes "==") (version_text v) sign (version_passes p v is versions)
