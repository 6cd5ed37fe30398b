-- The texts of interpreters: versions that can stand in a literal between `'`.
use Rattle.std.proofs.Common.{◌≡◌, ◌∙◌, ◌<◌, ◌^◌, ℕ, true, false, List, [], ◌∷◌, ◌++◌, refl, sym, ap, arith, lit<}
use Rattle.std.specs.Prelude.{◌&&◌, ◌==◌, not}
use Rattle.std.specs.Fmt.{decimal}
use Rattle.std.specs.List.{list_all}
use Rattle.std.proofs.lemmas.List.{append-nil}
use Rattle.std.proofs.lemmas.Bool.{and_from, and_parts}
use Rattle.std.proofs.lemmas.Bool.Decides.{nat_tests}
use Rattle.std.proofs.lemmas.List.Elements.{All-cons, All-nil}
use Rattle.ul_version.specs.Fields.{IsNumber64, IsSegment, IsVersion, plain}
use Rattle.ul_version.specs.Texts.{is_text_byte, version_text}
use Rattle.ul_version.proofs.ForCallers.{plain as plain_text}
use Rattle.ul_specifier.proofs.ForCallers.{all-weaker}
use Rattle.ul_comparison.specs.Atoms.{has_byte, is_literal, is_literal_byte}
use Rattle.ul_comparison.specs.Printed.{interpreter_text, quoted_text}

-- the text of an interpreter is that of a version with a release alone
pub interpreter-version : (major minor patch : ℕ) → interpreter_text major minor patch ≡ version_text (plain (major ∷ minor ∷ patch ∷ []))
unfolding interpreter_text version_text
interpreter-version major minor patch =
    ap (λ t. decimal major ++ (46 ∷ (decimal minor ++ (46 ∷ t)))) (sym (append-nil (decimal patch)))
    ∙ sym (append-nil (decimal major ++ (46 ∷ (decimal minor ++ (46 ∷ (decimal patch ++ []))))))

-- and that is a version
pub interpreter-is : (major minor patch : ℕ) → major < 2 ^ 32 → minor < 2 ^ 32 → patch < 2 ^ 32 → IsVersion (plain (major ∷ minor ∷ patch ∷ []))
interpreter-is major minor patch a b c = record {
  nonempty = omega arith;
  epoch_fits = lit< tt;
  release_fits =
      All-cons IsNumber64 major (minor ∷ patch ∷ []) (omega arith)
      (All-cons IsNumber64 minor (patch ∷ []) (omega arith) (All-cons IsNumber64 patch [] (omega arith) (All-nil IsNumber64)));
  pre_fits = tt;
  post_fits = tt;
  dev_fits = tt;
  segments = All-nil IsSegment;
}

text-literal : (b : ℕ) → is_text_byte b ≡ true → is_literal_byte b ≡ true
text-literal b h = grind (arith, nat_tests)

text-quote : (b : ℕ) → is_text_byte b ≡ true → (b == 39) ≡ false
text-quote b h = grind (arith, nat_tests)

no-quote : (bytes : List ℕ) → list_all is_text_byte bytes ≡ true → has_byte 39 bytes ≡ false
no-quote [] h = refl
no-quote (b ∷ bytes) h =
    let both = and_parts (is_text_byte b) (list_all is_text_byte bytes) h in rw (text-quote b both.0) (no-quote bytes both.1)

-- the text can stand in a literal
pub interpreter-literal : (major minor patch : ℕ) → major < 2 ^ 32 → minor < 2 ^ 32 → patch < 2 ^ 32 → is_literal (interpreter_text major minor patch) ≡ true
interpreter-literal major minor patch a b c =
    let release = major ∷ minor ∷ patch ∷ [] in
    let bytes = (plain_text (plain release) (interpreter-is major minor patch a b c)).0 in
    ap is_literal (interpreter-version major minor patch)
    ∙ and_from (list_all is_literal_byte (version_text (plain release))) (not (has_byte 39 (version_text (plain release)) && has_byte 34 (version_text (plain release))))
    (all-weaker is_text_byte is_literal_byte (version_text (plain release)) text-literal bytes) (rw (no-quote (version_text (plain release)) bytes) refl)

-- the quote of an interpreter's text is `'`
pub interpreter_quoted : (major minor patch : ℕ) → major < 2 ^ 32 → minor < 2 ^ 32 → patch < 2 ^ 32
    → quoted_text (interpreter_text major minor patch) ≡ 39 ∷ (interpreter_text major minor patch ++ 39 ∷ [])
interpreter_quoted major minor patch a b c =
    let release = major ∷ minor ∷ patch ∷ [] in
    let bytes = (plain_text (plain release) (interpreter-is major minor patch a b c)).0 in
    let none : has_byte 39 (interpreter_text major minor patch) ≡ false = ap (has_byte 39) (interpreter-version major minor patch) ∙ no-quote (version_text (plain release)) bytes in
    rw none refl
