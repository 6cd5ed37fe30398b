-- Lemmas on comparisons.
use Rattle.std.proofs.Common.{◌≡◌, ◌∙◌, ◌<◌, ◌≤◌, List, [], ◌∷◌, length, get_or, ap, arith, sym, refl, true, false, true≢false, None, ℕ}
use Rattle.std.specs.Prelude.{◌||◌, if◌then◌else◌}
use Rattle.ul_comparison.specs.Atoms.{is_extras, is_implementation_version, is_text, may_stand}
use Rattle.ul_marker.specs.Comparisons.{comparison_of, in_sides, is_not_in, literal_of, python_full, three}
use Rattle.ul_marker.specs.declared.words.Token.{Token}
use Rattle.ul_comparison.specs.declared.variable.Variable.{Variable}
use Rattle.ul_comparison.specs.declared.variable.Variable.TheVariants.{OsName, SysPlatform, PlatformMachine, PlatformPythonImplementation, PlatformRelease, PlatformSystem, PlatformVersion, PythonVersion, PythonFullVersion, ImplementationName, ImplementationVersion, Extras}

-- a variable that is neither a version of Python nor `extras` is a text variable or `implementation_version`
pub not_python : (v : Variable) → python_full v ≡ None → is_extras v ≡ false → (is_text v || is_implementation_version v) ≡ true
not_python OsName e n = refl
not_python SysPlatform e n = refl
not_python PlatformMachine e n = refl
not_python PlatformPythonImplementation e n = refl
not_python PlatformRelease e n = refl
not_python PlatformSystem e n = refl
not_python PlatformVersion e n = refl
not_python PythonVersion e n = absurd (cc e)
not_python PythonFullVersion e n = absurd (cc e)
not_python ImplementationName e n = refl
not_python ImplementationVersion e n = refl
not_python Extras e n = absurd (true≢false n)

-- a text variable or `implementation_version` isn't `extras`
pub text_no_extras : (v : Variable) → (is_text v || is_implementation_version v) ≡ true → is_extras v ≡ false
text_no_extras OsName h = refl
text_no_extras SysPlatform h = refl
text_no_extras PlatformMachine h = refl
text_no_extras PlatformPythonImplementation h = refl
text_no_extras PlatformRelease h = refl
text_no_extras PlatformSystem h = refl
text_no_extras PlatformVersion h = refl
text_no_extras PythonVersion h = refl
text_no_extras PythonFullVersion h = refl
text_no_extras ImplementationName h = refl
text_no_extras ImplementationVersion h = refl
text_no_extras Extras h = absurd (true≢false (sym h))

-- so any literal stands beside it
pub text_stands : (v : Variable) (literal : List ℕ) → (is_text v || is_implementation_version v) ≡ true → may_stand v literal ≡ true
text_stands v literal h = rw (text_no_extras v h) refl

-- the comparison that three tokens are
pub three_tokens : (ts : List Token) (a b c : Token) → 3 ≤ length ts → length ts < 4 → a ≡ get_or ts 0 a → b ≡ get_or ts 1 b → c ≡ get_or ts 2 c → comparison_of ts ≡ three a b c
unfolding comparison_of
three_tokens [] a b c l m p q r = absurd (omega (arith, l))
three_tokens (x ∷ []) a b c l m p q r = absurd (omega (arith, l))
three_tokens (x ∷ y ∷ []) a b c l m p q r = absurd (omega (arith, l))
three_tokens (x ∷ y ∷ z ∷ []) a b c l m p q r = λ i. three (sym p i) (sym q i) (sym r i)
three_tokens (x ∷ y ∷ z ∷ w ∷ ts) a b c l m p q r = absurd (omega (arith, m))

-- the comparison that four tokens are, of which the inner two are `not in`
pub four_tokens : (ts : List Token) (a b c d : Token) → 4 ≤ length ts → length ts < 5 → a ≡ get_or ts 0 a → b ≡ get_or ts 1 b → c ≡ get_or ts 2 c → d ≡ get_or ts 3 d →
    is_not_in b c ≡ true → comparison_of ts ≡ in_sides false a d (literal_of a)
unfolding comparison_of
four_tokens [] a b c d l m p q r s e = absurd (omega (arith, l))
four_tokens (x ∷ []) a b c d l m p q r s e = absurd (omega (arith, l))
four_tokens (x ∷ y ∷ []) a b c d l m p q r s e = absurd (omega (arith, l))
four_tokens (x ∷ y ∷ z ∷ []) a b c d l m p q r s e = absurd (omega (arith, l))
four_tokens (x ∷ y ∷ z ∷ w ∷ []) a b c d l m p q r s e =
    (λ i. if is_not_in (sym q i) (sym r i) then in_sides false (sym p i) (sym s i) (literal_of (sym p i)) else None)
    ∙ ap (λ t. if t then in_sides false a d (literal_of a) else None) e
four_tokens (x ∷ y ∷ z ∷ w ∷ v ∷ ts) a b c d l m p q r s e = absurd (omega (arith, m))

-- four tokens are none where the inner two aren't `not in`
pub no_four_tokens : (ts : List Token) (b c : Token) → 4 ≤ length ts → length ts < 5 → b ≡ get_or ts 1 b → c ≡ get_or ts 2 c → is_not_in b c ≡ false → comparison_of ts ≡ None
unfolding comparison_of
no_four_tokens [] b c l m q r e = absurd (omega (arith, l))
no_four_tokens (x ∷ []) b c l m q r e = absurd (omega (arith, l))
no_four_tokens (x ∷ y ∷ []) b c l m q r e = absurd (omega (arith, l))
no_four_tokens (x ∷ y ∷ z ∷ []) b c l m q r e = absurd (omega (arith, l))
no_four_tokens (x ∷ y ∷ z ∷ w ∷ []) b c l m q r e =
    ap (λ t. if t then in_sides false x w (literal_of x) else None) ((λ i. is_not_in (sym q i) (sym r i)) ∙ e)
no_four_tokens (x ∷ y ∷ z ∷ w ∷ v ∷ ts) b c l m q r e = absurd (omega (arith, m))
