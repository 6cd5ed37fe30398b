-- Names and their normal forms.
use Rattle.std.proofs.Common.{◌≡◌, ℕ, ◌-◌, ◌<◌, suc, List, [], ◌∷◌, ◌++◌, length, get_or, Bool, true, false, cond, ◌&&◌, ◌||◌, refl, ap, sym, ◌∙◌, Some, None, Ok, arith, append_assoc, append-nil, subst, if◌then◌else◌}
use Rattle.std.proofs.lemmas.Bool.Decides.{nat_tests}
use Rattle.std.specs.Char.{to_ascii_lowercase, is_ascii_alphanumeric}
use Rattle.std.specs.Cmp.{first_so, second_so}
use Rattle.std.specs.List.{list_all}
use Rattle.std.specs.Str.{str_to_ascii_lowercase}
use Rattle.ul_base.specs.Names.{is_separator, is_name_byte, is_normal_byte, single_hyphens, leads_with_separator, normal_form, form_behind, is_name, name_of, has_ends, AddsByte, IsNormalName, IsPlain}

-- ---- one byte more

pub form-separator : (run : Bool) (b : ℕ) (rest : List ℕ) → is_separator b ≡ true → form_behind true rest ≡ form_behind run (b ∷ rest)
unfolding normal_form
form-separator true b rest h = rw h refl
form-separator false b rest h = rw h refl

pub form-letter : (b : ℕ) (rest : List ℕ) → is_separator b ≡ false → form_behind false (b ∷ rest) ≡ to_ascii_lowercase b ∷ form_behind false rest
unfolding normal_form
form-letter b rest h = rw h refl

pub form-letter-run : (b : ℕ) (rest : List ℕ) → is_separator b ≡ false → form_behind true (b ∷ rest) ≡ 45 ∷ (to_ascii_lowercase b ∷ form_behind false rest)
unfolding normal_form
form-letter-run b rest h = rw h refl

-- ---- lower case

pub separator-lowercase : (b : ℕ) → is_separator (to_ascii_lowercase b) ≡ is_separator b
separator-lowercase b = grind (arith, nat_tests)

pub letter-lowercase : (b : ℕ) → is_ascii_alphanumeric b ≡ true → is_ascii_alphanumeric (to_ascii_lowercase b) ≡ true
letter-lowercase b h = grind (arith, nat_tests)

pub letter-below : (b : ℕ) → is_ascii_alphanumeric b ≡ true → to_ascii_lowercase b < 128
letter-below b h = grind (arith, nat_tests)

pub lowercase-lowercase : (b : ℕ) → to_ascii_lowercase (to_ascii_lowercase b) ≡ to_ascii_lowercase b
lowercase-lowercase b = grind (arith, nat_tests)

pub normal_byte-lowercase : (b : ℕ) → is_name_byte b ≡ true → is_separator b ≡ false → is_normal_byte (to_ascii_lowercase b) ≡ true
normal_byte-lowercase b h n = grind (arith, nat_tests)

name_byte-separator : (b : ℕ) → is_separator b ≡ true → is_name_byte b ≡ true
name_byte-separator b h = elim (is_ascii_alphanumeric b) as (λ l. (l || is_separator b) ≡ true) [ true ↦ refl | false ↦ h ]

pub letter-separator : (b : ℕ) → is_ascii_alphanumeric b ≡ true → is_separator b ≡ false
letter-separator b h = grind (arith, nat_tests)

-- ---- one byte more, as the reader adds it

pub adds_separator : (text : List ℕ) (run : Bool) (b : ℕ) → is_separator b ≡ true → AddsByte text text run b (Ok true)
adds_separator text run b h = (name_byte-separator b h, λ rest. ap (λ t. text ++ t) (form-separator run b rest h))

adds : (before rest : List ℕ) (run : Bool) (b : ℕ) → is_separator b ≡ false →
    ((before ++ cond run (45 ∷ []) []) ++ to_ascii_lowercase b ∷ []) ++ form_behind false rest ≡ before ++ form_behind run (b ∷ rest)
adds before rest true b h = simp append_assoc (ap (λ t. before ++ t) (sym (form-letter-run b rest h)))
adds before rest false b h = simp (append_assoc, append-nil) (ap (λ t. before ++ t) (sym (form-letter b rest h)))

pub adds_letter : (before now : List ℕ) (run : Bool) (b : ℕ) → is_ascii_alphanumeric b ≡ true →
    now ≡ (before ++ cond run (45 ∷ []) []) ++ to_ascii_lowercase b ∷ [] → AddsByte before now run b (Ok false)
adds_letter before now run b h e =
    (ap (λ t. t || is_separator b) h, λ rest. ap (λ t. t ++ form_behind false rest) e ∙ adds before rest run b (letter-separator b h))

pub form-end : (run : Bool) → form_behind run [] ≡ cond run (45 ∷ []) []
unfolding normal_form
form-end true = refl
form-end false = refl

-- ---- what reads as a name

pub name_reads : (text name : List ℕ) → has_ends text ≡ true → list_all is_name_byte text ≡ true → name ≡ normal_form text → name_of text ≡ Some name
unfolding name_of is_name
name_reads text name ends bytes e = rw (ends, bytes) (ap Some (sym e))

pub unread_by_ends : (text : List ℕ) → has_ends text ≡ false → name_of text ≡ None
unfolding name_of is_name
unread_by_ends text ends = rw ends refl

pub unread_by_bytes : (text : List ℕ) → list_all is_name_byte text ≡ false → name_of text ≡ None
unfolding name_of is_name
unread_by_bytes text bytes = elim (has_ends text) as (λ b. (if b && list_all is_name_byte text then Some (normal_form text) else None) ≡ None) [ true ↦ rw bytes refl | false ↦ refl ]

pub name-is_name : (text name : List ℕ) → name_of text ≡ Some name → is_name text ≡ true
unfolding name_of
name-is_name text name e =
    (elim (is_name text) as (λ b. (if b then Some (normal_form text) else None) ≡ Some name → b ≡ true) [ true ↦ λ _. refl | false ↦ λ h. cc ]) e

pub name-normal_form : (text name : List ℕ) → name_of text ≡ Some name → normal_form text ≡ name
unfolding name_of
name-normal_form text name e =
    (elim (is_name text) as (λ b. (if b then Some (normal_form text) else None) ≡ Some name → normal_form text ≡ name) [ true ↦ λ h. cc | false ↦ λ h. cc ]) e

-- ---- the normal form is its own

leads-collapsed : (text : List ℕ) → leads_with_separator (single_hyphens text) ≡ leads_with_separator text
leads-collapsed [] = refl
leads-collapsed (b ∷ bs) =
    (elim (is_separator b) as (λ s. is_separator b ≡ s → leads_with_separator (cond s (cond (leads_with_separator bs) (single_hyphens bs) (45 ∷ single_hyphens bs)) (b ∷ single_hyphens bs)) ≡ s) [
      | true ↦ λ h. (elim (leads_with_separator bs) as (λ l. leads_with_separator bs ≡ l → leads_with_separator (cond l (single_hyphens bs) (45 ∷ single_hyphens bs)) ≡ true) [
        | true ↦ λ k. leads-collapsed bs ∙ k
        | false ↦ λ k. refl
      ]) refl
      | false ↦ λ h. h
    ]) refl

collapsed-collapsed : (text : List ℕ) → single_hyphens (single_hyphens text) ≡ single_hyphens text
collapsed-collapsed [] = refl
collapsed-collapsed (b ∷ bs) =
    (elim (is_separator b) as (λ s. is_separator b ≡ s → let t = cond s (cond (leads_with_separator bs) (single_hyphens bs) (45 ∷ single_hyphens bs)) (b ∷ single_hyphens bs) in single_hyphens t ≡ t) [
      | true ↦ λ h. (elim (leads_with_separator bs) as (λ l. leads_with_separator bs ≡ l → let t = cond l (single_hyphens bs) (45 ∷ single_hyphens bs) in single_hyphens t ≡ t) [
        | true ↦ λ k. collapsed-collapsed bs
        | false ↦ λ k. rw (leads-collapsed bs ∙ k) (ap (λ t. 45 ∷ t) (collapsed-collapsed bs))
      ]) refl
      | false ↦ λ h. rw h (ap (λ t. b ∷ t) (collapsed-collapsed bs))
    ]) refl

leads-lowercase : (text : List ℕ) → leads_with_separator (str_to_ascii_lowercase text) ≡ leads_with_separator text
leads-lowercase [] = refl
leads-lowercase (b ∷ bs) = separator-lowercase b

lowercase-cond : (s : Bool) (x y : List ℕ) → str_to_ascii_lowercase (cond s x y) ≡ cond s (str_to_ascii_lowercase x) (str_to_ascii_lowercase y)
lowercase-cond true x y = refl
lowercase-cond false x y = refl

collapsed-lowercase : (text : List ℕ) → single_hyphens (str_to_ascii_lowercase text) ≡ str_to_ascii_lowercase (single_hyphens text)
collapsed-lowercase [] = refl
collapsed-lowercase (b ∷ bs) =
    rw (separator-lowercase b, leads-lowercase bs, collapsed-lowercase bs)
    (sym (lowercase-cond (is_separator b) (cond (leads_with_separator bs) (single_hyphens bs) (45 ∷ single_hyphens bs)) (b ∷ single_hyphens bs)
    ∙ ap (λ t. cond (is_separator b) t (to_ascii_lowercase b ∷ str_to_ascii_lowercase (single_hyphens bs))) (lowercase-cond (leads_with_separator bs) (single_hyphens bs) (45 ∷ single_hyphens bs))))

lowercases : (text : List ℕ) → str_to_ascii_lowercase (str_to_ascii_lowercase text) ≡ str_to_ascii_lowercase text
lowercases [] = refl
lowercases (b ∷ bs) = rw (lowercase-lowercase b, lowercases bs) refl

pub same_form : (text : List ℕ) → normal_form (normal_form text) ≡ normal_form text
unfolding normal_form
same_form text =
    ap str_to_ascii_lowercase (collapsed-lowercase (single_hyphens text)) ∙ lowercases (single_hyphens (single_hyphens text)) ∙ ap str_to_ascii_lowercase (collapsed-collapsed text)

-- ---- the normal form of a name is a name

normal_bytes : (text : List ℕ) → list_all is_name_byte text ≡ true → list_all is_normal_byte (str_to_ascii_lowercase (single_hyphens text)) ≡ true
normal_bytes [] h = refl
normal_bytes (b ∷ bs) h =
    let rest : list_all is_normal_byte (str_to_ascii_lowercase (single_hyphens bs)) ≡ true = normal_bytes bs (second_so (is_name_byte b) (list_all is_name_byte bs) h) in
    (elim (is_separator b) as (λ s. is_separator b ≡ s → list_all is_normal_byte (str_to_ascii_lowercase (cond s (cond (leads_with_separator bs) (single_hyphens bs) (45 ∷ single_hyphens bs)) (b ∷ single_hyphens bs))) ≡ true) [
      | true ↦ λ k. elim (leads_with_separator bs) as (λ l. list_all is_normal_byte (str_to_ascii_lowercase (cond l (single_hyphens bs) (45 ∷ single_hyphens bs))) ≡ true) [ true ↦ rest | false ↦ rest ]
      | false ↦ λ k. rw (normal_byte-lowercase b (first_so (is_name_byte b) (list_all is_name_byte bs) h) k) rest
    ]) refl

normal_byte-name_byte : (b : ℕ) → is_normal_byte b ≡ true → is_name_byte b ≡ true
normal_byte-name_byte b h = grind (arith, nat_tests)

name_bytes : (text : List ℕ) → list_all is_normal_byte text ≡ true → list_all is_name_byte text ≡ true
name_bytes [] h = refl
name_bytes (b ∷ bs) h =
    rw (normal_byte-name_byte b (first_so (is_normal_byte b) (list_all is_normal_byte bs) h)) (name_bytes bs (second_so (is_normal_byte b) (list_all is_normal_byte bs) h))

-- the last byte, or this one
abbrev last_or : ℕ → List ℕ → ℕ
last_or d [] = d
last_or d (b ∷ bs) = last_or b bs

at_last : (b : ℕ) (bs : List ℕ) → get_or (b ∷ bs) (length bs) 0 ≡ last_or b bs
at_last b [] = refl
at_last b (c ∷ cs) = at_last c cs

suc-less : (n : ℕ) → suc n - 1 ≡ n
suc-less n = omega arith

last-is : (b : ℕ) (bs : List ℕ) → get_or (b ∷ bs) (length (b ∷ bs) - 1) 0 ≡ last_or b bs
last-is b bs = ap (λ i. get_or (b ∷ bs) i 0) (suc-less (length bs)) ∙ at_last b bs

last_or-lowercase : (b : ℕ) (bs : List ℕ) → last_or (to_ascii_lowercase b) (str_to_ascii_lowercase bs) ≡ to_ascii_lowercase (last_or b bs)
last_or-lowercase b [] = refl
last_or-lowercase b (c ∷ cs) = last_or-lowercase c cs

last_or-collapsed : (d : ℕ) (text : List ℕ) → is_separator (last_or d text) ≡ false → last_or d (single_hyphens text) ≡ last_or d text
last_or-collapsed d [] h = refl
last_or-collapsed d (b ∷ []) h = rw h refl
last_or-collapsed d (b ∷ c ∷ cs) h =
    elim (is_separator b) as (λ s. last_or d (cond s (cond (is_separator c) (single_hyphens (c ∷ cs)) (45 ∷ single_hyphens (c ∷ cs))) (b ∷ single_hyphens (c ∷ cs))) ≡ last_or c cs) [
      | true ↦ elim (is_separator c) as (λ l. last_or d (cond l (single_hyphens (c ∷ cs)) (45 ∷ single_hyphens (c ∷ cs))) ≡ last_or c cs) [
        | true ↦ last_or-collapsed d (c ∷ cs) h
        | false ↦ last_or-collapsed 45 (c ∷ cs) h
      ]
      | false ↦ last_or-collapsed b (c ∷ cs) h
    ]

form_ends : (text : List ℕ) → has_ends text ≡ true → has_ends (normal_form text) ≡ true
unfolding normal_form
form_ends [] h = cc
form_ends (b ∷ bs) h =
    let first : is_ascii_alphanumeric b ≡ true = first_so (is_ascii_alphanumeric b) (is_ascii_alphanumeric (get_or (b ∷ bs) (length (b ∷ bs) - 1) 0)) h in
    let last : is_ascii_alphanumeric (last_or b bs) ≡ true =
    ap is_ascii_alphanumeric (sym (last-is b bs)) ∙ second_so (is_ascii_alphanumeric b) (is_ascii_alphanumeric (get_or (b ∷ bs) (length (b ∷ bs) - 1) 0)) h in
    let ending : get_or (to_ascii_lowercase b ∷ str_to_ascii_lowercase (single_hyphens bs)) (length (to_ascii_lowercase b ∷ str_to_ascii_lowercase (single_hyphens bs)) - 1) 0 ≡ to_ascii_lowercase (last_or b bs) =
    last-is (to_ascii_lowercase b) (str_to_ascii_lowercase (single_hyphens bs)) ∙ last_or-lowercase b (single_hyphens bs)
    ∙ ap to_ascii_lowercase (last_or-collapsed b bs (letter-separator (last_or b bs) last)) in
    let same : is_separator b ≡ false = letter-separator b first in
    rw (same, letter-lowercase b first, ending, letter-lowercase (last_or b bs) last) refl

is_name-normal_form_bytes : (text : List ℕ) → is_name text ≡ true → list_all is_normal_byte (normal_form text) ≡ true
unfolding is_name normal_form
is_name-normal_form_bytes text h = normal_bytes text (second_so (has_ends text) (list_all is_name_byte text) h)

is_name-ends : (text : List ℕ) → is_name text ≡ true → has_ends text ≡ true
unfolding is_name
is_name-ends text h = first_so (has_ends text) (list_all is_name_byte text) h

form_reads : (text : List ℕ) → is_name text ≡ true → name_of (normal_form text) ≡ Some (normal_form text)
form_reads text h =
    name_reads (normal_form text) (normal_form text) (form_ends text (is_name-ends text h))
    (name_bytes (normal_form text) (is_name-normal_form_bytes text h)) (sym (same_form text))

pub form_is_name : (text : List ℕ) → is_name text ≡ true → is_name (normal_form text) ≡ true
form_is_name text h = name-is_name (normal_form text) (normal_form text) (form_reads text h)

pub name_reads_itself : (text name : List ℕ) → name_of text ≡ Some name → name_of name ≡ Some name
name_reads_itself text name e =
    let P : List ℕ → Type 0 = λ n. name_of n ≡ Some n in subst P (name-normal_form text name e) (form_reads text (name-is_name text name e))

ends_long : (text : List ℕ) → has_ends text ≡ true → 0 < length text
ends_long [] h = cc
ends_long (b ∷ bs) h = omega arith

pub name_is_plain : (name : List ℕ) → IsNormalName name → IsPlain name
name_is_plain name e =
    let named : is_name name ≡ true = name-is_name name name e in
    let P : List ℕ → Type 0 = λ n. list_all is_normal_byte n ≡ true in
    (ends_long name (is_name-ends name named), subst P (name-normal_form name name e) (is_name-normal_form_bytes name named))
