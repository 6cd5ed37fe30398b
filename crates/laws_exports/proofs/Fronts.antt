-- What is read of the name and the extra in front of a line.
use Rattle.std.proofs.Common.{◌≡◌, ℕ, List, [], ◌∷◌, ◌++◌, length, Bool, true, false, true≢false, inl, inr, Option, Some, None, IfSome, refl, ap, ◌∙◌, append_assoc, arith}
use Rattle.std.specs.Prelude.{◌==◌, codes, not}
use Rattle.std.specs.List.{list_any, slice_split}
use Rattle.std.proofs.lemmas.Bool.{and_parts, cases_Bool}
use Rattle.std.proofs.lemmas.Bool.Decides.{nat_tests}
use Rattle.std.proofs.lemmas.List.{drop_at, take_at}
use Rattle.std.proofs.lemmas.List.Splits.{slice_split-cons_no}
use Rattle.ul_base.specs.declared.node.Node.{Node}
use Rattle.ul_base.specs.Names.{IsNormalName, IsPlain, is_name_byte, is_normal_byte}
use Rattle.ul_base.proofs.ForCallers.{name_is_plain}
use Rattle.ul_version.specs.Ascii.{after_all, begins, comma, is_blank, right_bracket, run_length, text_between}
use Rattle.ul_specifier.proofs.ForCallers.{nothing-dropped}
use Rattle.ul_lines.proofs.ForCallers.{eqb_self}
use Rattle.ul_requirement.specs.Reading.{after_name, cut_at, extras_front, extras_in, front_of, name_text, names_in, names_of}
use Rattle.ul_reach.specs.Lines.{extra_text}
use Rattle.laws_exports.specs.Requirements.{extras_of}
use Rattle.laws_exports.proofs.Bytes.{Pass, name_passes, none_of}

-- ---- where a text is cut

-- what stands before the first such byte and what behind it
pub cut_here : (c : ℕ) (xs ys : List ℕ) → list_any (λ b. b == c) xs ≡ false
    → cut_at c (xs ++ c ∷ ys) ≡ Some (xs, ys)
cut_here c [] ys h = rw (eqb_self c) refl
cut_here c (x ∷ xs) ys h = elim (cases_Bool (x == c)) [
  | inl here ↦ let clash : true ≡ false = rw here at h in absurd (true≢false clash)
  | inr other ↦
      let rest : list_any (λ b. b == c) xs ≡ false = rw other at h in
      rw (other, cut_here c xs ys rest) refl
]

-- without such a byte nothing is cut
pub cut_nowhere : (c : ℕ) (xs : List ℕ) → list_any (λ b. b == c) xs ≡ false → cut_at c xs ≡ None
cut_nowhere c [] h = refl
cut_nowhere c (x ∷ xs) h = elim (cases_Bool (x == c)) [
  | inl here ↦ let clash : true ≡ false = rw here at h in absurd (true≢false clash)
  | inr other ↦
      let rest : list_any (λ b. b == c) xs ≡ false = rw other at h in
      rw (other, cut_nowhere c xs rest) refl
]

-- and nothing is parted
one_part : (c : ℕ) (xs : List ℕ) → list_any (λ b. b == c) xs ≡ false → slice_split (λ b. b == c) xs ≡ xs ∷ []
one_part c [] h = refl
one_part c (x ∷ xs) h = elim (cases_Bool (x == c)) [
  | inl here ↦ let clash : true ≡ false = rw here at h in absurd (true≢false clash)
  | inr other ↦
      let rest : list_any (λ b. b == c) xs ≡ false = rw other at h in
      rw (slice_split-cons_no (λ b. b == c) x xs other, one_part c xs rest) refl
]

-- a run ends where a byte fails
run_is : (p : ℕ → Bool) (xs more : List ℕ) → Pass p xs → begins p more ≡ false
    → run_length p (xs ++ more) ≡ length xs
run_is p [] [] h e = refl
run_is p [] (b ∷ more) h e = rw e refl
run_is p (x ∷ xs) more h e =
    let both = and_parts (p x) _ h in rw both.0 (omega (arith, run_is p xs more both.1 e))

-- ---- the extra

name_blank : (b : ℕ) → is_normal_byte b ≡ true → not (is_blank b) ≡ true
name_blank b h = grind (arith, nat_tests)

name_trimmed : (x : List ℕ) → IsNormalName x → text_between is_blank x ≡ x
name_trimmed x is = nothing-dropped is_blank x (name_passes (λ b. not (is_blank b)) x is name_blank)

names_read : (x : List ℕ) → IsNormalName x → names_of (x ∷ []) ≡ Some (x ∷ [])
unfolding names_of
names_read x is = rw (name_trimmed x is, is) refl

one_name : (x : List ℕ) → IsNormalName x → IsPlain x → names_in x ≡ Some (x ∷ [])
one_name [] is h = absurd (omega arith)
one_name (b ∷ x) is h =
    ap names_of (one_part comma (b ∷ x) (none_of is_normal_byte comma (b ∷ x) refl h.1)) ∙ names_read (b ∷ x) is

one_extra : (x : List ℕ) → IsNormalName x → extras_in x ≡ Some (x ∷ [])
unfolding extras_in
one_extra x is = rw (name_trimmed x is, one_name x is (name_is_plain x is)) refl

extras_read : (extra : Option (List ℕ)) (more : List ℕ) → IfSome extra IsNormalName
    → extras_front (after_all is_blank (extra_text extra ++ (codes "==" ++ more)))
    ≡ Some (extras_of extra, codes "==" ++ more)
unfolding extras_front
extras_read None more named = refl
extras_read (Some x) more named =
    let text : List ℕ = codes "==" ++ more in
    let free : list_any (λ b. b == right_bracket) x ≡ false =
    none_of is_normal_byte right_bracket x refl (name_is_plain x named).1 in
    let cut : cut_at right_bracket ((x ++ codes "]") ++ text) ≡ Some (x, text) =
    ap (cut_at right_bracket) (append_assoc x (codes "]") text) ∙ cut_here right_bracket x text free in
    rw (cut, one_extra x named) refl

-- ---- the front

name_letter : (b : ℕ) → is_normal_byte b ≡ true → is_name_byte b ≡ true
name_letter b h = grind (arith, nat_tests)

-- a name ends where another byte stands
module _ (name more : List ℕ) (is : IsNormalName name) (other : begins is_name_byte more ≡ false) where
  name_run : run_length is_name_byte (name ++ more) ≡ length name
  name_run = run_is is_name_byte name more (name_passes is_name_byte name is name_letter) other

  front_name : name_text (name ++ more) ≡ name
  front_name = rw name_run (take_at name more (length name) refl)

  front_rest : after_name (name ++ more) ≡ more
  front_rest = rw name_run (drop_at name more (length name) refl)

not_named : (extra : Option (List ℕ)) (more : List ℕ)
    → begins is_name_byte (extra_text extra ++ (codes "==" ++ more)) ≡ false
not_named None more = refl
not_named (Some x) more = refl

-- a name and an extra before another text
abbrev pub fronted : Node → List ℕ → List ℕ
fronted n more = n.name ++ (extra_text n.extra ++ more)

pub front_read : (n : Node) (more : List ℕ) → IsNormalName n.name → IfSome n.extra IsNormalName
    → front_of (fronted n (codes "==" ++ more))
    ≡ Some (record { name = n.name; extras = extras_of n.extra; rest = codes "==" ++ more })
unfolding front_of
front_read n more is named =
    let rest : List ℕ = extra_text n.extra ++ (codes "==" ++ more) in
    let other : begins is_name_byte rest ≡ false = not_named n.extra more in
    rw (front_name n.name rest is other, is, front_rest n.name rest is other, extras_read n.extra more named) refl
