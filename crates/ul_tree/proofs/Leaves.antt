-- Trees of one comparison are reduced and have its truth.
use Rattle.std.proofs.Common.{◌≡◌, ℕ, ◌<◌, List, [], ◌∷◌, Bool, true, false, true≢false, refl, sym, ap, ◌∙◌, inl, inr, Less, Equal, Greater, Some, None, arith}
use Rattle.std.specs.Prelude.{not, ◌||◌, ◌&&◌, if◌then◌else◌}
use Rattle.std.specs.Ordering.{is_eq}
use Rattle.std.specs.Str.{bytes_eq}
use Rattle.std.specs.declared.cmp.Ordering.{Ordering}
use Rattle.std.proofs.lemmas.Map.Text.{is_eq-slice_cmp}
use Rattle.ul_base.proofs.ForCallers.{name-is_name}
use Rattle.ul_base.specs.Names.{is_name, name_of, normal_form}
use Rattle.ul_comparison.specs.Atoms.{AtomFields, IsAtom, has_atom, is_literal, is_text, text_number}
use Rattle.ul_comparison.specs.Formulas.{IsExtraLiteral}
use Rattle.ul_comparison.specs.Truth.{as_asked, equals_extra, is_empty}
use Rattle.ul_comparison.specs.Worlds.{WorldFields, text_at}
use Rattle.ul_comparison.specs.declared.variable.Variable.{Variable}
use Rattle.ul_comparison.specs.declared.variable.Variable.TheVariants.{OsName, SysPlatform, PlatformMachine, PlatformPythonImplementation, PlatformRelease, PlatformSystem, PlatformVersion, PythonVersion, PythonFullVersion, ImplementationName, ImplementationVersion, Extras}
use Rattle.ul_nodes.specs.Plain.{truth, text_cmp, carries, by_order, holds_of}
use Rattle.ul_nodes.specs.Levels.{extra_level, text_level, atom_level, IsKey, IsExtra}
use Rattle.ul_nodes.specs.Reduced.{IsReduced}
use Rattle.ul_tree.specs.Leaves.{point_tree}
use Rattle.ul_tree.specs.Values.{tree_holds, value_of, has_level, mark_of}
use Rattle.ul_nodes.proofs.ForCallers.{cmp_back, cmp_equal, cmp_over}

parts_differ : (b : Bool) → truth b ≡ truth (not b) → ⊥
parts_differ true h = cc
parts_differ false h = cc

pointed_reduced : (level key : List ℕ) (asked : Bool) → text_cmp [] level ≡ Less → IsKey level key → IsReduced (point_tree level key asked)
pointed_reduced level key asked first is = (first, tt, tt, (is, tt, tt, parts_differ asked, tt))

chosen : (o : Ordering) (asked : Bool) → by_order o (not asked) asked (not asked) ≡ as_asked asked (is_eq o)
chosen Less true = refl
chosen Less false = refl
chosen Equal true = refl
chosen Equal false = refl
chosen Greater true = refl
chosen Greater false = refl

pointed_holds : (level key : List ℕ) (asked : Bool) (f : List ℕ → List ℕ) → carries level ≡ false → holds_of (point_tree level key asked) f ≡ as_asked asked (is_eq (text_cmp (f level) key))
pointed_holds level key asked f flat = rw flat (chosen (text_cmp (f level) key) asked)

-- ---- extras

unread-none : (text : List ℕ) → name_of text ≡ None → is_name text ≡ false
unfolding name_of
unread-none text e =
    (elim (is_name text) as (λ b. (if b then Some (normal_form text) else None) ≡ None → b ≡ false) [ true ↦ λ h. cc | false ↦ λ _. refl ]) e

pub name_may : (text name : List ℕ) → name_of text ≡ Some name → true ≡ (is_empty text || is_name text)
name_may text name e = sym (go (is_empty text))
  where
    go : (b : Bool) → (b || is_name text) ≡ true
    go true = refl
    go false = name-is_name text name e

pub no_name_may : (text : List ℕ) → name_of text ≡ None → is_empty text ≡ false → false ≡ (is_empty text || is_name text)
no_name_may text e h = rw (h, unread-none text e) refl

reads_itself : (text : List ℕ) → is_name text ≡ true → name_of text ≡ Some (normal_form text)
unfolding name_of
reads_itself text h = rw h refl

pub extra_key : (literal : List ℕ) → IsExtraLiteral literal → (is_empty literal || is_name literal) ≡ true → IsExtra literal
extra_key [] is h = inl refl
extra_key (b ∷ bs) is h = let e = reads_itself (b ∷ bs) h in inr (e ∙ ap (λ (t : List ℕ). Some t) (is.1 (normal_form (b ∷ bs)) e))

pub extra_reduced : (literal : List ℕ) (equal : Bool) → IsExtra literal → IsReduced (point_tree extra_level literal equal)
extra_reduced literal equal is = pointed_reduced extra_level literal equal refl is

pub turned : (k j : List ℕ) → is_eq (text_cmp k j) ≡ is_eq (text_cmp j k)
turned k j = go (text_cmp k j) refl
  where
    go : (o : Ordering) → text_cmp k j ≡ o → is_eq (text_cmp k j) ≡ is_eq (text_cmp j k)
    go Less e = rw (e, cmp_back k j e) refl
    go Equal e = rw (cmp_equal k j e) refl
    go Greater e = rw (e, cmp_over k j e) refl

pub extra_holds : (literal : List ℕ) (equal : Bool) (w : WorldFields) (x : List ℕ) → (is_empty literal || is_name literal) ≡ true
    → tree_holds (point_tree extra_level literal equal) w x ≡ as_asked equal (equals_extra literal x)
extra_holds literal equal w x may =
    pointed_holds extra_level literal equal (value_of w x) refl
    ∙ ap (as_asked equal) (turned x literal ∙ is_eq-slice_cmp literal x ∙ ap (λ b. b && bytes_eq literal x) (sym may))

-- ---- texts

pub text_below : (v : Variable) → is_text v ≡ true → text_number v < 8
text_below OsName h = omega arith
text_below SysPlatform h = omega arith
text_below PlatformMachine h = omega arith
text_below PlatformPythonImplementation h = omega arith
text_below PlatformRelease h = omega arith
text_below PlatformSystem h = omega arith
text_below PlatformVersion h = omega arith
text_below PythonVersion h = absurd (true≢false (sym h))
text_below PythonFullVersion h = absurd (true≢false (sym h))
text_below ImplementationName h = omega arith
text_below ImplementationVersion h = absurd (true≢false (sym h))
text_below Extras h = absurd (true≢false (sym h))

pub text_reduced : (v : Variable) (literal : List ℕ) (equal : Bool) → is_text v ≡ true → is_literal literal ≡ true → IsReduced (point_tree (text_level v) literal equal)
text_reduced v literal equal is text = pointed_reduced (text_level v) literal equal refl (text_below v is, text)

pub text_holds : (v : Variable) (literal : List ℕ) (equal : Bool) (w : WorldFields) (x : List ℕ)
    → tree_holds (point_tree (text_level v) literal equal) w x ≡ as_asked equal (bytes_eq (text_at w v) literal)
text_holds v literal equal w x =
    pointed_holds (text_level v) literal equal (value_of w x) refl ∙ ap (as_asked equal) (is_eq-slice_cmp (text_at w v) literal)

-- ---- opaque comparisons

pub opaque_reduced : (a : AtomFields) (positive : Bool) → IsAtom a → IsReduced (point_tree (atom_level a) (1 ∷ []) positive)
opaque_reduced a positive is = pointed_reduced (atom_level a) (1 ∷ []) positive refl ((a, is, refl), refl)

pub mark_eq : (b : Bool) → is_eq (text_cmp (mark_of b) (1 ∷ [])) ≡ b
mark_eq true = refl
mark_eq false = refl

level_atom : (atoms : List AtomFields) (a : AtomFields) → has_level atoms (atom_level a) ≡ has_atom atoms a
level_atom atoms a = refl

pub opaque_holds : (a : AtomFields) (positive : Bool) (w : WorldFields) (x : List ℕ)
    → tree_holds (point_tree (atom_level a) (1 ∷ []) positive) w x ≡ as_asked positive (has_atom w.truths a)
opaque_holds a positive w x =
    pointed_holds (atom_level a) (1 ∷ []) positive (value_of w x) refl ∙ ap (as_asked positive) (mark_eq (has_level w.truths (atom_level a)) ∙ level_atom w.truths a)
