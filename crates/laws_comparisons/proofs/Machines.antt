-- What a machine file says is a machine, whose worlds are worlds.
use Rattle.std.proofs.Common.{◌≡◌, ◌<◌, ◌^◌, ◌&&◌, ℕ, suc, List, [], ◌∷◌, length, Bool, true, false, Option, Some, None, Result, Ok, Err, refl, ap, sym, subst, ◌∙◌, cond}
use Rattle.std.specs.Prelude.{All, codes, if◌then◌else◌, nat_lt}
use Rattle.std.specs.List.{after_first, before_first}
use Rattle.std.specs.Option.{ok_or}
use Rattle.std.specs.Str.{all_ascii_digits}
use Rattle.std.specs.Str.Parse.{digits_value}
use Rattle.std.proofs.lemmas.Bool.{and_parts, ltb-true}
use Rattle.std.proofs.lemmas.List.Elements.{All-head, All-nil, All-tail}
use Rattle.serde_json.specs.Data.{Data}
use Rattle.ul_version.specs.Reading.{◌>>=◌ as ◌>>?◌}
use Rattle.ul_comparison.specs.Atoms.{AtomFields, IsAtom}
use Rattle.ul_comparison.specs.MachineFiles.{◌>>=◌, MachineRefusal, machine_in, machine_of, object_of, python_form, text_in, text_keys, texts_in}
use Rattle.ul_comparison.specs.Machines.{IsMachine, MachineFields, atom_holds, machine_fields, put_atom, truths_onto}
use Rattle.ul_comparison.specs.Triples.{is_point, number_of, triple_of}
use Rattle.ul_comparison.proofs.ForCallers.{put_atoms, truths_rise}
use Rattle.laws_comparisons.specs.Comparisons.{FilesSayMachines, MachinesHaveWorlds}

-- ---- steps that may refuse

went_on : {X Y : Type 0} (r : Result X MachineRefusal) (f : X → Result Y MachineRefusal) (y : Y) → (r >>= f) ≡ Ok y
    → (x : X) × (r ≡ Ok x) × (f x ≡ Ok y)
went_on (Ok x) f y e = (x, refl, e)
went_on (Err fault) f y e = absurd (cc e)

went_past : {X Y : Type 0} (o : Option X) (f : X → Option Y) (y : Y) → (o >>? f) ≡ Some y → (x : X) × (o ≡ Some x) × (f x ≡ Some y)
went_past (Some x) f y e = (x, refl, e)
went_past None f y e = absurd (cc e)

was_there : {X : Type 0} (o : Option X) (fault : MachineRefusal) (x : X) → ok_or o fault ≡ Ok x → o ≡ Some x
was_there (Some y) fault x e = let same : y ≡ x = cc in ap (λ z. Some z) same
was_there None fault x e = absurd (cc e)

same_ok : {X : Type 0} (x y : X) → (let r : Result X MachineRefusal = Ok x in r) ≡ Ok y → x ≡ y
same_ok x y e = cc

same_some : {X : Type 0} (x y : X) → (let o : Option X = Some x in o) ≡ Some y → x ≡ y
same_some x y e = cc

-- ---- the numbers

below : (digits : List ℕ) (n : ℕ) → number_of digits ≡ Some n → n < 2 ^ 32
unfolding number_of
below digits n e = go (all_ascii_digits digits && (nat_lt 0 (length digits) && nat_lt (digits_value 10 digits) (2 ^ 32))) refl e
  where
    go : (b : Bool) → (all_ascii_digits digits && (nat_lt 0 (length digits) && nat_lt (digits_value 10 digits) (2 ^ 32))) ≡ b
        → cond b (Some (digits_value 10 digits)) None ≡ Some n → n < 2 ^ 32
    go true q e =
        let fits = (and_parts (nat_lt 0 (length digits)) (nat_lt (digits_value 10 digits) (2 ^ 32))
        (and_parts (all_ascii_digits digits) (nat_lt 0 (length digits) && nat_lt (digits_value 10 digits) (2 ^ 32)) q).1).1 in
        subst (λ k. k < 2 ^ 32) (same_some (digits_value 10 digits) n e) (ltb-true (digits_value 10 digits) (2 ^ 32) fits)
    go false q e = absurd (cc e)

-- three numbers, each below 2^32
record AreBelow (t : ℕ × ℕ × ℕ) : Type 0 where
  major : t.0 < 2 ^ 32
  minor : t.1 < 2 ^ 32
  patch : t.2 < 2 ^ 32

triple_below : (text : List ℕ) (t : ℕ × ℕ × ℕ) → triple_of text ≡ Some t → AreBelow t
unfolding triple_of
triple_below text t e =
    let first = before_first is_point text in
    let rest = after_first is_point text in
    let major = went_past (number_of first) _ t e in
    let minor = went_past (number_of (before_first is_point rest)) _ t major.2 in
    let patch = went_past (number_of (after_first is_point rest)) _ t minor.2 in
    subst AreBelow {x = (major.0, minor.0, patch.0)} (same_some (major.0, minor.0, patch.0) t patch.2)
    (record { major = below first major.0 major.1; minor = below (before_first is_point rest) minor.0 minor.1; patch = below (after_first is_point rest) patch.0 patch.1 })

-- ---- the texts

as_many : (keys : List (List ℕ)) (file : Data) (texts : List (List ℕ)) → texts_in keys file ≡ Ok texts → length texts ≡ length keys
as_many [] file texts e = sym (ap length (same_ok [] texts e))
as_many (key ∷ keys) file texts e =
    let text = went_on (text_in key file) _ texts e in
    let rest = went_on (texts_in keys file) _ texts text.2 in
    sym (ap length (same_ok (text.0 ∷ rest.0) texts rest.2)) ∙ ap (λ n. suc n) (as_many keys file rest.0 rest.1)

-- ---- the machine

-- what is read of an object, one after another
abbrev with_python : List (List ℕ) → List ℕ → ℕ × ℕ × ℕ → Result MachineFields MachineRefusal
with_python texts implementation python = Ok (machine_fields python texts implementation)

abbrev with_version : List (List ℕ) → List ℕ → List ℕ → Result MachineFields MachineRefusal
with_version texts implementation version = ok_or (triple_of version) python_form >>= with_python texts implementation

abbrev with_implementation : Data → List (List ℕ) → List ℕ → Result MachineFields MachineRefusal
with_implementation file texts implementation = text_in (codes "python_full_version") file >>= with_version texts implementation

abbrev with_texts : Data → List (List ℕ) → Result MachineFields MachineRefusal
with_texts file texts = text_in (codes "implementation_version") file >>= with_implementation file texts

object_says : (file : Data) (m : MachineFields) → machine_in file ≡ Ok m → IsMachine m
unfolding machine_in
object_says file m e =
    let texts = went_on (texts_in text_keys file) (with_texts file) m e in
    let implementation = went_on (text_in (codes "implementation_version") file) (with_implementation file texts.0) m texts.2 in
    let version = went_on (text_in (codes "python_full_version") file) (with_version texts.0 implementation.0) m implementation.2 in
    let python = went_on (ok_or (triple_of version.0) python_form) (with_python texts.0 implementation.0) m version.2 in
    let numbers = triple_below version.0 python.0 (was_there (triple_of version.0) python_form python.0 python.1) in
    subst IsMachine {x = machine_fields python.0 texts.0 implementation.0} (same_ok (machine_fields python.0 texts.0 implementation.0) m python.2)
    (record { major = numbers.major; minor = numbers.minor; patch = numbers.patch; texts = as_many text_keys file texts.0 texts.1 })

pub files_say_machines : FilesSayMachines
unfolding machine_of
files_say_machines bytes m e = let file = went_on (object_of bytes) machine_in m e in object_says file.0 m file.2

-- ---- its world

truths_atoms : (m : MachineFields) (ts comparisons : List AtomFields) → All IsAtom ts → All IsAtom comparisons → All IsAtom (truths_onto m ts comparisons)
unfolding truths_onto
truths_atoms m ts [] h all = h
truths_atoms m ts (a ∷ rest) h all =
    truths_atoms m (if atom_holds m a then put_atom a ts else ts) rest (one (atom_holds m a)) (All-tail IsAtom a rest all)
  where
    one : (b : Bool) → All IsAtom (if b then put_atom a ts else ts)
    one true = put_atoms a ts (All-head IsAtom a rest all) h
    one false = h

pub machines_have_worlds : MachinesHaveWorlds
machines_have_worlds m comparisons is all = record {
  major = is.major;
  minor = is.minor;
  patch = is.patch;
  texts = is.texts;
  atoms = truths_atoms m [] comparisons (All-nil IsAtom) all;
  increasing = truths_rise m [] comparisons tt;
}
