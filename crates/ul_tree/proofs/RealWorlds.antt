-- Worlds vary: each level's value can be set alone.
use Rattle.std.proofs.Common.{◌≡◌, ◌≢◌, ℕ, suc, zero, ◌+◌, ◌^◌, ◌/◌, ◌%◌, ◌<◌, List, [], ◌∷◌, length, Bool, true, false, refl, ap, sym, ◌∙◌, arith, Less, Equal, Greater, None, ◌⊎◌, inl, inr}
use Rattle.std.specs.List.{All}
use Rattle.std.proofs.Math.ListN.{set, length-set}
use Rattle.std.proofs.lemmas.List.{get_or-set_same, get_or-set_other}
use Rattle.std.specs.Ordering.{ordering_then}
use Rattle.ul_comparison.specs.Atoms.{AtomFields, IsAtom}
use Rattle.ul_comparison.specs.Worlds.{WorldFields, IsWorld}
use Rattle.ul_nodes.specs.Plain.{Plain, text_cmp, carries}
use Rattle.ul_nodes.specs.Levels.{IsKey, IsAtomLevel, atom_level}
use Rattle.ul_nodes.specs.Reduced.{IsReduced}
use Rattle.ul_tree.specs.Laws.{IsAsciiText}
use Rattle.ul_tree.specs.Values.{number_of, has_level, mark_of, value_of, tree_holds}
use Rattle.ul_tree.proofs.Varied.{Varied}
use Rattle.ul_nodes.proofs.ForCallers.{cmp_itself, cmp_less}
use Rattle.ul_tree.proofs.Atoms.{Each, all_of_each, Rises, rise_of_rises, atoms_of_rises, insert, remove, has_inserted, has_removed, has_inserted_other, has_removed_other, rises_inserted, rises_removed}
use Rattle.ul_tree.proofs.Texts.{extra_low, literal_text_low, low_ascii, low_over}
use Rattle.ul_tree.proofs.Unique.{unique}
use Rattle.ul_nodes.specs.Apply.{size}

-- a world whose parts are in order
record Good (w : WorldFields) : Type 0 where
  major : w.major < 2 ^ 32
  minor : w.minor < 2 ^ 32
  patch : w.patch < 2 ^ 32
  texts : length w.texts ≡ 8
  ascii : Each IsAsciiText w.texts
  atoms : Rises None w.truths

good_world : (w : WorldFields) → Good w → IsWorld w
good_world w h = record {
  major = h.major;
  minor = h.minor;
  patch = h.patch;
  texts = h.texts;
  atoms = all_of_each IsAtom w.truths (atoms_of_rises None w.truths h.atoms);
  increasing = rise_of_rises None w.truths h.atoms;
}

record Place : Type 0 where
  world : WorldFields
  extra : List ℕ
  good : Good world
  ascii : IsAsciiText extra

abbrev value : Place → List ℕ → List ℕ
value p l = value_of p.world p.extra l

abbrev Ok : List ℕ → List ℕ → Type 0
Ok [] v = ⊥
Ok (zero ∷ []) v = IsAsciiText v
Ok (suc zero ∷ []) v = (x : ℕ) × (v ≡ x ∷ []) × (x < 2 ^ 96)
Ok (suc (suc i) ∷ []) v = (i < 8) × IsAsciiText v
Ok (a ∷ b ∷ rest) v = IsAtomLevel (a ∷ b ∷ rest) × ((v ≡ 1 ∷ []) ⊎ (v ≡ 0 ∷ []))

abbrev free : List ℕ → List ℕ
free [] = []
free (zero ∷ []) = 127 ∷ []
free (suc zero ∷ []) = 0 ∷ []
free (suc (suc i) ∷ []) = 127 ∷ []
free (a ∷ b ∷ rest) = 0 ∷ []

ascii_set : (ts : List (List ℕ)) (i : ℕ) (v : List ℕ) → Each IsAsciiText ts → IsAsciiText v → Each IsAsciiText (set ts i v)
ascii_set [] i v h x = tt
ascii_set (t ∷ ts) zero v h x = (x, h.1)
ascii_set (t ∷ ts) (suc i) v h x = (h.0, ascii_set ts i v h.1 x)

abbrev pub moved : WorldFields → ℕ → WorldFields
moved w x = record w { major = (x / 2 ^ 32) / 2 ^ 32; minor = (x / 2 ^ 32) % 2 ^ 32; patch = x % 2 ^ 32 }

abbrev marks : Bool → AtomFields → List AtomFields → List AtomFields
marks true a ss = insert a ss
marks false a ss = remove a ss

abbrev marked : WorldFields → AtomFields → Bool → WorldFields
marked w a b = record w { truths = marks b a w.truths }

good_moved : (w : WorldFields) (x : ℕ) → Good w → x < 2 ^ 96 → Good (moved w x)
good_moved w x h y = record { major = omega arith; minor = omega arith; patch = omega arith; texts = h.texts; ascii = h.ascii; atoms = h.atoms }

pub number_moved : (w : WorldFields) (x : ℕ) → number_of (moved w x) ≡ x
number_moved w x = omega arith

good_marked : (w : WorldFields) (a : AtomFields) (b : Bool) → Good w → IsAtom a → Good (marked w a b)
good_marked w a true h y = record { major = h.major; minor = h.minor; patch = h.patch; texts = h.texts; ascii = h.ascii; atoms = rises_inserted a w.truths None h.atoms tt y }
good_marked w a false h y = record { major = h.major; minor = h.minor; patch = h.patch; texts = h.texts; ascii = h.ascii; atoms = rises_removed a w.truths None h.atoms }

abbrev is_one : {v : List ℕ} → (v ≡ 1 ∷ []) ⊎ (v ≡ 0 ∷ []) → Bool
is_one (inl e) = true
is_one (inr e) = false

abbrev put : (p : Place) (l v : List ℕ) → Ok l v → Place
put p [] v o = absurd o
put p (zero ∷ []) v o = record p { extra = v; ascii = o }
put p (suc zero ∷ []) v o = record { world = moved p.world o.0; extra = p.extra; good = good_moved p.world o.0 p.good o.2; ascii = p.ascii }
put p (suc (suc i) ∷ []) v o = record {
  world = record p.world { texts = set p.world.texts i v };
  extra = p.extra;
  good = record {
    major = p.good.major;
    minor = p.good.minor;
    patch = p.good.patch;
    texts = length-set p.world.texts i v ∙ p.good.texts;
    ascii = ascii_set p.world.texts i v p.good.ascii o.1;
    atoms = p.good.atoms;
  };
  ascii = p.ascii;
}
put p (a ∷ b ∷ rest) v o = record { world = marked p.world o.0.0 (is_one o.1); extra = p.extra; good = good_marked p.world o.0.0 (is_one o.1) p.good o.0.1; ascii = p.ascii }

marked_same : (w : WorldFields) (a : AtomFields) (l v : List ℕ) → l ≡ atom_level a → (o : (v ≡ 1 ∷ []) ⊎ (v ≡ 0 ∷ [])) → mark_of (has_level (marked w a (is_one o)).truths l) ≡ v
marked_same w a l v at (inl e) = ap (λ z. mark_of (has_level (insert a w.truths) z)) at ∙ ap mark_of (has_inserted a w.truths) ∙ sym e
marked_same w a l v at (inr e) = ap (λ z. mark_of (has_level (remove a w.truths) z)) at ∙ ap mark_of (has_removed a w.truths) ∙ sym e

marked_other : (w : WorldFields) (a : AtomFields) (k : List ℕ) (b : Bool) → text_cmp (atom_level a) k ≢ Equal → mark_of (has_level (marked w a b).truths k) ≡ mark_of (has_level w.truths k)
marked_other w a k true n = ap mark_of (has_inserted_other a k w.truths n)
marked_other w a k false n = ap mark_of (has_removed_other a k w.truths n)

same : (p : Place) (l v : List ℕ) (o : Ok l v) → value (put p l v o) l ≡ v
same p [] v o = absurd o
same p (zero ∷ []) v o = refl
same p (suc zero ∷ []) v o = ap (λ x. x ∷ []) (number_moved p.world o.0) ∙ sym o.1
same p (suc (suc i) ∷ []) v o = get_or-set_same p.world.texts i v [] (rw (p.good.texts) o.0)
same p (a ∷ b ∷ rest) v o = marked_same p.world o.0.0 (a ∷ b ∷ rest) v o.0.2 o.1

less_apart : (a c : List ℕ) → text_cmp a c ≡ Less → text_cmp a c ≢ Equal
less_apart a c e q = cc

other : (p : Place) (l v : List ℕ) (o : Ok l v) (k : List ℕ) → text_cmp l k ≡ Less → value (put p l v o) k ≡ value p k
other p [] v o k e = absurd o
other p (zero ∷ []) v o [] e = refl
other p (zero ∷ []) v o (zero ∷ []) e = cc
other p (zero ∷ []) v o (suc zero ∷ []) e = refl
other p (zero ∷ []) v o (suc (suc j) ∷ []) e = refl
other p (zero ∷ []) v o (c ∷ d ∷ more) e = refl
other p (suc zero ∷ []) v o [] e = refl
other p (suc zero ∷ []) v o (zero ∷ []) e = refl
other p (suc zero ∷ []) v o (suc zero ∷ []) e = cc
other p (suc zero ∷ []) v o (suc (suc j) ∷ []) e = refl
other p (suc zero ∷ []) v o (c ∷ d ∷ more) e = refl
other p (suc (suc i) ∷ []) v o [] e = refl
other p (suc (suc i) ∷ []) v o (zero ∷ []) e = refl
other p (suc (suc i) ∷ []) v o (suc zero ∷ []) e = refl
other p (suc (suc i) ∷ []) v o (suc (suc j) ∷ []) e =
    get_or-set_other p.world.texts i j v [] (λ q. less_apart (suc (suc i) ∷ []) (suc (suc j) ∷ []) e (ap (λ n. text_cmp (suc (suc i) ∷ []) (suc (suc n) ∷ [])) q ∙ cmp_itself (suc (suc i) ∷ [])))
other p (suc (suc i) ∷ []) v o (c ∷ d ∷ more) e = refl
other p (a ∷ b ∷ rest) v o [] e = refl
other p (a ∷ b ∷ rest) v o (zero ∷ []) e = refl
other p (a ∷ b ∷ rest) v o (suc zero ∷ []) e = refl
other p (a ∷ b ∷ rest) v o (suc (suc j) ∷ []) e = refl
other p (a ∷ b ∷ rest) v o (c ∷ d ∷ more) e =
    marked_other p.world o.0.0 (c ∷ d ∷ more) (is_one o.1) (less_apart (atom_level o.0.0) (c ∷ d ∷ more) (ap (λ z. text_cmp z (c ∷ d ∷ more)) (sym o.0.2) ∙ e))

key_ok : (l k : List ℕ) → IsKey l k → Ok l k
key_ok [] k h = h
key_ok (zero ∷ []) k h = low_ascii k (extra_low k h)
key_ok (suc zero ∷ []) k h = (h.0, h.1, h.3)
key_ok (suc (suc i) ∷ []) k h = (h.0, low_ascii k (literal_text_low k h.1))
key_ok (a ∷ b ∷ rest) k h = (h.0, inl h.1)

free_ok : (l k : List ℕ) → IsKey l k → Ok l (free l)
free_ok [] k h = h
free_ok (zero ∷ []) k h = refl
free_ok (suc zero ∷ []) k h = (0, refl, omega arith)
free_ok (suc (suc i) ∷ []) k h = (h.0, refl)
free_ok (a ∷ b ∷ rest) k h = (h.0, inr refl)

free_key : (l k : List ℕ) → IsKey l k → (text_cmp (free l) k ≡ Less) ⊎ ((carries l ≡ false) × (text_cmp (free l) k ≡ Greater))
free_key [] k h = absurd h
free_key (zero ∷ []) k h = inr (refl, low_over k (extra_low k h))
free_key (suc zero ∷ []) k h = inl (ap (text_cmp (0 ∷ [])) h.1 ∙ ap (λ o. ordering_then o Equal) (cmp_less 0 h.0 h.2))
free_key (suc (suc i) ∷ []) k h = inr (refl, low_over k (literal_text_low k h.1))
free_key (a ∷ b ∷ rest) k h = inl (ap (text_cmp (0 ∷ [])) h.1)

empty_place : Place
empty_place = record {
  world = record { major = 0; minor = 0; patch = 0; texts = [] ∷ [] ∷ [] ∷ [] ∷ [] ∷ [] ∷ [] ∷ [] ∷ []; truths = [] };
  extra = [];
  good = record { major = omega arith; minor = omega arith; patch = omega arith; texts = refl; ascii = (refl, (refl, (refl, (refl, (refl, (refl, (refl, (refl, tt)))))))); atoms = tt };
  ascii = refl;
}

varied : Varied Place value Ok free
varied = record { base = empty_place; put = put; same = same; other = other; key_ok = key_ok; free_ok = free_ok; free_key = free_key }

-- the law over every extra of ASCII
pub unique_at_ascii : (s t : Plain) → IsReduced s → IsReduced t
    → ((w : WorldFields) (x : List ℕ) → IsWorld w → All IsAsciiText w.texts → IsAsciiText x → tree_holds s w x ≡ tree_holds t w x) → s ≡ t
unique_at_ascii s t x y h =
    unique Place value Ok free varied (suc (size s + size t)) s t [] (omega arith) x y (λ p. h p.world p.extra (good_world p.world p.good) (all_of_each IsAsciiText p.world.texts p.good.ascii) p.ascii)
