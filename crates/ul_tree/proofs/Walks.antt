-- The world of a path has the path's values.
use Rattle.std.proofs.Common.{◌≡◌, ◌≢◌, ℕ, suc, zero, ◌/◌, ◌%◌, ◌^◌, ◌<◌, List, [], ◌∷◌, ◌++◌, length, get_or, append-nil, Bool, true, false, ◌||◌, cond, refl, ap, sym, ◌∙◌, subst, arith, Less, Equal, Greater, Option, Some, None, ◌⊎◌, inl, inr}
use Rattle.std.specs.Ordering.{is_eq, ordering_then}
use Rattle.std.proofs.Math.ListN.{length-set}
use Rattle.std.proofs.lemmas.List.{get_or-set_same, get_or-set_other}
use Rattle.ul_comparison.specs.Atoms.{AtomFields, IsAtom, variable_number, kind_number}
use Rattle.ul_comparison.specs.Worlds.{WorldFields, IsWorld, IsAfter}
use Rattle.ul_comparison.specs.declared.variable.AtomKind.{AtomKind}
use Rattle.ul_comparison.specs.declared.variable.AtomKind.TheVariants.{Contains, Within, Below, AtMost, Same}
use Rattle.ul_comparison.specs.declared.variable.Variable.{Variable}
use Rattle.ul_comparison.specs.declared.variable.Variable.TheVariants.{OsName, SysPlatform, PlatformMachine, PlatformPythonImplementation, PlatformRelease, PlatformSystem, PlatformVersion, PythonVersion, PythonFullVersion, ImplementationName, ImplementationVersion, Extras}
use Rattle.ul_nodes.specs.Levels.{IsKey, IsAtomLevel, extra_level, atom_level}
use Rattle.ul_nodes.specs.Plain.{Plain, truth, node, Branches, done, branch, text_cmp, carries, carried_part, holds_of}
use Rattle.ul_nodes.specs.Reduced.{IsReduced, Fits, FitsAll}
use Rattle.ul_tree.specs.Sample.{Step, beside, or_else, longer_path, first_path, first_in, variable_of, kind_of, atom_of, held, with_level, with_steps, with_path, empty_world, sample_of, asks_extra, SampleHolds}
use Rattle.ul_tree.specs.Values.{has_level, mark_of, value_of, tree_holds}
use Rattle.ul_nodes.proofs.ForCallers.{cmp_itself, cmp_back, cmp_less, cmp_trans}
use Rattle.ul_tree.proofs.Atoms.{Each, all_of_each, Rises, rise_of_rises, atoms_of_rises, unlike}
use Rattle.ul_tree.proofs.Leads.{Agrees, Leads, leads, Stands, stands}
use Rattle.ul_tree.proofs.RealWorlds.{number_moved}

-- ---- levels of atoms read back

pub variable_back : (v : Variable) → variable_of (variable_number v) ≡ v
variable_back OsName = refl
variable_back SysPlatform = refl
variable_back PlatformMachine = refl
variable_back PlatformPythonImplementation = refl
variable_back PlatformRelease = refl
variable_back PlatformSystem = refl
variable_back PlatformVersion = refl
variable_back PythonVersion = refl
variable_back PythonFullVersion = refl
variable_back ImplementationName = refl
variable_back ImplementationVersion = refl
variable_back Extras = refl

pub kind_back : (k : AtomKind) → kind_of (kind_number k) ≡ k
kind_back Contains = refl
kind_back Within = refl
kind_back Below = refl
kind_back AtMost = refl
kind_back Same = refl

pub atom_back : (a : AtomFields) → atom_of (atom_level a) ≡ a
atom_back a =
    let first : AtomFields = record { variable = variable_of (variable_number a.variable); kind = kind_of (kind_number a.kind); literal = a.literal } in
    let second : AtomFields = record { variable = a.variable; kind = kind_of (kind_number a.kind); literal = a.literal } in
    let p : first ≡ second = ap (λ v. record { variable = v; kind = kind_of (kind_number a.kind); literal = a.literal }) (variable_back a.variable) in
    let q : second ≡ a = ap (λ k. record { variable = a.variable; kind = k; literal = a.literal }) (kind_back a.kind) in
    p ∙ q

pub level_back : (l : List ℕ) → IsAtomLevel l → atom_level (atom_of l) ≡ l
level_back l o = ap (λ z. atom_level (atom_of z)) o.2 ∙ ap atom_level (atom_back o.0) ∙ sym o.2

pub atom_found : (l : List ℕ) → IsAtomLevel l → IsAtom (atom_of l)
atom_found l o = subst IsAtom (sym (ap atom_of o.2 ∙ atom_back o.0)) o.1

-- ---- steps that a world can have

-- a value that a level can be set to; at the extra's level it is the extra
abbrev pub Fine : List ℕ → List ℕ → List ℕ → Type 0
Fine x [] v = ⊥
Fine x (zero ∷ []) v = x ≡ v
Fine x (suc zero ∷ []) v = (n : ℕ) × (v ≡ n ∷ []) × (n < 2 ^ 96)
Fine x (suc (suc i) ∷ []) v = i < 8
Fine x (a ∷ b ∷ rest) v = IsAtomLevel (a ∷ b ∷ rest) × ((v ≡ 1 ∷ []) ⊎ (v ≡ 0 ∷ []))

-- steps by increasing level, after one
abbrev pub Walk : List ℕ → List ℕ → List Step → Type 0
Walk x b [] = Unit {0}
Walk x b (s ∷ steps) = (text_cmp b s.level ≡ Less) × Fine x s.level s.value × Walk x s.level steps

-- a level before all those after a bound
abbrev Before : List ℕ → List ℕ → Type 0
Before b s = (l : List ℕ) → text_cmp b l ≡ Less → text_cmp s l ≡ Less

-- a world with atoms up to a level
record Sound (b : List ℕ) (w : WorldFields) : Type 0 where
  major : w.major < 2 ^ 32
  minor : w.minor < 2 ^ 32
  patch : w.patch < 2 ^ 32
  texts : length w.texts ≡ 8
  atoms : Rises None w.truths
  before : Each (λ a. Before b (atom_level a)) w.truths

sound_world : (b : List ℕ) (w : WorldFields) → Sound b w → IsWorld w
sound_world b w h = record {
  major = h.major;
  minor = h.minor;
  patch = h.patch;
  texts = h.texts;
  atoms = all_of_each IsAtom w.truths (atoms_of_rises None w.truths h.atoms);
  increasing = rise_of_rises None w.truths h.atoms;
}

sound_empty : (b : List ℕ) → Sound b empty_world
sound_empty b = record { major = omega arith; minor = omega arith; patch = omega arith; texts = refl; atoms = tt; before = tt }

before_later : (b l : List ℕ) (ss : List AtomFields) → text_cmp b l ≡ Less → Each (λ a. Before b (atom_level a)) ss → Each (λ a. Before l (atom_level a)) ss
before_later b l [] e h = tt
before_later b l (s ∷ ss) e h = (λ k g. h.0 k (cmp_trans b l k e g), before_later b l ss e h.1)

each_appended : (P : AtomFields → Type 0) (ss ts : List AtomFields) → Each P ss → Each P ts → Each P (ss ++ ts)
each_appended P [] ts x y = y
each_appended P (s ∷ ss) ts x y = (x.0, each_appended P ss ts x.1 y)

rises_appended : (b : Option AtomFields) (ss : List AtomFields) (a : AtomFields) → Rises b ss → Each (λ s. text_cmp (atom_level s) (atom_level a) ≡ Less) ss → IsAfter b a → IsAtom a → Rises b (ss ++ a ∷ [])
rises_appended b [] a h e x y = (x, y, tt)
rises_appended b (s ∷ ss) a h e x y = (h.0, h.1, rises_appended (Some s) ss a h.2 e.1 e.0 y)

before_atom : (b l : List ℕ) (ss : List AtomFields) → text_cmp b l ≡ Less → IsAtomLevel l → Each (λ a. Before b (atom_level a)) ss → Each (λ s. text_cmp (atom_level s) (atom_level (atom_of l)) ≡ Less) ss
before_atom b l [] e o h = tt
before_atom b l (s ∷ ss) e o h = (ap (text_cmp (atom_level s)) (level_back l o) ∙ h.0 l e, before_atom b l ss e o h.1)

sound_moved : (b l : List ℕ) (w : WorldFields) (x : ℕ) → text_cmp b l ≡ Less → x < 2 ^ 96 → Sound b w
    → Sound l (record w { major = (x / 2 ^ 32) / 2 ^ 32; minor = (x / 2 ^ 32) % 2 ^ 32; patch = x % 2 ^ 32 })
sound_moved b l w x e y h =
    record { major = omega arith; minor = omega arith; patch = omega arith; texts = h.texts; atoms = h.atoms; before = before_later b l w.truths e h.before }

sound_held : (b l v : List ℕ) (w : WorldFields) → text_cmp b l ≡ Less → IsAtomLevel l → (v ≡ 1 ∷ []) ⊎ (v ≡ 0 ∷ []) → Sound b w → Sound l (record w { truths = w.truths ++ held l v })
sound_held b l v w e o (inl q) h = subst (λ (z : List ℕ). Sound l (record w { truths = w.truths ++ held l z })) (sym q) (record {
  major = h.major;
  minor = h.minor;
  patch = h.patch;
  texts = h.texts;
  atoms = rises_appended None w.truths (atom_of l) h.atoms (before_atom b l w.truths e o h.before) tt (atom_found l o);
  before = each_appended (λ a. Before l (atom_level a)) w.truths (atom_of l ∷ []) (before_later b l w.truths e h.before) (λ k g. ap (λ z. text_cmp z k) (level_back l o) ∙ g, tt);
})
sound_held b l v w e o (inr q) h = subst (λ (z : List ℕ). Sound l (record w { truths = w.truths ++ held l z })) (sym q) (record {
  major = h.major;
  minor = h.minor;
  patch = h.patch;
  texts = h.texts;
  atoms = rw append-nil h.atoms;
  before = rw append-nil (before_later b l w.truths e h.before);
})

sound_step : (x b l v : List ℕ) (w : WorldFields) → text_cmp b l ≡ Less → Fine x l v → Sound b w → Sound l (with_level l v w)
sound_step x b [] v w e o h = absurd o
sound_step x b (zero ∷ []) v w e o h = record { major = h.major; minor = h.minor; patch = h.patch; texts = h.texts; atoms = h.atoms; before = before_later b (zero ∷ []) w.truths e h.before }
sound_step x b (suc zero ∷ []) v w e o h = sound_moved b (suc zero ∷ []) w (get_or v 0 0) e (rw (o.1) o.2) h
sound_step x b (suc (suc i) ∷ []) v w e o h = record {
  major = h.major;
  minor = h.minor;
  patch = h.patch;
  texts = length-set w.texts i v ∙ h.texts;
  atoms = h.atoms;
  before = before_later b (suc (suc i) ∷ []) w.truths e h.before;
}
sound_step x b (a ∷ c ∷ rest) v w e o h = sound_held b (a ∷ c ∷ rest) v w e o.0 o.1 h

walk_world : (x b : List ℕ) (steps : List Step) (w : WorldFields) → Walk x b steps → Sound b w → IsWorld (with_steps w steps)
walk_world x b [] w h s = sound_world b w s
walk_world x b (t ∷ steps) w h s = walk_world x t.level steps (with_level t.level t.value w) h.2 (sound_step x b t.level t.value w h.0 h.1 s)

-- ---- the values of a path

less_apart : (l k : List ℕ) → text_cmp l k ≡ Less → text_cmp k l ≢ Equal
less_apart l k e q = let p : Greater ≡ Equal = sym (cmp_back l k e) ∙ q in cc

has_more : (ss ts : List AtomFields) (l : List ℕ) → has_level ts l ≡ false → has_level (ss ++ ts) l ≡ has_level ss l
has_more [] ts l h = h
has_more (s ∷ ss) ts l h = ap (λ t. is_eq (text_cmp (atom_level s) l) || t) (has_more ss ts l h)

has_last : (ss : List AtomFields) (a : AtomFields) (l : List ℕ) → atom_level a ≡ l → has_level (ss ++ a ∷ []) l ≡ true
has_last [] a l e = ap (λ z. is_eq (text_cmp z l) || false) e ∙ ap (λ o. is_eq o || false) (cmp_itself l)
has_last (s ∷ ss) a l e = ap (λ t. is_eq (text_cmp (atom_level s) l) || t) (has_last ss a l e) ∙ or_true (is_eq (text_cmp (atom_level s) l))
  where
    or_true : (t : Bool) → (t || true) ≡ true
    or_true true = refl
    or_true false = refl

-- a later step changes no value
held_other : (l k v : List ℕ) (ss : List AtomFields) → text_cmp l k ≡ Less → IsAtomLevel k → (v ≡ 1 ∷ []) ⊎ (v ≡ 0 ∷ []) → has_level (ss ++ held k v) l ≡ has_level ss l
held_other l k v ss e o (inl q) =
    has_more ss (held k v) l (ap (λ z. has_level (held k z) l) q ∙ unlike (text_cmp (atom_level (atom_of k)) l) false (λ r. less_apart l k e (ap (λ z. text_cmp z l) (sym (level_back k o)) ∙ r)))
held_other l k v ss e o (inr q) = has_more ss (held k v) l (ap (λ z. has_level (held k z) l) q)

step_other : (x y l k v : List ℕ) (w : WorldFields) → text_cmp l k ≡ Less → Fine x k v → value_of (with_level k v w) y l ≡ value_of w y l
step_other x y l [] v w e o = absurd o
step_other x y l (zero ∷ []) v w e o = refl
step_other x y [] (suc zero ∷ []) v w e o = refl
step_other x y (zero ∷ []) (suc zero ∷ []) v w e o = refl
step_other x y (suc zero ∷ []) (suc zero ∷ []) v w e o = cc
step_other x y (suc (suc i) ∷ []) (suc zero ∷ []) v w e o = refl
step_other x y (a ∷ b ∷ rest) (suc zero ∷ []) v w e o = refl
step_other x y [] (suc (suc j) ∷ []) v w e o = refl
step_other x y (zero ∷ []) (suc (suc j) ∷ []) v w e o = refl
step_other x y (suc zero ∷ []) (suc (suc j) ∷ []) v w e o = refl
step_other x y (suc (suc i) ∷ []) (suc (suc j) ∷ []) v w e o =
    get_or-set_other w.texts j i v [] (λ q. less_apart (suc (suc i) ∷ []) (suc (suc j) ∷ []) e (ap (λ n. text_cmp (suc (suc j) ∷ []) (suc (suc n) ∷ [])) q ∙ cmp_itself (suc (suc j) ∷ [])))
step_other x y (a ∷ b ∷ rest) (suc (suc j) ∷ []) v w e o = refl
step_other x y [] (c ∷ d ∷ more) v w e o = refl
step_other x y (zero ∷ []) (c ∷ d ∷ more) v w e o = refl
step_other x y (suc zero ∷ []) (c ∷ d ∷ more) v w e o = refl
step_other x y (suc (suc i) ∷ []) (c ∷ d ∷ more) v w e o = refl
step_other x y (a ∷ b ∷ rest) (c ∷ d ∷ more) v w e o = ap mark_of (held_other (a ∷ b ∷ rest) (c ∷ d ∷ more) v w.truths e o.0 o.1)

walk_other : (x b l : List ℕ) (steps : List Step) (w : WorldFields) → Walk x b steps → Before b l → value_of (with_steps w steps) x l ≡ value_of w x l
walk_other x b l [] w h g = refl
walk_other x b l (s ∷ steps) w h g =
    walk_other x s.level l steps (with_level s.level s.value w) h.2 (λ k e. cmp_trans l s.level k (g s.level h.0) e) ∙ step_other x x l s.level s.value w (g s.level h.0) h.1

-- a step sets its value
before_none : (b l : List ℕ) (ss : List AtomFields) → text_cmp b l ≡ Less → Each (λ a. Before b (atom_level a)) ss → has_level ss l ≡ false
before_none b l [] e h = refl
before_none b l (s ∷ ss) e h = unlike (text_cmp (atom_level s) l) (has_level ss l) (λ q. let p : Less ≡ Equal = sym (h.0 l e) ∙ q in cc) ∙ before_none b l ss e h.1

held_same : (b l v : List ℕ) (w : WorldFields) → text_cmp b l ≡ Less → IsAtomLevel l → (v ≡ 1 ∷ []) ⊎ (v ≡ 0 ∷ []) → Sound b w → mark_of (has_level (w.truths ++ held l v) l) ≡ v
held_same b l v w e o (inl q) h = ap (λ z. mark_of (has_level (w.truths ++ held l z) l)) q ∙ ap mark_of (has_last w.truths (atom_of l) l (level_back l o)) ∙ sym q
held_same b l v w e o (inr q) h = ap (λ z. mark_of (has_level (w.truths ++ held l z) l)) q ∙ ap mark_of (has_more w.truths [] l refl ∙ before_none b l w.truths e h.before) ∙ sym q

step_same : (x b l v : List ℕ) (w : WorldFields) → text_cmp b l ≡ Less → Fine x l v → Sound b w → value_of (with_level l v w) x l ≡ v
step_same x b [] v w e o h = absurd o
step_same x b (zero ∷ []) v w e o h = o
step_same x b (suc zero ∷ []) v w e o h = ap (λ n. n ∷ []) (number_moved w (get_or v 0 0) ∙ ap (λ z. get_or z 0 0) o.1) ∙ sym o.1
step_same x b (suc (suc i) ∷ []) v w e o h = get_or-set_same w.texts i v [] (rw (h.texts) o)
step_same x b (a ∷ c ∷ rest) v w e o h = held_same b (a ∷ c ∷ rest) v w e o.0 o.1 h

walk_agrees : (x b : List ℕ) (steps : List Step) (w : WorldFields) → Walk x b steps → Sound b w → Agrees (value_of (with_steps w steps) x) steps
walk_agrees x b [] w h s = tt
walk_agrees x b (t ∷ steps) w h s = (
  walk_other x t.level t.level steps (with_level t.level t.value w) h.2 (λ k e. e) ∙ step_same x b t.level t.value w h.0 h.1 s,
  walk_agrees x t.level steps (with_level t.level t.value w) h.2 (sound_step x b t.level t.value w h.0 h.1 s),
)

-- ---- the first path is such a walk

abbrev pub Walks : List ℕ → List ℕ → Option (List Step) → Type 0
Walks x b None = Unit {0}
Walks x b (Some steps) = Walk x b steps

or_walks : (x b : List ℕ) (p q : Option (List Step)) → Walks x b p → Walks x b q → Walks x b (or_else p q)
or_walks x b None q g h = h
or_walks x b (Some p) q g h = g

step_walks : (x b l v : List ℕ) (p : Option (List Step)) → text_cmp b l ≡ Less → Fine x l v → Walks x l p → Walks x b (longer_path l v p)
step_walks x b l v None e o h = tt
step_walks x b l v (Some steps) e o h = (e, o, h)

key_fine : (x l k : List ℕ) → text_cmp extra_level l ≡ Less → IsKey l k → Fine x l k
key_fine x [] k e h = h
key_fine x (zero ∷ []) k e h = cc
key_fine x (suc zero ∷ []) k e h = (h.0, h.1, h.3)
key_fine x (suc (suc i) ∷ []) k e h = h.0
key_fine x (a ∷ b ∷ rest) k e h = (h.0, inl h.1)

start_fine : (x l k : List ℕ) → carries l ≡ true → Fine x l (0 ∷ [])
start_fine x [] k m = cc
start_fine x (zero ∷ []) k m = cc
start_fine x (suc zero ∷ []) k m = (0, refl, omega arith)
start_fine x (suc (suc i) ∷ []) k m = cc
start_fine x (zero ∷ b ∷ rest) k m = cc
start_fine x (suc zero ∷ b ∷ rest) k m = cc
start_fine x (suc (suc i) ∷ b ∷ rest) k m = cc

beside_fine : (x l k : List ℕ) (bs : Branches) → text_cmp extra_level l ≡ Less → carries l ≡ false → IsKey l k → Fine x l (beside l bs)
beside_fine x [] k bs e m h = h
beside_fine x (zero ∷ []) k bs e m h = cc
beside_fine x (suc zero ∷ []) k bs e m h = cc
beside_fine x (suc (suc i) ∷ []) k bs e m h = h.0
beside_fine x (a ∷ b ∷ rest) k bs e m h = (h.0, inr refl)

first_key : (bs : Branches) (l b : List ℕ) (d : Plain) → Fits (node l d bs) b → (k : List ℕ) × IsKey l k
first_key done l b d h = absurd h.1
first_key (branch k c rest) l b d h = (k, h.3.0)

mutual
  pub walks : (x : List ℕ) (t : Plain) (b : List ℕ) → Fits t b → Before b extra_level → Walks x b (first_path t)
  walks x (truth true) b h g = tt
  walks x (truth false) b h g = tt
  walks x (node l d bs) b h g = go (carries l) refl (walks x d l h.2 (λ k e. cmp_trans extra_level l k (g l h.0) e)) (walks_in x bs l d b h.0 h.3 (g l h.0)) (first_key bs l b d h)
    where
      go : (m : Bool) → carries l ≡ m → Walks x l (first_path d) → Walks x b (first_in l bs) → (k : List ℕ) × IsKey l k
          → Walks x b (cond m (or_else (longer_path l (0 ∷ []) (first_path d)) (first_in l bs)) (or_else (first_in l bs) (longer_path l (beside l bs) (first_path d))))
      go true m y z k = or_walks x b (longer_path l (0 ∷ []) (first_path d)) (first_in l bs) (step_walks x b l (0 ∷ []) (first_path d) h.0 (start_fine x l k.0 m) y) z
      go false m y z k =
          or_walks x b (first_in l bs) (longer_path l (beside l bs) (first_path d)) z (step_walks x b l (beside l bs) (first_path d) h.0 (beside_fine x l k.0 bs (g l h.0) m k.1) y)

  pub walks_in : (x : List ℕ) (bs : Branches) (l : List ℕ) (d : Plain) (b : List ℕ) → text_cmp b l ≡ Less → FitsAll bs l d → text_cmp extra_level l ≡ Less → Walks x b (first_in l bs)
  walks_in x done l d b e h g = tt
  walks_in x (branch k c rest) l d b e h g =
      or_walks x b (longer_path l k (first_path c)) (first_in l rest)
      (step_walks x b l k (first_path c) e (key_fine x l k g h.0) (walks x c l h.2 (λ j f. cmp_trans extra_level l j g f)))
      (walks_in x rest l (carried_part (carries l) c d) b e h.4 g)

-- ---- the sample

by_path : (t : Plain) (b : List ℕ) (p : Option (List Step)) → ((x : List ℕ) → Walks x b p) → ((f : List ℕ → List ℕ) → Leads f p (holds_of t f ≡ true)) → Stands p
    → IsWorld (with_path empty_world p) × ((x : List ℕ) → tree_holds t (with_path empty_world p) x ≡ true)
by_path t b None w l s = absurd s
by_path t b (Some steps) w l s = (
  walk_world [] b steps empty_world (w []) (sound_empty b),
  λ x. l (value_of (with_steps empty_world steps) x) (walk_agrees x b steps empty_world (w x) (sound_empty b)),
)

-- a tree of levels below the extra
pub sample_below : (t : Plain) → Fits t extra_level → t ≢ truth false → IsWorld (sample_of t) × ((x : List ℕ) → tree_holds t (sample_of t) x ≡ true)
sample_below t h n = by_path t extra_level (first_path t) (λ x. walks x t extra_level h (λ k e. e)) (λ f. leads t extra_level f h) (stands t extra_level h n)

pub no_extra_fits : (t : Plain) → IsReduced t → asks_extra t ≡ false → Fits t extra_level
no_extra_fits (truth b) h a = tt
no_extra_fits (node [] d bs) h a = let p : Equal ≡ Less = h.0 in cc
no_extra_fits (node (zero ∷ []) d bs) h a = cc
no_extra_fits (node (suc i ∷ []) d bs) h a = (ap (λ o. ordering_then o Equal) (cmp_less 0 (suc i) (omega arith)), h.1, h.2, h.3)
no_extra_fits (node (zero ∷ b ∷ rest) d bs) h a = (refl, h.1, h.2, h.3)
no_extra_fits (node (suc i ∷ b ∷ rest) d bs) h a = (ap (λ o. ordering_then o Less) (cmp_less 0 (suc i) (omega arith)), h.1, h.2, h.3)

pub sample_law : SampleHolds
sample_law = record {
  world = λ t h n a. (sample_below t (no_extra_fits t h a) n).0;
  holds = λ t h n a. (sample_below t (no_extra_fits t h a) n).1;
}
