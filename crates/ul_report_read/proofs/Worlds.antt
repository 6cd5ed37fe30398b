-- The sample of a region has no LF in its text.
use Rattle.std.proofs.Common.{◌≡◌, ℕ, zero, suc, ◌<◌, ◌^◌, List, [], ◌∷◌, ◌++◌, Bool, true, false, cond, refl, arith, Option, Some, None, get_or, set}
use Rattle.std.specs.Prelude.{All, codes, flat_map}
use Rattle.std.specs.Cmp.{first_so}
use Rattle.std.specs.Fmt.{decimal}
use Rattle.std.proofs.lemmas.List.Elements.{All-head, All-tail}
use Rattle.ul_lines.specs.Pieces.{has}
use Rattle.ul_lines.specs.Reader.{Each}
use Rattle.ul_lines.proofs.ForCallers.{has_none}
use Rattle.ul_lock.specs.Region.{IsRegion}
use Rattle.ul_comparison.specs.Atoms.{AtomFields, IsAtom, is_literal, is_literal_byte, text_number}
use Rattle.ul_comparison.specs.Printed.{atom_text, comparison_text, kind_sign, quote_of, quoted_text, sides, variable_name}
use Rattle.ul_comparison.specs.Worlds.{IsWorld, WorldFields, text_at}
use Rattle.ul_comparison.specs.declared.variable.AtomKind.{AtomKind}
use Rattle.ul_comparison.specs.declared.variable.AtomKind.TheVariants.{Contains, Within, Below, AtMost, Same}
use Rattle.ul_comparison.specs.declared.variable.Variable.{Variable}
use Rattle.ul_comparison.specs.declared.variable.Variable.TheVariants.{OsName, SysPlatform, PlatformMachine, PlatformPythonImplementation, PlatformRelease, PlatformSystem, PlatformVersion, PythonVersion, PythonFullVersion, ImplementationName, ImplementationVersion, Extras}
use Rattle.ul_report.specs.Texts.{python_part, text_part, text_variables, truth_part, world_text}
use Rattle.ul_report_read.proofs.Cutting.{has_join}
use Rattle.ul_report_read.proofs.TokenLaws.{number_has}
use Rattle.ul_nodes.specs.Levels.{IsKey}
use Rattle.ul_nodes.specs.Plain.{Plain, truth, node, Branches, done, branch, carried_part, carries}
use Rattle.ul_nodes.specs.Reduced.{Fits, FitsAll}
use Rattle.ul_tree.specs.Sample.{SampleHolds, Step, beside, empty_world, first_in, first_path, fresh_from, has_key, key_lengths, longer_path, or_else, sample_of, with_level, with_path, with_steps}

-- ---- texts without LF

abbrev Clean : List ℕ → Type 0
Clean t = has 10 t ≡ false

literal_clean : (t : List ℕ) → is_literal t ≡ true → Clean t
literal_clean t h = has_none is_literal_byte 10 t refl (first_so _ _ h)

-- the value of a level, where it is a text
abbrev IsCleanAt : List ℕ → List ℕ → Type 0
IsCleanAt [] v = Unit {0}
IsCleanAt (zero ∷ []) v = Unit {0}
IsCleanAt (suc zero ∷ []) v = Unit {0}
IsCleanAt (suc (suc i) ∷ []) v = Clean v
IsCleanAt (a ∷ b ∷ r) v = Unit {0}

key_clean : (l k : List ℕ) → IsKey l k → IsCleanAt l k
key_clean [] k h = tt
key_clean (zero ∷ []) k h = tt
key_clean (suc zero ∷ []) k h = tt
key_clean (suc (suc i) ∷ []) k h = literal_clean k h.1
key_clean (a ∷ b ∷ r) k h = tt

start_clean : (l : List ℕ) → IsCleanAt l (0 ∷ [])
start_clean [] = tt
start_clean (zero ∷ []) = tt
start_clean (suc zero ∷ []) = tt
start_clean (suc (suc i) ∷ []) = refl
start_clean (a ∷ b ∷ r) = tt

fresh_clean : (n : ℕ) (bs : Branches) (t : List ℕ) → Clean t → Clean (fresh_from n bs t)
fresh_clean zero bs t h = h
fresh_clean (suc n) bs t h = by_key (has_key bs t) (fresh_clean n bs (t ++ 120 ∷ []) (has_join 10 t (120 ∷ []) h refl))
  where
    by_key : (b : Bool) → Clean (fresh_from n bs (t ++ 120 ∷ [])) → Clean (cond b (fresh_from n bs (t ++ 120 ∷ [])) t)
    by_key true k = k
    by_key false k = h

beside_clean : (l : List ℕ) (bs : Branches) → IsCleanAt l (beside l bs)
beside_clean [] bs = tt
beside_clean (zero ∷ []) bs = tt
beside_clean (suc zero ∷ []) bs = tt
beside_clean (suc (suc i) ∷ []) bs = fresh_clean (suc (key_lengths bs)) bs [] refl
beside_clean (a ∷ b ∷ r) bs = tt

-- ---- paths

abbrev IsCleanStep : Step → Type 0
IsCleanStep s = IsCleanAt s.level s.value

abbrev IsCleanPath : Option (List Step) → Type 0
IsCleanPath None = Unit {0}
IsCleanPath (Some steps) = Each IsCleanStep steps

else_clean : (p q : Option (List Step)) → IsCleanPath p → IsCleanPath q → IsCleanPath (or_else p q)
else_clean None q h k = k
else_clean (Some p) q h k = h

longer_clean : (l v : List ℕ) (p : Option (List Step)) → IsCleanAt l v → IsCleanPath p → IsCleanPath (longer_path l v p)
longer_clean l v None h k = tt
longer_clean l v (Some p) h k = (h, k)

mutual
  path_clean : (t : Plain) (b : List ℕ) → Fits t b → IsCleanPath (first_path t)
  path_clean (truth true) b h = tt
  path_clean (truth false) b h = tt
  path_clean (node l d bs) b h = go (carries l) (path_clean d l h.2) (in_clean bs l d h.3)
    where
      go : (m : Bool) → IsCleanPath (first_path d) → IsCleanPath (first_in l bs)
          → IsCleanPath (cond m (or_else (longer_path l (0 ∷ []) (first_path d)) (first_in l bs)) (or_else (first_in l bs) (longer_path l (beside l bs) (first_path d))))
      go true x y = else_clean (longer_path l (0 ∷ []) (first_path d)) (first_in l bs) (longer_clean l (0 ∷ []) (first_path d) (start_clean l) x) y
      go false x y = else_clean (first_in l bs) (longer_path l (beside l bs) (first_path d)) y (longer_clean l (beside l bs) (first_path d) (beside_clean l bs) x)

  in_clean : (bs : Branches) (l : List ℕ) (d : Plain) → FitsAll bs l d → IsCleanPath (first_in l bs)
  in_clean done l d h = tt
  in_clean (branch k c rest) l d h =
      else_clean (longer_path l k (first_path c)) (first_in l rest) (longer_clean l k (first_path c) (key_clean l k h.0) (path_clean c l h.2)) (in_clean rest l (carried_part (carries l) c d) h.4)

-- ---- the texts of the sample

set_clean : (ts : List (List ℕ)) (i : ℕ) (v : List ℕ) → Each Clean ts → Clean v → Each Clean (set ts i v)
set_clean [] i v h k = tt
set_clean (t ∷ ts) zero v h k = (k, h.1)
set_clean (t ∷ ts) (suc i) v h k = (h.0, set_clean ts i v h.1 k)

level_clean : (l v : List ℕ) (w : WorldFields) → IsCleanAt l v → Each Clean w.texts → Each Clean (with_level l v w).texts
level_clean [] v w h k = k
level_clean (zero ∷ []) v w h k = k
level_clean (suc zero ∷ []) v w h k = k
level_clean (suc (suc i) ∷ []) v w h k = set_clean w.texts i v k h
level_clean (a ∷ b ∷ r) v w h k = k

steps_clean : (steps : List Step) (w : WorldFields) → Each IsCleanStep steps → Each Clean w.texts → Each Clean (with_steps w steps).texts
steps_clean [] w h k = k
steps_clean (s ∷ ss) w h k = steps_clean ss (with_level s.level s.value w) h.1 (level_clean s.level s.value w h.0 k)

found_clean : (p : Option (List Step)) (w : WorldFields) → IsCleanPath p → Each Clean w.texts → Each Clean (with_path w p).texts
found_clean None w h k = k
found_clean (Some steps) w h k = steps_clean steps w h k

sample_clean : (r : Plain) → IsRegion r → Each Clean (sample_of r).texts
sample_clean r h = found_clean (first_path r) empty_world (path_clean r [] h.reduced) (refl, (refl, (refl, (refl, (refl, (refl, (refl, (refl, tt))))))))

at_clean : (ts : List (List ℕ)) (i : ℕ) → Each Clean ts → Clean (get_or ts i [])
at_clean [] i h = refl
at_clean (t ∷ ts) zero h = h.0
at_clean (t ∷ ts) (suc i) h = at_clean ts i h.1

-- ---- the text of a world

quote_clean : (t : List ℕ) → Clean (quote_of t ∷ [])
quote_clean t = by_quote (has 39 t)
  where
    by_quote : (b : Bool) → Clean (cond b 34 39 ∷ [])
    by_quote true = refl
    by_quote false = refl

quoted_clean : (t : List ℕ) → Clean t → Clean (quoted_text t)
quoted_clean t h = has_join 10 (quote_of t ∷ []) (t ++ quote_of t ∷ []) (quote_clean t) (has_join 10 t (quote_of t ∷ []) h (quote_clean t))

name_clean : (v : Variable) → Clean (variable_name v)
name_clean OsName = refl
name_clean SysPlatform = refl
name_clean PlatformMachine = refl
name_clean PlatformPythonImplementation = refl
name_clean PlatformRelease = refl
name_clean PlatformSystem = refl
name_clean PlatformVersion = refl
name_clean PythonVersion = refl
name_clean PythonFullVersion = refl
name_clean ImplementationName = refl
name_clean ImplementationVersion = refl
name_clean Extras = refl

sign_clean : (k : AtomKind) → Clean (kind_sign k true)
sign_clean Contains = refl
sign_clean Within = refl
sign_clean Below = refl
sign_clean AtMost = refl
sign_clean Same = refl

sides_clean : (k : AtomKind) (a s b : List ℕ) → Clean a → Clean s → Clean b → Clean (sides k a s b)
sides_clean Contains a s b x y z = has_join 10 b (s ++ a) z (has_join 10 s a y x)
sides_clean Within a s b x y z = has_join 10 a (s ++ b) x (has_join 10 s b y z)
sides_clean Below a s b x y z = has_join 10 a (s ++ b) x (has_join 10 s b y z)
sides_clean AtMost a s b x y z = has_join 10 a (s ++ b) x (has_join 10 s b y z)
sides_clean Same a s b x y z = has_join 10 a (s ++ b) x (has_join 10 s b y z)

text_clean : (w : WorldFields) (v : Variable) → Each Clean w.texts → Clean (text_part w v)
unfolding text_part comparison_text
text_clean w v h =
    has_join 10 (variable_name v) (codes " == " ++ quoted_text (text_at w v)) (name_clean v) (quoted_clean (text_at w v) (at_clean w.texts (text_number v) h))

truth_clean : (a : AtomFields) → IsAtom a → Clean (truth_part a)
unfolding truth_part comparison_text atom_text
truth_clean a h = sides_clean a.kind (variable_name a.variable) (kind_sign a.kind true) (quoted_text a.literal) (name_clean a.variable) (sign_clean a.kind) (quoted_clean a.literal (literal_clean a.literal h.literal))

texts_clean : (w : WorldFields) (vs : List Variable) → Each Clean w.texts → Clean (flat_map (text_part w) vs)
texts_clean w [] h = refl
texts_clean w (v ∷ vs) h = has_join 10 (text_part w v) (flat_map (text_part w) vs) (text_clean w v h) (texts_clean w vs h)

truths_clean : (atoms : List AtomFields) → All IsAtom atoms → Clean (flat_map truth_part atoms)
truths_clean [] h = refl
truths_clean (a ∷ atoms) h = has_join 10 (truth_part a) (flat_map truth_part atoms) (truth_clean a (All-head IsAtom a atoms h)) (truths_clean atoms (All-tail IsAtom a atoms h))

small : (n : ℕ) → n < 2 ^ 32 → n < 2 ^ 64
small n h = omega arith

python_clean : (w : WorldFields) → IsWorld w → Clean (python_part w)
unfolding python_part
python_clean w h =
    has_join 10 (decimal w.major) (46 ∷ (decimal w.minor ++ (46 ∷ (decimal w.patch ++ 39 ∷ [])))) (number_has 10 w.major refl (small w.major h.major))
    (has_join 10 (decimal w.minor) (46 ∷ (decimal w.patch ++ 39 ∷ [])) (number_has 10 w.minor refl (small w.minor h.minor))
    (has_join 10 (decimal w.patch) (39 ∷ []) (number_has 10 w.patch refl (small w.patch h.patch)) refl))

world_clean : (w : WorldFields) → IsWorld w → Each Clean w.texts → Clean (world_text w)
unfolding world_text
world_clean w h k =
    has_join 10 (python_part w) (flat_map (text_part w) text_variables ++ flat_map truth_part w.truths) (python_clean w h)
    (has_join 10 (flat_map (text_part w) text_variables) (flat_map truth_part w.truths) (texts_clean w text_variables k) (truths_clean w.truths h.atoms))

-- the text of the sample of a region has no LF
pub sample_10 : SampleHolds → (r : Plain) → IsRegion r → has 10 (world_text (sample_of r)) ≡ false
sample_10 law r h = world_clean (sample_of r) (law.world r h.reduced h.not_false h.no_extra) (sample_clean r h)
