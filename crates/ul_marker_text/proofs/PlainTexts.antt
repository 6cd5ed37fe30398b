-- The text of a tree has the bytes of literals alone.
use Rattle.std.proofs.Common.{◌≡◌, ◌≢◌, ℕ, ◌<◌, List, [], ◌∷◌, ◌++◌, map, Bool, true, false, not, ◌&&◌, ◌||◌, eqb, refl, ap, sym, ◌∙◌, subst, arith, append-nil, lit<, ◌^◌, if◌then◌else◌}
use Rattle.std.specs.Prelude.{codes}
use Rattle.std.specs.List.{list_all}
use Rattle.std.specs.Fmt.{decimal}
use Rattle.std.proofs.lemmas.Bool.{eqb-true, and_parts}
use Rattle.std.proofs.lemmas.List.Folds.{list_all-append}
use Rattle.std.proofs.lemmas.Bool.Decides.{nat_tests}
use Rattle.std.proofs.lemmas.List.Elements.{All-cons, All-nil}
use Rattle.ul_version.specs.Fields.{IsNumber64, IsSegment, IsVersion, plain}
use Rattle.ul_version.specs.Texts.{is_text_byte, version_text}
use Rattle.ul_version.proofs.ForCallers.{plain as plain_text}
use Rattle.ul_specifier.proofs.ForCallers.{all-weaker}
use Rattle.ul_comparison.specs.Atoms.{has_byte, is_literal, is_literal_byte}
use Rattle.ul_comparison.specs.Printed as Printed
use Rattle.ul_comparison.specs.Printed.{IsComparison, comparison_text, atom_text, quoted_text, quote_of, interpreter_text, sides, kind_sign, equality_sign, in_sign, bound_sign, variable_name}
use Rattle.ul_marker.specs.PrintedPaths.{path_text, paths_text}
use Rattle.ul_comparison.specs.declared.variable.AtomKind.{AtomKind}
use Rattle.ul_comparison.specs.declared.variable.AtomKind.TheVariants.{Contains, Within, Below, AtMost, Same}
use Rattle.ul_comparison.specs.declared.variable.Variable.{Variable}
use Rattle.ul_comparison.specs.declared.variable.Variable.TheVariants.{OsName, SysPlatform, PlatformMachine, PlatformPythonImplementation, PlatformRelease, PlatformSystem, PlatformVersion, PythonVersion, PythonFullVersion, ImplementationName, ImplementationVersion, Extras}
use Rattle.ul_tree.specs.Comparisons.{Comparison, path_comparisons}
use Rattle.ul_tree.specs.PathList.{Step, paths_to_true}
use Rattle.ul_nodes.specs.Plain.{Plain, truth, node}
use Rattle.ul_nodes.specs.Reduced.{IsReduced}
use Rattle.ul_tree.proofs.ForCallers.{Each}
use Rattle.ul_marker_text.specs.MarkerOfText.{IsMarker}
use Rattle.ul_marker_text.specs.MarkerText.{marker_text, has, printed_form, printed_path}
use Rattle.ul_marker_text.proofs.MarkerTrees.{marker_reduced, truth_is_none}
use Rattle.ul_marker_text.proofs.Placed.{GoodComparison, printed_is}
use Rattle.ul_marker_text.proofs.StepsBack.{GoodRow}
use Rattle.ul_marker_text.proofs.TreeTexts.{node_paths}

-- each byte can stand in a literal
abbrev Clean : List ℕ → Type 0
Clean t = list_all is_literal_byte t ≡ true

joined : (a b : List ℕ) → Clean a → Clean b → Clean (a ++ b)
joined a b x y = list_all-append is_literal_byte a b ∙ ap (λ z. z && list_all is_literal_byte b) x ∙ y

quote_clean : (t : List ℕ) → is_literal_byte (quote_of t) ≡ true
quote_clean t = go (has_byte 39 t)
  where
    go : (b : Bool) → is_literal_byte (if b then 34 else 39) ≡ true
    go true = refl
    go false = refl

quote_one : (t : List ℕ) → Clean (quote_of t ∷ [])
quote_one t = ap (λ b. b && true) (quote_clean t)

quoted_clean : (t : List ℕ) → Clean t → Clean (quoted_text t)
quoted_clean t h = joined (quote_of t ∷ []) (t ++ quote_of t ∷ []) (quote_one t) (joined t (quote_of t ∷ []) h (quote_one t))

literal_clean : (t : List ℕ) → is_literal t ≡ true → Clean t
literal_clean t h = (and_parts (list_all is_literal_byte t) (not (has_byte 39 t && has_byte 34 t)) h).0

name_clean : (v : Variable) → Clean (variable_name v)
name_clean OsName = refl
name_clean SysPlatform = refl
name_clean PlatformMachine = refl
name_clean PlatformPythonImplementation = refl
name_clean PlatformRelease = refl
name_clean PlatformSystem = refl
name_clean PlatformVersion = refl
name_clean PythonVersion = refl
name_clean PythonFullVersion = refl
name_clean ImplementationName = refl
name_clean ImplementationVersion = refl
name_clean Extras = refl

equality_clean : (b : Bool) → Clean (equality_sign b)
equality_clean true = refl
equality_clean false = refl

in_clean : (b : Bool) → Clean (in_sign b)
in_clean true = refl
in_clean false = refl

bound_clean : (b : Bool) → Clean (bound_sign b)
bound_clean true = refl
bound_clean false = refl

kind_clean : (k : AtomKind) (b : Bool) → Clean (kind_sign k b)
kind_clean Contains b = in_clean b
kind_clean Within b = in_clean b
kind_clean Below true = refl
kind_clean Below false = refl
kind_clean AtMost true = refl
kind_clean AtMost false = refl
kind_clean Same b = equality_clean b

sides_clean : (k : AtomKind) (v : Variable) (sign t : List ℕ) → Clean sign → Clean t → Clean (sides k (variable_name v) sign (quoted_text t))
sides_clean Contains v sign t x y = joined (quoted_text t) (sign ++ variable_name v) (quoted_clean t y) (joined sign (variable_name v) x (name_clean v))
sides_clean Within v sign t x y = joined (variable_name v) (sign ++ quoted_text t) (name_clean v) (joined sign (quoted_text t) x (quoted_clean t y))
sides_clean Below v sign t x y = joined (variable_name v) (sign ++ quoted_text t) (name_clean v) (joined sign (quoted_text t) x (quoted_clean t y))
sides_clean AtMost v sign t x y = joined (variable_name v) (sign ++ quoted_text t) (name_clean v) (joined sign (quoted_text t) x (quoted_clean t y))
sides_clean Same v sign t x y = joined (variable_name v) (sign ++ quoted_text t) (name_clean v) (joined sign (quoted_text t) x (quoted_clean t y))

-- an interpreter's text is a version's
interpreter_version : (major minor patch : ℕ) → interpreter_text major minor patch ≡ version_text (plain (major ∷ minor ∷ patch ∷ []))
unfolding interpreter_text version_text
interpreter_version major minor patch =
    ap (λ t. decimal major ++ (46 ∷ (decimal minor ++ (46 ∷ t)))) (sym (append-nil (decimal patch)))
    ∙ sym (append-nil (decimal major ++ (46 ∷ (decimal minor ++ (46 ∷ (decimal patch ++ []))))))

interpreter_is : (major minor patch : ℕ) → major < 2 ^ 32 → minor < 2 ^ 32 → patch < 2 ^ 32 → IsVersion (plain (major ∷ minor ∷ patch ∷ []))
interpreter_is major minor patch a b c = record {
  nonempty = omega arith;
  epoch_fits = lit< tt;
  release_fits =
      All-cons IsNumber64 major (minor ∷ patch ∷ []) (omega arith)
      (All-cons IsNumber64 minor (patch ∷ []) (omega arith) (All-cons IsNumber64 patch [] (omega arith) (All-nil IsNumber64)));
  pre_fits = tt;
  post_fits = tt;
  dev_fits = tt;
  segments = All-nil IsSegment;
}

text_literal : (b : ℕ) → is_text_byte b ≡ true → is_literal_byte b ≡ true
text_literal b h = grind (arith, nat_tests)

interpreter_clean : (a b c : ℕ) → a < 2 ^ 32 → b < 2 ^ 32 → c < 2 ^ 32 → Clean (interpreter_text a b c)
interpreter_clean a b c x y z =
    ap (list_all is_literal_byte) (interpreter_version a b c)
    ∙ all-weaker is_text_byte is_literal_byte (version_text (plain (a ∷ b ∷ c ∷ []))) text_literal (plain_text (plain (a ∷ b ∷ c ∷ [])) (interpreter_is a b c x y z)).0

comparison_clean : (c : Printed.Comparison) → IsComparison c → Clean (comparison_text c)
unfolding comparison_text atom_text
comparison_clean (Printed.bound lower a b c) h =
    joined (variable_name PythonFullVersion) (bound_sign lower ++ quoted_text (interpreter_text a b c)) refl (joined (bound_sign lower) (quoted_text (interpreter_text a b c)) (bound_clean lower) (quoted_clean (interpreter_text a b c) (interpreter_clean a b c h.0 h.1 h.2)))
comparison_clean (Printed.extra_is t equal) h = joined (codes "extra") (equality_sign equal ++ quoted_text t) refl (joined (equality_sign equal) (quoted_text t) (equality_clean equal) (quoted_clean t (literal_clean t h.0)))
comparison_clean (Printed.text_is v t equal) h = joined (variable_name v) (equality_sign equal ++ quoted_text t) (name_clean v) (joined (equality_sign equal) (quoted_text t) (equality_clean equal) (quoted_clean t (literal_clean t h.1)))
comparison_clean (Printed.atom_is a holds) h = sides_clean a.kind a.variable (kind_sign a.kind holds) a.literal (kind_clean a.kind holds) (literal_clean a.literal h.literal)

path_clean : (cs : List Comparison) → Each GoodComparison cs → Clean (path_text (map printed_form cs))
path_clean [] h = refl
path_clean (c ∷ []) h = comparison_clean (printed_form c) (printed_is c h.0)
path_clean (c ∷ d ∷ cs) h =
    joined (comparison_text (printed_form c)) (codes " and " ++ path_text (map printed_form (d ∷ cs))) (comparison_clean (printed_form c) (printed_is c h.0)) (joined (codes " and ") (path_text (map printed_form (d ∷ cs))) refl (path_clean (d ∷ cs) h.1))

paths_clean : (ps : List (List Step)) → Each (λ p. GoodRow (path_comparisons p)) ps → Clean (paths_text (map printed_path ps))
paths_clean [] h = refl
paths_clean (p ∷ []) h = path_clean (path_comparisons p) ((h.0).1)
paths_clean (p ∷ q ∷ ps) h =
    joined (path_text (printed_path p)) (codes " or " ++ paths_text (map printed_path (q ∷ ps))) (path_clean (path_comparisons p) ((h.0).1)) (joined (codes " or ") (paths_text (map printed_path (q ∷ ps))) refl (paths_clean (q ∷ ps) h.1))

-- the text of a reduced tree has no other bytes
pub marker_plain : (t : Plain) → IsReduced t → t ≢ truth false → list_all is_literal_byte (marker_text t) ≡ true
unfolding marker_text
marker_plain (truth true) h n = refl
marker_plain (truth false) h n = absurd (n refl)
marker_plain (node l d bs) h n = paths_clean (paths_to_true (node l d bs)) (node_paths l d bs h).rows

no_byte : (c : ℕ) (t : List ℕ) → is_literal_byte c ≡ false → Clean t → has c t ≡ false
no_byte c [] e h = refl
no_byte c (b ∷ t) e h = go (eqb b c) refl (no_byte c t e p.1)
  where
    p : (is_literal_byte b ≡ true) × (list_all is_literal_byte t ≡ true)
    p = and_parts (is_literal_byte b) (list_all is_literal_byte t) h

    go : (x : Bool) → eqb b c ≡ x → has c t ≡ false → (x || has c t) ≡ false
    go true q r = let z : true ≡ false = sym p.0 ∙ ap is_literal_byte (eqb-true b c q) ∙ e in cc
    go false q r = r

marker_clean : (t : Plain) → IsMarker t → Clean (marker_text t)
marker_clean t h = marker_plain t (marker_reduced t h) (λ e. truth_is_none false (subst (λ (z : Plain). IsMarker z) e h))

pub marker_10 : (t : Plain) → IsMarker t → has 10 (marker_text t) ≡ false
marker_10 t h = no_byte 10 (marker_text t) refl (marker_clean t h)

pub marker_92 : (t : Plain) → IsMarker t → has 92 (marker_text t) ≡ false
marker_92 t h = no_byte 92 (marker_text t) refl (marker_clean t h)
