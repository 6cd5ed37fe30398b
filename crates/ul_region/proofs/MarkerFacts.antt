-- Diagrams of markers, part by part.
use Rattle.std.proofs.Common.{◌≡◌, ℕ, suc, ◌+◌, ◌<◌, ◌&&◌, ◌||◌, List, [], ◌∷◌, ◌++◌, Global, String, Vec, length, get_or, Bool, true, false, refl, sym, ap, ap₂, subst, ◌∙◌, arith, rules, string_bytes}
use Rattle.ul_comparison.specs.Formulas.{Formula, extra, python, python_list, text, opaque, all, any, Formulas, none, more, AreFormulas, IsFormula}
use Rattle.ul_comparison.specs.Truth.{marker_holds}
use Rattle.ul_comparison.specs.Worlds.{WorldFields}
use Rattle.ul_marker.specs.Views.{marker_view, markers_view}
use Rattle.ul_marker.specs.declared.marker.Marker.{Marker, All, Any, Extra, the_lemmas}
use Rattle.ul_nodes.specs.Apply.{both, either}
use Rattle.ul_algebra.specs.Truths.{HoldsJoined}
use Rattle.ul_region.specs.Markers.{joining_of, parts_hold}
use Rattle.ul_region.specs.Truths.{DiagramMark, HoldsAs}

-- ---- how much there is of a formula: of each part there is less

abbrev mutual
  pub weight : Formula → ℕ
  weight (extra literal equal) = 0
  weight (python full clause) = 0
  weight (python_list full versions within) = 0
  weight (text variable literal equal) = 0
  weight (opaque atom positive) = 0
  weight (all fs) = suc (weights fs)
  weight (any fs) = suc (weights fs)

  pub weights : Formulas → ℕ
  weights none = 0
  weights (more f fs) = suc (weight f + weights fs)

pub view_extra : (literal : String Global) (equal : Bool) → marker_view (Extra literal equal) ≡ extra (string_bytes literal) equal
view_extra literal equal = search (rules, the_lemmas)

pub view_all : (parts : Vec Marker Global) → marker_view (All parts) ≡ all (markers_view parts.items)
view_all parts = search (rules, the_lemmas)

pub view_any : (parts : Vec Marker Global) → marker_view (Any parts) ≡ any (markers_view parts.items)
view_any parts = search (rules, the_lemmas)

weights_append : (ms ns : List Marker) → weights (markers_view (ms ++ ns)) ≡ weights (markers_view ms) + weights (markers_view ns)
weights_append [] ns = omega arith
weights_append (m ∷ ms) ns = let rest = weights_append ms ns in omega (arith, rest)

some_weight : (ms : List Marker) → 0 < length ms → 0 < weights (markers_view ms)
some_weight [] h = absurd (omega (arith, h))
some_weight (m ∷ ms) h = omega arith

pub front_less : (ms front back : List Marker) → ms ≡ front ++ back → 0 < length back → weights (markers_view front) < weights (markers_view ms)
front_less ms front back e h =
    let whole = ap (λ (zs : List Marker). weights (markers_view zs)) e ∙ weights_append front back in
    let own = some_weight back h in
    omega (arith, whole, own)

pub back_less : (ms front back : List Marker) → ms ≡ front ++ back → 0 < length front → weights (markers_view back) < weights (markers_view ms)
back_less ms front back e h =
    let whole = ap (λ (zs : List Marker). weights (markers_view zs)) e ∙ weights_append front back in
    let own = some_weight front h in
    omega (arith, whole, own)

pub one_less : (ms : List Marker) (m : Marker) → length ms ≡ 1 → m ≡ get_or ms 0 m → weight (marker_view m) < weights (markers_view ms)
one_less [] m h e = absurd (omega (arith, h))
one_less (n ∷ ms) m h e = subst (λ (z : Marker). weight (marker_view z) < weights (markers_view (n ∷ ms))) (sym e) (omega arith)

-- ---- formulas of parts

front_formulas : (ms ns : List Marker) → AreFormulas (markers_view (ms ++ ns)) → AreFormulas (markers_view ms)
front_formulas [] ns a = tt
front_formulas (m ∷ ms) ns a = (a.0, front_formulas ms ns a.1)

back_formulas : (ms ns : List Marker) → AreFormulas (markers_view (ms ++ ns)) → AreFormulas (markers_view ns)
back_formulas [] ns a = a
back_formulas (m ∷ ms) ns a = back_formulas ms ns a.1

pub formulas_before : (ms front back : List Marker) → ms ≡ front ++ back → AreFormulas (markers_view ms) → AreFormulas (markers_view front)
formulas_before ms front back e a = front_formulas front back (subst (λ (zs : List Marker). AreFormulas (markers_view zs)) e a)

pub formulas_behind : (ms front back : List Marker) → ms ≡ front ++ back → AreFormulas (markers_view ms) → AreFormulas (markers_view back)
formulas_behind ms front back e a = back_formulas front back (subst (λ (zs : List Marker). AreFormulas (markers_view zs)) e a)

pub formula_one : (ms : List Marker) (m : Marker) → length ms ≡ 1 → m ≡ get_or ms 0 m → AreFormulas (markers_view ms) → IsFormula (marker_view m)
formula_one [] m h e a = absurd (omega (arith, h))
formula_one (n ∷ ms) m h e a = subst (λ (z : Marker). IsFormula (marker_view z)) (sym e) a.0

-- ---- truths of parts

pub none_hold : (every : Bool) (d : DiagramMark) (ms : List Marker) → length ms ≡ 0 → HoldsAs d (λ w x. every) → HoldsAs d (parts_hold every (markers_view ms))
none_hold true d [] h k = k
none_hold false d [] h k = k
none_hold every d (m ∷ ms) h k = absurd (omega (arith, h))

and_one : (b : Bool) → b ≡ (b && true)
and_one true = refl
and_one false = refl

or_one : (b : Bool) → b ≡ (b || false)
or_one true = refl
or_one false = refl

pub one_holds : (every : Bool) (d : DiagramMark) (ms : List Marker) (m : Marker) → length ms ≡ 1 → m ≡ get_or ms 0 m → HoldsAs d (marker_holds (marker_view m)) → HoldsAs d (parts_hold every (markers_view ms))
one_holds every d [] m h e k = absurd (omega (arith, h))
one_holds true d (n ∷ []) m h e k = λ w x is. k w x is ∙ (ap (λ (z : Marker). marker_holds (marker_view z) w x) e ∙ and_one (marker_holds (marker_view n) w x))
one_holds false d (n ∷ []) m h e k = λ w x is. k w x is ∙ (ap (λ (z : Marker). marker_holds (marker_view z) w x) e ∙ or_one (marker_holds (marker_view n) w x))
one_holds every d (n ∷ o ∷ ms) m h e k = absurd (omega (arith, h))

both_more : (a b c : Bool) → both (a && b) c ≡ (a && both b c)
both_more true b c = refl
both_more false b c = refl

either_more : (a b c : Bool) → either (a || b) c ≡ (a || either b c)
either_more true b c = refl
either_more false b c = refl

parts_both : (every : Bool) (ms ns : List Marker) (w : WorldFields) (x : List ℕ) → joining_of every (parts_hold every (markers_view ms) w x) (parts_hold every (markers_view ns) w x) ≡ parts_hold every (markers_view (ms ++ ns)) w x
parts_both true [] ns w x = refl
parts_both true (m ∷ ms) ns w x = both_more (marker_holds (marker_view m) w x) (parts_hold true (markers_view ms) w x) (parts_hold true (markers_view ns) w x)
    ∙ ap (λ (b : Bool). marker_holds (marker_view m) w x && b) (parts_both true ms ns w x)
parts_both false [] ns w x = refl
parts_both false (m ∷ ms) ns w x = either_more (marker_holds (marker_view m) w x) (parts_hold false (markers_view ms) w x) (parts_hold false (markers_view ns) w x)
    ∙ ap (λ (b : Bool). marker_holds (marker_view m) w x || b) (parts_both false ms ns w x)

pub halves_hold : (every : Bool) (d a b : DiagramMark) (ms front back : List Marker) → ms ≡ front ++ back → HoldsAs a (parts_hold every (markers_view front)) → HoldsAs b (parts_hold every (markers_view back))
    → HoldsJoined (joining_of every) a b d → HoldsAs d (parts_hold every (markers_view ms))
halves_hold every d a b ms front back e s t j w x is = j w x ∙ (ap₂ (joining_of every) (s w x is) (t w x is)
    ∙ (parts_both every front back w x ∙ ap (λ (zs : List Marker). parts_hold every (markers_view zs) w x) (sym e)))

-- ---- a marker by its parts

pub all_parts_hold : (d : DiagramMark) (m : Marker) (parts : Vec Marker Global) (ms : List Marker) → m ≡ All parts → ms ≡ parts.items → HoldsAs d (parts_hold true (markers_view ms)) → HoldsAs d (marker_holds (marker_view m))
all_parts_hold d m parts ms e s h w x is = h w x is ∙ (ap (λ (zs : List Marker). parts_hold true (markers_view zs) w x) s ∙ sym (ap (λ (f : Formula). marker_holds f w x) (ap marker_view e ∙ view_all parts)))

pub some_part_holds : (d : DiagramMark) (m : Marker) (parts : Vec Marker Global) (ms : List Marker) → m ≡ Any parts → ms ≡ parts.items → HoldsAs d (parts_hold false (markers_view ms)) → HoldsAs d (marker_holds (marker_view m))
some_part_holds d m parts ms e s h w x is = h w x is ∙ (ap (λ (zs : List Marker). parts_hold false (markers_view zs) w x) s ∙ sym (ap (λ (f : Formula). marker_holds f w x) (ap marker_view e ∙ view_any parts)))

pub all_formulas : (m : Marker) (parts : Vec Marker Global) (ms : List Marker) → m ≡ All parts → ms ≡ parts.items → IsFormula (marker_view m) → AreFormulas (markers_view ms)
all_formulas m parts ms e s h = subst (λ (zs : List Marker). AreFormulas (markers_view zs)) (sym s) (subst IsFormula (ap marker_view e ∙ view_all parts) h)

pub any_formulas : (m : Marker) (parts : Vec Marker Global) (ms : List Marker) → m ≡ Any parts → ms ≡ parts.items → IsFormula (marker_view m) → AreFormulas (markers_view ms)
any_formulas m parts ms e s h = subst (λ (zs : List Marker). AreFormulas (markers_view zs)) (sym s) (subst IsFormula (ap marker_view e ∙ view_any parts) h)

pub all_less : (m : Marker) (parts : Vec Marker Global) (ms : List Marker) → m ≡ All parts → ms ≡ parts.items → weights (markers_view ms) < weight (marker_view m)
all_less m parts ms e s =
    let whole = ap weight (ap marker_view e ∙ view_all parts) in
    let same = ap (λ (zs : List Marker). weights (markers_view zs)) s in
    omega (arith, whole, same)

pub any_less : (m : Marker) (parts : Vec Marker Global) (ms : List Marker) → m ≡ Any parts → ms ≡ parts.items → weights (markers_view ms) < weight (marker_view m)
any_less m parts ms e s =
    let whole = ap weight (ap marker_view e ∙ view_any parts) in
    let same = ap (λ (zs : List Marker). weights (markers_view zs)) s in
    omega (arith, whole, same)
