-- Which extras a marker names: where it doesn't name one, its truth with that extra is the one with the empty extra.
use Rattle.std.proofs.Common.{◌≡◌, ◌∙◌, ◌&&◌, ◌||◌, ℕ, ◌+◌, ◌<◌, ◌≤◌, ◌∷◌, [], Bool, true, false, not, true≢false, List, Option, Some, None, get_or, length, drop, refl, sym, ap}
use Rattle.std.specs.Str.{bytes_eq}
use Rattle.std.proofs.lemmas.Bool.{or_parts}
use Rattle.std.proofs.lemmas.List.{drop_all, drop_more}
use Rattle.ul_base.specs.Names.{is_name}
use Rattle.ul_comparison.specs.Formulas.{Formula, extra, python, python_list, text, opaque, all, any, Formulas, none, more}
use Rattle.ul_comparison.specs.Truth.{all_hold, any_holds, as_asked, is_empty, marker_holds}
use Rattle.ul_comparison.specs.Worlds.{WorldFields}
use Rattle.ul_marker.specs.Views.{marker_view, markers_view}
use Rattle.ul_marker.specs.declared.marker.Marker.{Marker}
use Rattle.ul_requirement.specs.Fields.{RequirementFields}
use Rattle.ul_requirement.specs.Laws.{UnnamedNeverApplies}
use Rattle.ul_requirement.specs.Truth.{marker_names, may_apply_with, may_hold, names_extra, some_names_extra, true_with}

-- ---- truth

-- a literal with bytes isn't the empty extra
not_empty : (literal : List ℕ) → is_empty literal ≡ false → bytes_eq literal [] ≡ false
not_empty [] e = absurd (true≢false e)
not_empty (b ∷ bs) e = refl

mutual
  -- a formula that doesn't name an extra has the truth that it has with the empty one
  truth_without : (f : Formula) (w : WorldFields) (x : List ℕ) → names_extra x f ≡ false → marker_holds f w x ≡ marker_holds f w []
  truth_without (extra literal equal) w x e =
      let both = or_parts (is_empty literal) (bytes_eq literal x) e in
      ap (λ b. as_asked equal ((is_empty literal || is_name literal) && b)) (both.1 ∙ sym (not_empty literal both.0))
  truth_without (python full clause) w x e = refl
  truth_without (python_list full versions within) w x e = refl
  truth_without (text variable literal equal) w x e = refl
  truth_without (opaque atom positive) w x e = refl
  truth_without (all fs) w x e = all_without fs w x e
  truth_without (any fs) w x e = any_without fs w x e

  all_without : (fs : Formulas) (w : WorldFields) (x : List ℕ) → some_names_extra x fs ≡ false → all_hold fs w x ≡ all_hold fs w []
  all_without none w x e = refl
  all_without (more f fs) w x e =
      let both = or_parts (names_extra x f) (some_names_extra x fs) e in
      ap (λ b. b && all_hold fs w x) (truth_without f w x both.0) ∙ ap (λ b. marker_holds f w [] && b) (all_without fs w x both.1)

  any_without : (fs : Formulas) (w : WorldFields) (x : List ℕ) → some_names_extra x fs ≡ false → any_holds fs w x ≡ any_holds fs w []
  any_without none w x e = refl
  any_without (more f fs) w x e =
      let both = or_parts (names_extra x f) (some_names_extra x fs) e in
      ap (λ b. b || any_holds fs w x) (truth_without f w x both.0) ∙ ap (λ b. marker_holds f w [] || b) (any_without fs w x both.1)

-- nothing holds and fails
not_both : (b : Bool) → (b && not b) ≡ false
not_both true = refl
not_both false = refl

never : (m : Option Formula) (w : WorldFields) (x : List ℕ) → marker_names m x ≡ false → (may_hold m w x && not (may_hold m w [])) ≡ false
never None w x e = refl
never (Some f) w x e = ap (λ b. b && not (marker_holds f w [])) (truth_without f w x e) ∙ not_both (marker_holds f w [])

never_with : (q : RequirementFields) (o : Option (List ℕ)) (w : WorldFields) → may_apply_with q o ≡ false → true_with q o w ≡ false
never_with q None w e = absurd (true≢false e)
never_with q (Some x) w e = never q.marker w x e

pub unnamed_never_applies : UnnamedNeverApplies
unnamed_never_applies q n w e = never_with q n.extra w e

-- ---- loops over the parts of a marker, one part on and at the end

module _ (x : List ℕ) (parts : List Marker) (whole : Bool) where
  names_here : (i : ℕ) (m : Marker) (b : Bool) → b ≡ names_extra x (marker_view m) → i < length parts → m ≡ get_or parts i m →
      some_names_extra x (markers_view (drop i parts)) ≡ whole → (b || some_names_extra x (markers_view (drop (i + 1) parts))) ≡ whole
  names_here i m b is l at so_far =
      let rest : drop i parts ≡ m ∷ drop (i + 1) parts = drop_more parts i m l ∙ ap (λ y. y ∷ drop (i + 1) parts) (sym at) in
      ap (λ c. c || some_names_extra x (markers_view (drop (i + 1) parts))) is
      ∙ ap (λ ms. some_names_extra x (markers_view ms)) (sym rest) ∙ so_far

  -- a part that doesn't name the extra leaves the answer to the others
  pub names_next : (i : ℕ) (m : Marker) (b : Bool) → b ≡ names_extra x (marker_view m) → b ≡ false → i < length parts → m ≡ get_or parts i m →
      some_names_extra x (markers_view (drop i parts)) ≡ whole → some_names_extra x (markers_view (drop (i + 1) parts)) ≡ whole
  names_next i m b is e l at so_far = names_here i m false (sym e ∙ is) l at so_far

  -- a part that names the extra is one that does
  pub names_found : (i : ℕ) (m : Marker) (b : Bool) → b ≡ names_extra x (marker_view m) → b ≡ true → i < length parts → m ≡ get_or parts i m →
      some_names_extra x (markers_view (drop i parts)) ≡ whole → true ≡ whole
  names_found i m b is e l at so_far = names_here i m true (sym e ∙ is) l at so_far

  -- where no part is left, none names it
  pub names_end : (i : ℕ) → length parts ≤ i → some_names_extra x (markers_view (drop i parts)) ≡ whole → false ≡ whole
  names_end i l so_far = ap (λ ms. some_names_extra x (markers_view ms)) (sym (drop_all i parts l)) ∙ so_far
