-- What is true of each marker that a document's text spells is true of the marker of each requirement that is read.
use Rattle.std.proofs.Common.{◌≡◌, ◌&&◌, ℕ, List, [], ◌∷◌, ◌==◌, inl, inr, Bool, true, false, cond, drop, Option, Some, None, subst}
use Rattle.std.specs.Prelude.{IfSome}
use Rattle.std.specs.List.{list_all}
use Rattle.ul_version.specs.Ascii.{after_all, begins, is_blank, semicolon, text_between}
use Rattle.ul_version.proofs.ForCallers.{bind_some, inside}
use Rattle.ul_comparison.specs.Formulas.{Formula}
use Rattle.ul_marker.specs.Reading.{marker_of}
use Rattle.ul_requirement.specs.Fields.{RequirementFields}
use Rattle.ul_requirement.specs.Reading.{is_inner_byte, is_url_byte, marker_behind, marker_in, parts_of, parts_read, specifiers_in, tail_of, url_marker}
use Rattle.laws_given.proofs.ReadRequirements.{AreRead, IsTailOf, Tail, read_from, requirement_with}

-- each marker that a document's text spells is such
abbrev pub AreMarkers : (Formula → Type 0) → Type 0
AreMarkers M = (text : List ℕ) (f : Formula) → marker_of text ≡ Some f → M f

-- the requirement's marker is such, where it has one
abbrev pub HasMarker : (Formula → Type 0) → RequirementFields → Type 0
HasMarker M q = IfSome q.marker M

module _ (M : Formula → Type 0) (law : AreMarkers M) where
  marker_has : (o : Option (List ℕ)) (m : Option Formula) → marker_in o ≡ Some m → IfSome m M
  unfolding marker_in
  marker_has None m e = subst (λ (x : Option Formula). IfSome x M) (inside None m e) tt
  marker_has (Some text) m e =
      let f = bind_some (marker_of text) _ m e in
      subst (λ (x : Option Formula). IfSome x M) (inside (Some f.0) m f.2) (law text f.0 f.1)

  parts_have : (p : List ℕ × Option (List ℕ)) (t : Tail) → parts_read p ≡ Some t → IfSome t.1 M
  parts_have p t e =
      let s = bind_some (specifiers_in (text_between is_blank p.0)) _ t e in
      let m = bind_some (marker_in p.1) _ t s.2 in
      subst (λ (x : Tail). IfSome x.1 M) (inside (s.0, m.0) t m.2) (marker_has p.1 m.0 m.1)

  tail_has : (text : List ℕ) (t : Tail) → tail_of text ≡ Some t → IfSome t.1 M
  unfolding tail_of
  tail_has text t e = by_test (list_all is_inner_byte text) e
    where
      by_test : (b : Bool) → cond b (parts_read (parts_of text)) None ≡ Some t → IfSome t.1 M
      by_test true e = parts_have (parts_of text) t e
      by_test false e = absurd (cc e)

  behind_has : (text : List ℕ) (m : Option Formula) → marker_behind text ≡ Some m → IfSome m M
  unfolding marker_behind
  behind_has [] m e = subst (λ (x : Option Formula). IfSome x M) (inside None m e) tt
  behind_has (b ∷ text) m e = by_test (b == semicolon) e
    where
      by_test : (c : Bool) → cond c (marker_in (Some text)) None ≡ Some m → IfSome m M
      by_test true e = marker_has (Some text) m e
      by_test false e = absurd (cc e)

  url_has : (text : List ℕ) (m : Option Formula) → url_marker text ≡ Some m → IfSome m M
  unfolding url_marker
  url_has text m e = by_test (list_all is_inner_byte text && begins is_url_byte text) e
    where
      by_test : (b : Bool) → cond b (marker_behind (after_all is_blank (after_all is_url_byte text))) None ≡ Some m
          → IfSome m M
      by_test true e = behind_has (after_all is_blank (after_all is_url_byte text)) m e
      by_test false e = absurd (cc e)

  -- the marker behind a front is such
  pub rest_has : (rest : List ℕ) (t : Tail) → IsTailOf rest t → IfSome t.1 M
  rest_has rest t (inl e) = tail_has rest t e
  rest_has rest t (inr (none, e)) = url_has (after_all is_blank (drop 1 rest)) t.1 e

  -- and so is that of the whole requirement
  pub read_has : AreRead (HasMarker M)
  read_has text q e =
      let read = read_from text q e in
      subst (HasMarker M) {x = requirement_with read.front read.tail} read.is
      (rest_has read.front.rest read.tail read.behind)
