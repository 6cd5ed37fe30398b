-- The negation of markers that are joined.
use Rattle.std.proofs.Common.{◌≡◌, ◌∙◌, Global, List, Vec, ap, map, rules, sym}
use Rattle.ul_comparison.specs.Formulas.{all, any, formulas_of}
use Rattle.ul_marker.specs.Views.{marker_view}
use Rattle.ul_marker.specs.declared.marker.Marker.{All, Any, Marker, the_lemmas}
use Rattle.ul_groups.specs.Negated.{negated}
use Rattle.ul_groups.proofs.NegatedFormulas.{each_is_map}

-- the formula of markers joined by `and`
pub view_all : (parts : Vec Marker Global) → marker_view (All parts) ≡ all (formulas_of (map marker_view parts.items))
view_all parts = search (rules, the_lemmas)

-- and by `or`
view_any : (parts : Vec Marker Global) → marker_view (Any parts) ≡ any (formulas_of (map marker_view parts.items))
view_any parts = search (rules, the_lemmas)

module _ (m : Marker) (parts made : Vec Marker Global) (list : List Marker) (same : list ≡ parts.items)
    (negations : map marker_view made.items ≡ map negated (map marker_view list)) where
  formulas : formulas_of (map marker_view made.items) ≡ formulas_of (map negated (map marker_view parts.items))
  formulas = ap formulas_of negations ∙ ap (λ (ms : List Marker). formulas_of (map negated (map marker_view ms))) same

  -- some of the negations holds where not all hold
  pub not_all : m ≡ All parts → marker_view (Any made) ≡ negated (marker_view m)
  not_all e =
      view_any made ∙ ap any (formulas ∙ sym (each_is_map (map marker_view parts.items)))
      ∙ sym (ap (λ (x : Marker). negated (marker_view x)) e ∙ ap negated (view_all parts))

  -- and all of them where none holds
  pub not_any : m ≡ Any parts → marker_view (All made) ≡ negated (marker_view m)
  not_any e =
      view_all made ∙ ap all (formulas ∙ sym (each_is_map (map marker_view parts.items)))
      ∙ sym (ap (λ (x : Marker). negated (marker_view x)) e ∙ ap negated (view_any parts))
