-- Needs of requirements, one after another.
use Rattle.std.specs.Prelude.{slice_get}
use Rattle.std.proofs.Common.{◌≡◌, ◌<◌, ◌+◌, ℕ, List, [], ◌∷◌, ◌++◌, length, get_or, map, take, Some, sym, ap, subst, ◌∙◌}
use Rattle.std.proofs.lemmas.List.{map_more, take_more}
use Rattle.std.proofs.lemmas.Option.{same_Some}
use Rattle.ul_base.specs.declared.node.Node.{Node}
use Rattle.ul_specifier.specs.Clauses.{ClauseFields}
use Rattle.ul_specifier.specs.Meaning.{meets_list}
use Rattle.ul_problem.specs.declared.problem.Need.{Need as PlaceNeed}
use Rattle.ul_region.specs.Best.{Need, needs_of}
use Rattle.ul_region.specs.declared.rows.Asked.{Asked}
use Rattle.ul_prepared.specs.Prepared.{AreAims, AreRowAims, IsAim}
use Rattle.ul_prepared.specs.Aims.{HasNode, needs_on}
use Rattle.ul_prepared.specs.Permitted.{IsPermitted}
use Rattle.ul_prepared.specs.declared.prepared.NameFacts.{NameFacts}
use Rattle.ul_prepared.specs.declared.prepared.Planned.{Planned}

module _ (names : List NameFacts) (nodes : List Planned) where
  -- the need of a target at its place
  pub aim_is : (k : PlaceNeed) (t : Need) (planned : Planned) → HasNode names nodes t.node k.node → slice_get nodes k.node ≡ Some planned → IsPermitted names planned.name t.specifiers k.permitted → IsAim names nodes k t
  aim_is k t planned h at p = let same : h.1.planned ≡ planned = same_Some h.1.planned planned (sym h.1.at ∙ at) in
      let facts : p.facts ≡ h.0 = same_Some p.facts h.0 (sym p.at ∙ (ap (λ (q : Planned). slice_get names q.name) (sym same) ∙ h.1.facts)) in record {
        facts = h.0;
        at = h.1;
        permitted = p.is ∙ ap (λ (f : NameFacts). map (meets_list t.specifiers) f.versions) facts;
      }

  aims_push : (ks : List PlaceNeed) (ts : List Need) (k : PlaceNeed) (t : Need) → AreAims names nodes ks ts → IsAim names nodes k t → AreAims names nodes (ks ++ k ∷ []) (ts ++ t ∷ [])
  aims_push [] [] k t h i = (i, tt)
  aims_push [] (u ∷ ts) k t h i = absurd h
  aims_push (j ∷ ks) [] k t h i = absurd h
  aims_push (j ∷ ks) (u ∷ ts) k t h i = (h.0, aims_push ks ts k t h.1 i)

  -- one target more
  pub aims_more : (specifiers : List ClauseFields) (done now : List PlaceNeed) (targets : List Node) (i : ℕ) (k : PlaceNeed) (t : Node) → now ≡ done ++ k ∷ [] → AreAims names nodes done (needs_on specifiers (take i targets))
      → IsAim names nodes k (record { node = t; specifiers = specifiers }) → i < length targets → t ≡ get_or targets i t → AreAims names nodes now (needs_on specifiers (take (i + 1) targets))
  aims_more specifiers done now targets i k t e h one l at =
      subst (λ (zs : List PlaceNeed). AreAims names nodes zs (needs_on specifiers (take (i + 1) targets))) (sym e)
      (subst (λ (zs : List Need). AreAims names nodes (done ++ k ∷ []) zs)
      (ap (λ (u : Node). needs_on specifiers (take i targets) ++ record { node = u; specifiers = specifiers } ∷ []) at ∙ sym (map_more (λ (u : Node). record { node = u; specifiers = specifiers }) targets i t l))
      (aims_push done (needs_on specifiers (take i targets)) k (record { node = t; specifiers = specifiers }) h one))

  rows_push : (kss : List (List PlaceNeed)) (asked : List Asked) (ks : List PlaceNeed) (a : Asked) → AreRowAims names nodes kss asked → AreAims names nodes ks (needs_of a.requirement.now) → AreRowAims names nodes (kss ++ ks ∷ []) (asked ++ a ∷ [])
  rows_push [] [] ks a h i = (i, tt)
  rows_push [] (b ∷ asked) ks a h i = absurd h
  rows_push (js ∷ kss) [] ks a h i = absurd h
  rows_push (js ∷ kss) (b ∷ asked) ks a h i = (h.0, rows_push kss asked ks a h.1 i)

  -- one requirement more
  pub rows_more : (done now : List (List PlaceNeed)) (asked : List Asked) (i : ℕ) (ks : List PlaceNeed) (a : Asked) → now ≡ done ++ ks ∷ [] → AreRowAims names nodes done (take i asked)
      → AreAims names nodes ks (needs_of a.requirement.now) → i < length asked → a ≡ get_or asked i a → AreRowAims names nodes now (take (i + 1) asked)
  rows_more done now asked i ks a e h one l at =
      subst (λ (zs : List (List PlaceNeed)). AreRowAims names nodes zs (take (i + 1) asked)) (sym e)
      (subst (λ (zs : List Asked). AreRowAims names nodes (done ++ ks ∷ []) zs) (ap (λ (u : Asked). take i asked ++ u ∷ []) at ∙ sym (take_more asked i a l))
      (rows_push done (take i asked) ks a h one))
