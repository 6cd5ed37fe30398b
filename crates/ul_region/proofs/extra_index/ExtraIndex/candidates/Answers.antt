use Rattle.std.proofs.Common.{◌≡◌, ◌++◌, ◌∙◌, inl, inr, ℕ, List, [], ap, subst, sym}
use Rattle.std.specs.Prelude.{Contains}
use Rattle.std.proofs.lemmas.List.Elements.{Contains-append_left, Contains-append_right}
use Rattle.std.proofs.lemmas.List.Sorted.{Contains-permutation, IsNonDecreasingBy-from_sort}
use Rattle.ul_region.specs.Extras.{IsFound, places_at}
use Rattle.ul_region.proofs.extra_index.ExtraIndex.candidates.Goals as goal

pub returns : goal.returns
returns c =
    let index = c.args.self.now in
    let own = places_at index c.args.extra.now in
    let any = places_at index [] in
    let all = c.extend_from_slice-2.new.self.items in
    let both : all ≡ own ++ any = c.in_ok-extend_from_slice-2.ensures.items
    ∙ ap (λ (l : List ℕ). l ++ c.places_of-2.result.now) (c.in_ok-extend_from_slice.ensures.items ∙ ap (λ (l : List ℕ). l ++ c.places_of.result.now) c.new-places.ensures.items)
    ∙ ap (λ (l : List ℕ). l ++ c.places_of-2.result.now) c.places_of.ensures
    ∙ ap (λ (l : List ℕ). own ++ l) c.places_of-2.ensures in
    let among : (k : ℕ) → IsFound index c.args.extra.now k → Contains (own ++ any) k = λ k f. elim f [
      | inl h ↦ Contains-append_left own any k h
      | inr h ↦ Contains-append_right own any k h
    ] in record {
      rising = IsNonDecreasingBy-from_sort (λ x. x) c.sort_unstable.new.self.items c.sort_unstable.ensures.sorted;
      all = λ k f. Contains-permutation all c.sort_unstable.new.self.items k c.sort_unstable.ensures.permutation (subst (λ (l : List ℕ). Contains l k) (sym both) (among k f));
    }
