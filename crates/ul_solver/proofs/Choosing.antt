-- The first version that no fact excludes.
use Rattle.std.proofs.Common.{◌≡◌, ℕ, zero, suc, List, [], ◌∷◌, ◌++◌, Bool, true, false, Some, refl, ap, ◌∙◌, sym, subst, ◌<◌, arith, slice_get, length}
use Rattle.std.proofs.lemmas.Option.{slice_get_within, get_or_from_slice_get}
use Rattle.ul_ranges.specs.Flags.{has, first_in}
use Rattle.ul_ranges.proofs.ForCallers.{first_some}
use Rattle.ul_problem.specs.Plain.{Plain, size_of, size_in, order_of, order_in}
use Rattle.ul_problem.specs.Problems.{IsWellFormed}
use Rattle.ul_problem.proofs.ForCallers.{at_node, node_whole, has_within}
use Rattle.ul_trail.specs.declared.fact.Fact.{Fact}
use Rattle.ul_trail.specs.Facts.{is_open, IsAllowed}
use Rattle.ul_solver.specs.State.{IsFirstOpen}

get_mid : (front back : List ℕ) (v : ℕ) → slice_get (front ++ v ∷ back) (length front) ≡ Some v
get_mid [] back v = refl
get_mid (x ∷ xs) back v = get_mid xs back v

get_front : (xs ys : List ℕ) (k x : ℕ) → k < length xs → slice_get (xs ++ ys) k ≡ Some x → slice_get xs k ≡ Some x
get_front [] ys k x h e = absurd (omega arith)
get_front (z ∷ xs) ys zero x h e = e
get_front (z ∷ xs) ys (suc k) x h e = get_front xs ys k x (omega arith) e

pub record IsChoice (p : Plain) (facts : List Fact) (n v : ℕ) : Type 0 where
  pub there : v < size_of p n
  pub open' : is_open facts n (Some v) ≡ true
  pub first : IsFirstOpen p facts n v

pub chosen : (p : Plain) (facts : List Fact) (n v : ℕ) (s : List Bool) (order : List ℕ) → IsWellFormed p → n < length p.nodes → order ≡ order_of p n → IsAllowed facts n (size_of p n) s → Some v ≡ first_in order s → IsChoice p facts n v
chosen p facts n v s order wf l eo a e =
    let r = first_some (λ k. has k s) order v (sym e) in
    let f = at_node p n l in
    let w = node_whole p n f.0 wf f.1 in
    let es : size_of p n ≡ length f.0.versions = ap size_in f.1 in
    let ef : order_of p n ≡ f.0.order = ap order_in f.1 in
    let low : v < size_of p n = (let h = has_within s v r.3 in let z = a.length_is in omega arith) in
    let same : order_of p n ≡ r.0 ++ v ∷ r.1 = sym eo ∙ r.2 in
    record {
      there = low;
      open' = sym (a.each v low) ∙ r.3;
      first = (
        length r.0,
        subst (λ (x : List ℕ). slice_get x (length r.0) ≡ Some v) (sym same) (get_mid r.0 r.1 v),
        (λ j u h g.
            (let i = get_front r.0 (v ∷ r.1) j u h (subst (λ (x : List ℕ). slice_get x j ≡ Some u) same g) in
            let k = slice_get_within r.0 j u i in
            let no' : has u s ≡ false = subst (λ (z : ℕ). has z s ≡ false) (get_or_from_slice_get r.0 j u u i) (r.4 j u k) in
            let g' : slice_get f.0.order j ≡ Some u = subst (λ (x : List ℕ). slice_get x j ≡ Some u) ef g in
            let b : u < length f.0.versions = subst (λ (z : ℕ). z < length f.0.versions) (get_or_from_slice_get f.0.order j u u g') (w.is_order.1 j u (slice_get_within f.0.order j u g')) in
            sym (a.each u (omega arith)) ∙ no')),
      );
    }
