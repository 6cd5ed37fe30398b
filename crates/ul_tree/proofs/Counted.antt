-- As many paths are listed as are counted.
use Rattle.std.proofs.Common.{◌≡◌, ℕ, ◌+◌, ◌^◌, List, ◌∷◌, ◌++◌, length, Bool, true, false, refl, ◌∙◌, arith, length-append, if◌then◌else◌}
use Rattle.std.proofs.lemmas.List.{length-map}
use Rattle.ul_nodes.specs.Apply.{keys}
use Rattle.ul_tree.specs.Paths.{paths_of, paths_in}
use Rattle.ul_nodes.specs.Plain.{Plain, truth, node, Branches, done, branch, carries}
use Rattle.ul_tree.specs.PathList.{Step, interval, point, others, start_of, longer_paths, paths_to_true, paths_from, paths_at}
use Rattle.ul_tree.specs.PathLaws.{ListedAreCounted}

led_length : (s : Step) (ps : List (List Step)) → length (longer_paths s ps) ≡ length ps
led_length s ps = length-map ps (λ p. s ∷ p)

both_lengths : (ps qs : List (List Step)) (m n : ℕ) → length ps ≡ m → length qs ≡ n → length (ps ++ qs) ≡ m + n
both_lengths ps qs m n x y = omega (arith, length-append ps qs)

node_counted : (l : List ℕ) (d : Plain) (bs : Branches) → length (paths_to_true d) ≡ paths_of d → length (paths_from 0 (paths_to_true d) bs) ≡ length (paths_to_true d) + paths_in bs → length (paths_at l bs) ≡ paths_in bs
    → length (paths_to_true (node l d bs)) ≡ paths_of d + paths_in bs
node_counted l d bs x y z = go (carries l)
  where
    go : (m : Bool) → length (if m then paths_from 0 (paths_to_true d) bs else paths_at l bs ++ longer_paths (others l (keys bs)) (paths_to_true d)) ≡ paths_of d + paths_in bs
    go true = omega (arith, x, y)
    go false = omega (arith, both_lengths (paths_at l bs) (longer_paths (others l (keys bs)) (paths_to_true d)) (paths_in bs) (paths_of d) z (led_length (others l (keys bs)) (paths_to_true d) ∙ x))

mutual
  pub counted : ListedAreCounted
  counted (truth true) = refl
  counted (truth false) = refl
  counted (node l d bs) = node_counted l d bs (counted d) (from_counted bs 0 (paths_to_true d)) (at_counted bs l)

  from_counted : (bs : Branches) (start : ℕ) (ps : List (List Step)) → length (paths_from start ps bs) ≡ length ps + paths_in bs
  from_counted done start ps = omega (arith, led_length (interval start (2 ^ 96)) ps)
  from_counted (branch k c rest) start ps =
      let more = from_counted rest (start_of k) (paths_to_true c) in
      let own = counted c in
      let e = both_lengths (longer_paths (interval start (start_of k)) ps) (paths_from (start_of k) (paths_to_true c) rest) _ _ (led_length (interval start (start_of k)) ps) more in
      omega (arith, e, own)

  at_counted : (bs : Branches) (l : List ℕ) → length (paths_at l bs) ≡ paths_in bs
  at_counted done l = refl
  at_counted (branch k c rest) l = both_lengths (longer_paths (point l k) (paths_to_true c)) (paths_at l rest) (paths_of c) (paths_in rest) (led_length (point l k) (paths_to_true c) ∙ counted c) (at_counted rest l)
