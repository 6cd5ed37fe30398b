-- One log of the list of logs is changed.
use Rattle.std.proofs.Common.{◌≡◌, ℕ, ◌<◌, List, [], ◌∷◌, ◌++◌, ◌+◌, length, map, replicate, set, get_or, ap, sym, ◌∙◌, refl, zero, suc, arith}
use Rattle.std.proofs.lemmas.List.{map-set, get_or-map, length-map, map_push, replicate_more}
use Rattle.std.proofs.Math.Seq.{map-set_same}
use Rattle.std.specs.Global.{Vec}
use Rattle.ul_core.specs.declared.trees.Tree.{Tree}
use Rattle.ul_core.specs.Core.{Core, core_of, first_core, log_of}
use Rattle.ul_core.specs.Steps.{after_tree}

module _ {L : Type 0} where
  -- the log at a place
  pub log_at : (logs : List (Vec (Tree L))) (claims k : ℕ) (v : Vec (Tree L)) (s : Core L)
      → core_of logs claims ≡ s → k < length s.logs → v ≡ get_or logs k v → log_of s k ≡ v.items
  log_at logs claims k v s is l at_k =
      let inside : k < length logs = omega (arith, length-map logs (λ (z : Vec (Tree L)). z.items), ap (λ z. length z.logs) is) in
      ap (λ z. log_of z k) (sym is) ∙ (get_or-map (λ (z : Vec (Tree L)). z.items) logs k v [] inside ∙ ap (λ z. z.items) (sym at_k))

  pub log_longer : (logs : List (Vec (Tree L))) (claims k : ℕ) (v w : Vec (Tree L)) (s : Core L) (t : Tree L)
      → core_of logs claims ≡ s → k < length s.logs → v ≡ get_or logs k v → w.items ≡ v.items ++ t ∷ [] → core_of (set logs k w) claims ≡ after_tree s k t
  log_longer logs claims k v w s t is l at_k more =
      let here : log_of s k ≡ v.items = log_at logs claims k v s is l at_k in
      let item : w.items ≡ log_of s k ++ t ∷ [] = more ∙ ap (λ z. z ++ t ∷ []) (sym here) in
      ap (λ z. record { logs = z; claims = claims }) (map-set (λ (z : Vec (Tree L)). z.items) logs k w)
      ∙ (λ i. record { logs = set (is i).logs k (item i); claims = (is i).claims })

  pub log_same : (logs : List (Vec (Tree L))) (claims k : ℕ) (v w : Vec (Tree L)) (s : Core L)
      → core_of logs claims ≡ s → v ≡ get_or logs k v → w.items ≡ v.items → core_of (set logs k w) claims ≡ s
  log_same logs claims k v w s is at_k same =
      ap (λ z. record { logs = z; claims = claims }) (map-set_same (λ (z : Vec (Tree L)). z.items) logs k w v (same ∙ ap (λ z. z.items) at_k)) ∙ is

  -- one more empty log
  pub first_more : (logs all : List (Vec (Tree L))) (v : Vec (Tree L)) (n : ℕ) → core_of logs 0 ≡ first_core n → v.items ≡ [] → all ≡ logs ++ v ∷ [] → core_of all 0 ≡ first_core (n + 1)
  first_more logs all v n is empty more =
      let items : Vec (Tree L) → List (Tree L) = λ z. z.items in
      let rows : map items all ≡ replicate (n + 1) [] = ap (map items) more ∙ map_push items logs v ∙ (λ i. (is i).logs ++ empty i ∷ []) ∙ replicate_more n [] in
      ap (λ z. record { logs = z; claims = 0 }) rows

  -- there are as many logs as the core has
  pub length_logs : (logs : List (Vec (Tree L))) (claims : ℕ) (s : Core L) → core_of logs claims ≡ s → length logs ≡ length s.logs
  length_logs logs claims s is = sym (length-map logs (λ (z : Vec (Tree L)). z.items)) ∙ ap (λ z. length z.logs) is

  -- a fresh core has as many logs as shards
  pub length_first : (logs : List (Vec (Tree L))) (n : ℕ) → core_of logs 0 ≡ first_core n → length logs ≡ n
  length_first logs n is = sym (length-map logs (λ (z : Vec (Tree L)). z.items)) ∙ (ap (λ z. length z.logs) is ∙ length_empty n)
    where
      length_empty : (n : ℕ) → length (first_core {L = L} n).logs ≡ n
      length_empty zero = refl
      length_empty (suc n) = omega (arith, length_empty n)
