-- A level that is put together from the results of its pieces.
use Rattle.std.proofs.Common.{◌≡◌, ℕ, List, Option, Bool, ap, ◌∙◌}
use Rattle.ul_nodes.specs.Apply.{close, reduced_branches}
use Rattle.ul_nodes.specs.Plain.{Plain, Branches, carries}
use Rattle.ul_nodes.specs.Rows.{Results, own_or, earliest, latest}
use Rattle.ul_tree.specs.Simplify.{filled_results, settled_from, settled_level}

-- it is the one of the rule
pub settled_is : (l : List ℕ) (m : Bool) (rs : Results) (o : Option Plain) (d z e : Plain) (ps : List (List ℕ × Plain)) (bs : Branches) → m ≡ carries l → z ≡ earliest m rs o d → e ≡ own_or o (latest m rs z)
    → ps ≡ filled_results rs z → bs ≡ reduced_branches m ps e → close l e bs ≡ settled_level l rs o d
settled_is l m rs o d z e ps bs carry first other parts made =
    ap (close l e) (made ∙ ap (λ x. reduced_branches m x e) parts)
    ∙ ap (λ k. close l e (reduced_branches k (filled_results rs z) e)) carry
    ∙ ap (λ x. close l x (reduced_branches (carries l) (filled_results rs z) x)) (other ∙ ap (λ k. own_or o (latest k rs z)) carry)
    ∙ ap (settled_from l rs o) (first ∙ ap (λ k. earliest k rs o d) carry)
