-- Bytes say at most one project.
use Rattle.std.proofs.Common.{◌≡◌, ℕ, List, true, false, true≢false, subst, sym, ap, ◌∙◌}
use Rattle.std.specs.Prelude.{Ok}
use Rattle.ul_comparison.specs.Worlds.{WorldFields, IsWorld}
use Rattle.ul_nodes.specs.Plain.{Plain}
use Rattle.ul_tree.specs.Regions.{HasTruth}
use Rattle.ul_tree.proofs.ForCallers.{one_truth_one_tree}
use Rattle.ul_project.specs.Fields.{ProjectFields}
use Rattle.ul_project.specs.Headline.{IsOf, IsSaid, SaysNowhere, supported_by}
use Rattle.ul_project.specs.Laws.{OneProject}
use Rattle.ul_project.specs.ProjectFile.{FileFields, file_of, project_with}

same_file : (bytes : List ℕ) (f g : FileFields) → file_of bytes ≡ Ok f → file_of bytes ≡ Ok g → f ≡ g
same_file bytes f g a b = cc

same_region : (file : FileFields) (s t : Plain) → HasTruth s (supported_by file) → HasTruth t (supported_by file) → s ≡ t
same_region file s t h k = one_truth_one_tree s t h.reduced k.reduced (λ w x is ascii extra. h.truth w x is ∙ sym (k.truth w x is))

same_project : (f g : FileFields) (p q : ProjectFields) → f ≡ g → IsOf f p → IsOf g q → p ≡ q
same_project f g p q e a b =
    let k : HasTruth q.region (supported_by f) = subst (λ x. HasTruth q.region (supported_by x)) (sym e) b.region in
    a.fields ∙ ap (λ r. project_with r f) (same_region f p.region q.region a.region k) ∙ ap (λ x. project_with q.region x) e ∙ sym b.fields

one : (bytes : List ℕ) (p q : ProjectFields) → IsSaid bytes p → IsSaid bytes q → p ≡ q
one bytes p q a b = same_project a.file b.file p q (same_file bytes a.file b.file a.said b.said) a.project b.project

held_nowhere : (f g : FileFields) → f ≡ g → ((w : WorldFields) × IsWorld w × (supported_by f w ≡ true)) → ((w : WorldFields) → IsWorld w → supported_by g w ≡ false) → ⊥
held_nowhere f g e (w, is, held) nowhere = true≢false (sym held ∙ ap (λ x. supported_by x w) e ∙ nowhere w is)

somewhere : (bytes : List ℕ) (p : ProjectFields) → IsSaid bytes p → SaysNowhere bytes → ⊥
somewhere bytes p a b = held_nowhere a.file b.file (same_file bytes a.file b.file a.said b.said) a.project.somewhere b.nowhere

pub one_project : OneProject
one_project = record { one = one; somewhere = somewhere }
