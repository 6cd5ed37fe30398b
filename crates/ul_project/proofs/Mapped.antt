-- What was made of the first elements of a list, before what is made of those that are left.
use Rattle.std.proofs.Common.{◌≡◌, ◌++◌, ◌∙◌, List, [], ◌∷◌, map, ap, sym, append_assoc, append-nil}
use Rattle.ul_requirement.specs.Fields.{RequirementFields}
use Rattle.ul_project.specs.Extras.{extra_requirements, of_extra}
use Rattle.ul_project.specs.Lists.{Named}

-- one more was made
pub mapped_next : {A B : Type 0} (f : A → B) (found after : List B) (before rest : List A) (x : A) → before ≡ x ∷ rest → after ≡ found ++ f x ∷ []
    → after ++ map f rest ≡ found ++ map f before
mapped_next f found after before rest x b a = rw (b, a) (append_assoc found (f x ∷ []) (map f rest))

-- nothing is left
pub mapped_end : {A B : Type 0} (f : A → B) (found whole : List B) (before : List A) → before ≡ [] → found ++ map f before ≡ whole → found ≡ whole
mapped_end f found whole before b all = sym (append-nil found) ∙ ap (λ xs. found ++ map f xs) (sym b) ∙ all

-- the requirements of one more extra
pub required_next : (found after : List RequirementFields) (before rest : List (Named (List RequirementFields))) (x : Named (List RequirementFields))
    → before ≡ x ∷ rest → after ≡ found ++ map (of_extra x.0) x.1 → after ++ extra_requirements rest ≡ found ++ extra_requirements before
required_next found after before rest x b a = rw (b, a) (append_assoc found (map (of_extra x.0) x.1) (extra_requirements rest))
