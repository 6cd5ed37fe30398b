-- Facts that grow by derived ones.
use Rattle.std.proofs.Common.{◌≡◌, ℕ, List, [], ◌∷◌, ◌++◌, true, ap, ◌∙◌, sym, subst, arith, append_assoc}
use Rattle.std.proofs.lemmas.List.{append-nil}
use Rattle.std.proofs.lemmas.Option.{slice_get_within}
use Rattle.ul_problem.specs.Plain.{Plain}
use Rattle.ul_problem.specs.Best.{Picks, joined_needs}
use Rattle.ul_trail.specs.Track.{Track}
use Rattle.ul_trail.specs.declared.fact.Fact.{Fact}
use Rattle.ul_trail.specs.Facts.{is_open, level_of, AreAt}
use Rattle.ul_trail.specs.Propagation.{IsTrailOf, AreDerivedAfter, AreLevels, AreNewAfter, HasGrown, root_facts}
use Rattle.ul_trail.proofs.Following.{derived_left}
use Rattle.ul_trail.proofs.Keeping.{levels_left}
use Rattle.ul_trail.proofs.Levels.{append_within, level_of-append, level_of-at}
use Rattle.ul_trail.proofs.Propagating.{picks_append}
use Rattle.ul_trail.proofs.Rooted.{rooted_level, root_level}

new_level : (p : Plain) (level : ℕ) (earlier more : List Fact) → AreNewAfter p level earlier more → AreAt level more
new_level p level earlier [] h = tt
new_level p level earlier (f ∷ fs) h = (h.0, new_level p level (earlier ++ f ∷ []) fs h.3)

new_join : (p : Plain) (level : ℕ) (earlier xs ys : List Fact) → AreNewAfter p level earlier xs → AreNewAfter p level (earlier ++ xs) ys → AreNewAfter p level earlier (xs ++ ys)
new_join p level earlier [] ys h i = subst (λ (l : List Fact). AreNewAfter p level l ys) (append-nil earlier) i
new_join p level earlier (x ∷ xs) ys h i = (h.0, h.1, h.2, new_join p level (earlier ++ x ∷ []) xs ys h.3 (subst (λ (l : List Fact). AreNewAfter p level l ys) (sym (append_assoc earlier (x ∷ []) xs)) i))

-- facts that have grown by derived ones are of the same level
pub grown_level : (p : Plain) (a b : List Fact) → HasGrown p a b → level_of b ≡ level_of a
grown_level p a b g =
    let x = level_of-append a g.0 in
    let y = level_of-at (level_of a) g.0 (new_level p (level_of a) a g.0 g.2) in
    ap level_of g.1 ∙ (x ∙ omega arith)

pub grown_none : (p : Plain) (a b : List Fact) → b ≡ a → HasGrown p a b
grown_none p a b e = ([], e ∙ sym (append-nil a), tt)

pub grown_join : (p : Plain) (a b c : List Fact) → HasGrown p a b → HasGrown p b c → HasGrown p a c
grown_join p a b c g h = (
  g.0 ++ h.0,
  h.1 ∙ (ap (λ (l : List Fact). l ++ h.0) g.1 ∙ append_assoc a g.0 h.0),
  new_join p (level_of a) a g.0 h.0 g.2 (subst (λ (l : List Fact). AreNewAfter p (level_of a) l h.0) g.1 (subst (λ (n : ℕ). AreNewAfter p n b h.0) (grown_level p a b g) h.2)),
)
