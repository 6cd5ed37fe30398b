-- Splits cut a region's worlds, and each child of a split has a world.
use Rattle.std.specs.Prelude.{Contains}
use Rattle.std.proofs.Common.{◌≡◌, ◌∙◌, ◌+◌, ℕ, List, [], ◌∷◌, ◌++◌, Bool, true, false, not, ◌&&◌, Some, inl, inr, refl, sym, ap₂, subst, ⊎_elim}
use Rattle.ul_base.specs.declared.node.Node.{Node}
use Rattle.ul_base.proofs.ForCallers.{first_holds, contains_first, contains_later, none_in, contains_cases}
use Rattle.ul_version.specs.Fields.{Fields}
use Rattle.ul_comparison.specs.Worlds.{WorldFields, IsWorld}
use Rattle.ul_requirement.specs.Fields.{ReleaseFields, WishFields}
use Rattle.ul_requirement.specs.declared.wish.Strategy.{Strategy}
use Rattle.ul_requirement.specs.declared.wish.Strategy.TheVariants.{Fewest, RequiresPython, Deep}
use Rattle.ul_nodes.specs.Plain.{Plain}
use Rattle.ul_tree.specs.Regions.{HasTruth, region_of}
use Rattle.ul_index.specs.Regions.{Region, Somewhere, HasWorld}
use Rattle.ul_index.specs.Catalogs.{Packages, release_of, is_fit, is_fit_in, is_release_fit}
use Rattle.ul_index.specs.Preference.{preference}
use Rattle.ul_index.specs.Serves.{Selection, Suits}
use Rattle.ul_region.specs.Best.{CanServe, IsBestFrom}
use Rattle.ul_generations.specs.Laws.{one_if, Cuts}
use Rattle.ul_split.specs.Laws.{Children}
use Rattle.ul_split.specs.Split.{Decided, AreDecided}
use Rattle.ul_split.specs.CoreLaws.{CoreChildren}
use Rattle.ul_forks.specs.Headline.{IsCut}
use Rattle.ul_forks.specs.Outcome.{Question, starts_of, IsSplitByBest, IsSplitBy, IsSplit, IsOutcome}

halves : (a b : Bool) → one_if (a && b) + one_if (a && not b) ≡ one_if a
halves true true = refl
halves true false = refl
halves false b = refl

-- a world of the region is in one child of a split
pub cuts : (q : Question) (w : WorldFields) → IsWorld w → Cuts (IsOutcome q) (λ t. region_of t w)
cuts q w is t a b h = ap₂ (λ x y. one_if x + one_if y) (h.true_in.truth w [] is) (h.false_in.truth w [] is) ∙ halves (region_of t w) (h.truth w)

contains_last : (xs : Selection) (p : Node × Fields) → Contains (xs ++ p ∷ []) p
contains_last [] p = contains_first p []
contains_last (x ∷ xs) p = contains_later x (xs ++ p ∷ []) p (contains_last xs p)

-- each decision suits the region: some serving selection has it
best_suits : (c : Packages) (starts : List Node) (wish : WishFields) (R : Region) (done ds : Selection) → IsBestFrom c starts wish R done ds → (p : Node × Fields) → Contains ds p → Suits wish.strategy R (is_fit c p.0.name p.1)
best_suits c starts wish R done [] h p m = absurd (none_in p m)
best_suits c starts wish R done (d ∷ ds) h p m = ⊎_elim (λ e. subst (λ (x : Node × Fields). Suits wish.strategy R (is_fit c x.0.name x.1)) (sym e) own) (best_suits c starts wish R (done ++ d ∷ []) ds h.more p) (contains_cases d ds p m)
  where
    can : CanServe c starts wish R (done ++ (d.0, d.1) ∷ [])
    can = first_holds (λ (v : Fields). CanServe c starts wish R (done ++ (d.0, v) ∷ [])) (preference c wish d.0.name) d.1 h.version

    own : Suits wish.strategy R (is_fit c d.0.name d.1)
    own = can.serves.fit_in d.0 d.1 (can.agrees d.0 d.1 (contains_last done (d.0, d.1)))

fit_found : (c : Packages) (n : List ℕ) (v : Fields) (r : ReleaseFields) → release_of c n v ≡ Some r → is_fit c n v ≡ is_release_fit r
unfolding is_fit
fit_found c n v r e = λ i w. is_fit_in (e i) w

decided_suits : (strategy : Strategy) (c : Packages) (R : Region) (s : Selection) (ds : List Decided) → AreDecided c s ds → ((p : Node × Fields) → Contains s p → Suits strategy R (is_fit c p.0.name p.1)) → (d : Decided) → Contains ds d → Suits strategy R (is_release_fit d.release)
decided_suits strategy c R [] [] h suits d m = absurd (none_in d m)
decided_suits strategy c R [] (e ∷ es) h suits d m = absurd h
decided_suits strategy c R (p ∷ ps) [] h suits d m = absurd h
decided_suits strategy c R (p ∷ ps) (e ∷ es) h suits d m = ⊎_elim
    (λ same. subst (λ (x : Decided). Suits strategy R (is_release_fit x.release)) (sym same) (subst (Suits strategy R) (fit_found c p.0.name p.1 e.release h.found) (suits p (contains_first p ps))))
    (decided_suits strategy c R ps es h.rest (λ x k. suits x (contains_later p ps x k)) d) (contains_cases e es d m)

suits_somewhere : (strategy : Strategy) (R : Region) (p : WorldFields → Bool) → HasWorld R → Suits strategy R p → Somewhere R p
suits_somewhere Fewest R p h k = (h.0, h.1, h.2, k h.0 h.1 h.2)
suits_somewhere RequiresPython R p h k = k
suits_somewhere Deep R p h k = k

both_true : (a b : Bool) → a ≡ true → b ≡ true → (a && b) ≡ true
both_true a b e h = ap₂ (λ x y. x && y) e h

child_world : (t : Plain) (R : Region) (p : WorldFields → Bool) → HasTruth t (λ w. R w && p w) → Somewhere R p → HasWorld (region_of t)
child_world t R p h k = (k.0, k.1, h.truth k.0 [] k.1 ∙ both_true (R k.0) (p k.0) k.2 k.3, refl)

-- a truth that splits a region that something serves holds at some world of it, and fails at some
served_worlds : Children → (q : Question) (t : Plain) (truth : WorldFields → Bool) → HasWorld (region_of t) → IsSplitByBest q t truth → Somewhere (region_of t) truth × Somewhere (region_of t) (λ w. not (truth w))
served_worlds law q t truth has h = law.have_worlds (region_of t) h.decided truth h.splits fit
  where
    fit : (d : Decided) → Contains h.decided d → Somewhere (region_of t) (is_release_fit d.release)
    fit d m = suits_somewhere q.wish.strategy (region_of t) (is_release_fit d.release) has
        (decided_suits q.wish.strategy q.catalog (region_of t) h.best h.decided h.are.are_decided (best_suits q.catalog (starts_of q) q.wish (region_of t) [] h.best h.are.is_best) d m)

-- so does one that splits a region that nothing serves
split_worlds : Children → CoreChildren → (q : Question) (t : Plain) (truth : WorldFields → Bool) → HasWorld (region_of t) → IsSplitBy q t truth → Somewhere (region_of t) truth × Somewhere (region_of t) (λ w. not (truth w))
split_worlds law cores q t truth has (inl h) = served_worlds law q t truth has h
split_worlds law cores q t truth has (inr h) = cores q.catalog (region_of t) h.problem h.core truth h.splits

-- both children of a split have a world
children_worlds : Children → CoreChildren → (q : Question) (t a b : Plain) → HasWorld (region_of t) → IsSplit q t a b → HasWorld (region_of a) × HasWorld (region_of b)
children_worlds law cores q t a b has h = let both = split_worlds law cores q t h.truth has h.splits in (
  child_world a (region_of t) h.truth h.true_in both.0,
  child_world b (region_of t) (λ w. not (h.truth w)) h.false_in both.1,
)

-- a split cuts the region's worlds
pub split_cuts : Children → CoreChildren → (q : Question) (t a b : Plain) → IsSplit q t a b → IsCut t a b
split_cuts law cores q t a b h = record { part = λ w is. cuts q w is t a b h; have_worlds = λ has. children_worlds law cores q t a b has h }
