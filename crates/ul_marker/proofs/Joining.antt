-- Formulas joined by `and` and by `or`.
use Rattle.std.proofs.Common.{◌≡◌, ℕ, List, [], ◌∷◌, ◌++◌, refl, sym, ap, ◌∙◌, Bool, true, false}
use Rattle.std.specs.Prelude.{◌&&◌, ◌||◌}
use Rattle.ul_comparison.specs.Formulas.{Formula}
use Rattle.ul_marker.specs.ReadingLaws.{GroupingIsFree, OrderIsFree, holds_joined}
use Rattle.ul_comparison.specs.Truth.{marker_holds}
use Rattle.ul_comparison.specs.Worlds.{WorldFields}
use Rattle.ul_marker.specs.declared.reading.Chain.{Chain}
use Rattle.ul_marker.specs.declared.reading.Chain.TheVariants.{Conjunction, Disjunction}

-- two truths joined by `and` or by `or`
abbrev both : Chain → Bool → Bool → Bool
both Conjunction a b = a && b
both Disjunction a b = a || b

both-assoc : (chain : Chain) (a b c : Bool) → both chain a (both chain b c) ≡ both chain (both chain a b) c
both-assoc Conjunction true b c = refl
both-assoc Conjunction false b c = refl
both-assoc Disjunction true b c = refl
both-assoc Disjunction false b c = refl

both-swap : (chain : Chain) (a b c : Bool) → both chain a (both chain b c) ≡ both chain b (both chain a c)
both-swap Conjunction true true c = refl
both-swap Conjunction true false c = refl
both-swap Conjunction false true c = refl
both-swap Conjunction false false c = refl
both-swap Disjunction true true c = refl
both-swap Disjunction true false c = refl
both-swap Disjunction false true c = refl
both-swap Disjunction false false c = refl

one-more : (chain : Chain) (f : Formula) (fs : List Formula) (w : WorldFields) (x : List ℕ) → holds_joined chain (f ∷ fs) w x ≡ both chain (marker_holds f w x) (holds_joined chain fs w x)
one-more Conjunction f fs w x = refl
one-more Disjunction f fs w x = refl

none-first : (chain : Chain) (b : Bool) (w : WorldFields) (x : List ℕ) → b ≡ both chain (holds_joined chain [] w x) b
none-first Conjunction b w x = refl
none-first Disjunction b w x = refl

parts : (chain : Chain) (fs gs : List Formula) (w : WorldFields) (x : List ℕ) → holds_joined chain (fs ++ gs) w x ≡ both chain (holds_joined chain fs w x) (holds_joined chain gs w x)
parts chain [] gs w x = none-first chain (holds_joined chain gs w x) w x
parts chain (f ∷ fs) gs w x =
    one-more chain f (fs ++ gs) w x ∙ ap (λ (b : Bool). both chain (marker_holds f w x) b) (parts chain fs gs w x)
    ∙ both-assoc chain (marker_holds f w x) (holds_joined chain fs w x) (holds_joined chain gs w x)
    ∙ ap (λ (b : Bool). both chain b (holds_joined chain gs w x)) (sym (one-more chain f fs w x))

same-tail : (chain : Chain) (before fs gs : List Formula) (w : WorldFields) (x : List ℕ) → holds_joined chain fs w x ≡ holds_joined chain gs w x
    → holds_joined chain (before ++ fs) w x ≡ holds_joined chain (before ++ gs) w x
same-tail chain before fs gs w x e =
    parts chain before fs w x ∙ ap (λ (b : Bool). both chain (holds_joined chain before w x) b) e ∙ sym (parts chain before gs w x)

pub grouping : GroupingIsFree
grouping chain before inner after w x =
    same-tail chain before _ _ w x (one-more chain _ after w x ∙ sym (parts chain inner after w x))

pub order : OrderIsFree
order chain before after f g w x =
    let a = marker_holds f w x in
    let b = marker_holds g w x in
    let rest = holds_joined chain after w x in
    same-tail chain before _ _ w x
    (one-more chain f (g ∷ after) w x ∙ ap (λ (r : Bool). both chain a r) (one-more chain g after w x) ∙ both-swap chain a b rest
    ∙ ap (λ (r : Bool). both chain b r) (sym (one-more chain f after w x)) ∙ sym (one-more chain g (f ∷ after) w x))
