-- Keys of comparisons as keys of levels.
use Rattle.std.proofs.Common.{◌≡◌, ℕ, List, [], ◌∷◌, true, refl, sym, ◌∙◌, subst, Less, Equal, Greater, inl, inr}
use Rattle.std.specs.Borrow.{Bor}
use Rattle.std.specs.Ordering.{is_eq}
use Rattle.std.specs.declared.cmp.Ordering.{Ordering}
use Rattle.ul_base.specs.Names.{is_name, name_of}
use Rattle.ul_comparison.specs.Atoms.{AtomFields, IsAtom}
use Rattle.ul_nodes.specs.Keys.{level_view}
use Rattle.ul_nodes.specs.Levels.{IsKey, IsExtra}
use Rattle.ul_nodes.specs.Plain.{text_cmp}
use Rattle.ul_nodes.specs.declared.level.Key.TheVariants.{Holds}
use Rattle.ul_nodes.specs.declared.level.Level.{Level}
use Rattle.ul_nodes.specs.declared.level.Level.TheVariants.{Extra, Opaque}
use Rattle.ul_nodes.proofs.ForCallers.{cmp_equal}
use Rattle.ul_marker_text.specs.NodeViews.{IsKeyOf}

tied : (o : Ordering) → is_eq o ≡ true → o ≡ Equal
tied Less e = absurd cc
tied Equal e = refl
tied Greater e = absurd cc

-- the key of an opaque comparison
pub holds_key : (level : Level) (atom : Bor AtomFields) (key found : List ℕ) {o : Ordering} → level ≡ Opaque atom → IsAtom atom.now → found ≡ key → o ≡ text_cmp found (1 ∷ []) → is_eq o ≡ true → IsKeyOf (level_view level) key Holds
holds_key level atom key found e is same cmp eq =
    let one : found ≡ 1 ∷ [] = cmp_equal found (1 ∷ []) (sym cmp ∙ tied _ eq) in
    let key_one : key ≡ 1 ∷ [] = sym same ∙ one in
    subst (λ (z : Level). IsKeyOf (level_view z) key Holds) (sym e)
    (record { view = sym key_one; kind = refl; valid = ((atom.now, is, refl), key_one) })

no_extra_mark : IsExtra (1 ∷ []) → ⊥
unfolding name_of is_name
no_extra_mark (inl e) = absurd cc
no_extra_mark (inr e) = absurd cc

-- that an opaque comparison holds is no extra
pub extra_mark : (level : Level) (key : List ℕ) → level ≡ Extra → key ≡ 1 ∷ [] → IsKey (level_view level) key → ⊥
extra_mark level key e k h =
    no_extra_mark (subst (λ (z : List ℕ). IsExtra z) k (subst (λ (z : Level). IsKey (level_view z) key) e h))
