-- Which versions meet `==VERSION`.
use Rattle.std.proofs.Common.{◌≡◌, ◌↔◌, List, [], ◌∷◌, Bool, true, false, true≢false, inl, inr, refl, sym, ap, ◌∙◌}
use Rattle.std.specs.Prelude.{◌&&◌}
use Rattle.std.specs.Ordering.{is_eq}
use Rattle.std.specs.declared.cmp.Ordering.{Ordering}
use Rattle.std.specs.declared.cmp.Ordering.TheVariants as Answer
use Rattle.std.proofs.lemmas.Bool.{cases_Bool}
use Rattle.ul_version.specs.Fields.{Fields, without_local}
use Rattle.ul_version.specs.Order.{version_cmp}
use Rattle.ul_version.specs.declared.fields.Segment.{Segment}
use Rattle.ul_version.proofs.ForCallers.{order}
use Rattle.ul_specifier.specs.Clauses.{has_local, is_filled}
use Rattle.ul_specifier.specs.Meaning.{equals, meets_clause, meets_list}
use Rattle.laws_exports.specs.Pins.{PinsOneVersion, exactly}

both_true : (b : Bool) → (b && true) ≡ b
both_true true = refl
both_true false = refl

-- the list asks what its one clause asks
one_clause : (v u : Fields) → meets_list (exactly v) u ≡ equals v u
unfolding meets_clause
one_clause v u = both_true (equals v u)

tied : (o : Ordering) → (is_eq o ≡ true) ↔ (o ≡ Answer.Equal)
tied Answer.Less = ((λ h. absurd (true≢false (sym h))), (λ e. cc e))
tied Answer.Equal = ((λ h. refl), (λ e. refl))
tied Answer.Greater = ((λ h. absurd (true≢false (sym h))), (λ e. cc e))

by_local : (v u : Fields) → has_local v ≡ true → meets_list (exactly v) u ≡ is_eq (version_cmp u v)
by_local v u h = one_clause v u ∙ rw h refl

by_public : (v u : Fields) → has_local v ≡ false → meets_list (exactly v) u ≡ is_eq (version_cmp (without_local u) v)
by_public v u h = one_clause v u ∙ rw h refl

-- a version without a local part is itself without it
none_filled : (segments : List Segment) → is_filled segments ≡ false → segments ≡ []
none_filled [] h = refl
none_filled (s ∷ segments) h = absurd (true≢false h)

without_none : (v : Fields) → has_local v ≡ false → without_local v ≡ v
without_none v h = ap (λ (segments : List Segment). record v { local = segments }) (sym (none_filled v.local h))

level : (v u : Fields) → u ≡ v → is_eq (version_cmp u v) ≡ true
level v u e = (tied (version_cmp u v)).1 (ap (λ (w : Fields). version_cmp w v) e ∙ order.reflexive v)

pub pins_one_version : PinsOneVersion
pins_one_version = record {
  itself = λ v. elim (cases_Bool (has_local v)) [
    | inl h ↦ by_local v v h ∙ level v v refl
    | inr h ↦ by_public v v h ∙ level v (without_local v) (without_none v h)
  ];
  local = λ v u h. (
    (λ m. (tied (version_cmp u v)).0 (sym (by_local v u h) ∙ m)),
    (λ e. by_local v u h ∙ (tied (version_cmp u v)).1 e),
  );
  public = λ v u h. (
    (λ m. (tied (version_cmp (without_local u) v)).0 (sym (by_public v u h) ∙ m)),
    (λ e. by_public v u h ∙ (tied (version_cmp (without_local u) v)).1 e),
  );
}
