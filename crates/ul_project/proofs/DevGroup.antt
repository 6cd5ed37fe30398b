-- The group `dev` and its entries among the lists of the groups.
use Rattle.std.proofs.Common.{◌≡◌, ◌++◌, ◌==◌, ℕ, List, [], ◌∷◌, length, map, true, false, true≢false, Some, refl, sym, ap, ◌∙◌}
use Rattle.std.specs.BTreeMap.{insert_entry}
use Rattle.std.specs.Ordering.{match_ordering}
use Rattle.std.specs.declared.cmp.Ordering.{Ordering}
use Rattle.std.specs.declared.cmp.Ordering.TheVariants.{Less, Equal, Greater}
use Rattle.std.specs.Prelude.{Err, codes}
use Rattle.toml.specs.View.{items_view}
use Rattle.toml.specs.declared.value.Value.{Value}
use Rattle.ul_base.specs.Names.{is_name, name_cmp, name_of, normal_form}
use Rattle.ul_requirement.specs.Fields.{RequirementFields}
use Rattle.ul_project.specs.DevDependencies.{dev, dev_allowed, entries_of, with_dev}
use Rattle.ul_project.specs.Lists.{Named, group_extra, has_name, put_list}
use Rattle.ul_project.specs.Shapes.{at_key, shape}
use Rattle.ul_project.specs.Toml.{items_list}
use Rattle.ul_project.specs.declared.group.GroupEntry.{GroupEntry}
use Rattle.ul_project.specs.declared.group.GroupEntry.TheVariants.{Needs}
use Rattle.ul_project.specs.declared.path.ProjectKey.TheVariants.{DevDependencies}

-- `dev` is a name in its normal form
dev_named : name_of (codes "dev") ≡ Some dev
unfolding is_name normal_form name_of
dev_named = refl

-- and no other name is read of it
pub dev_read : (name : List ℕ) → name_of (codes "dev") ≡ Some name → name ≡ dev
dev_read name e = let same : Some dev ≡ Some name = sym dev_named ∙ e in cc

module _ {L : Type 0} (one other : L) where
  put_over : (lists : List (Named L)) → insert_entry name_cmp (insert_entry name_cmp lists dev one) dev other ≡ insert_entry name_cmp lists dev other
  put_over [] = refl
  put_over (list ∷ lists) = by (name_cmp dev list.0) refl (put_over lists)
    where
      by : (o : Ordering) → name_cmp dev list.0 ≡ o
          → insert_entry name_cmp (insert_entry name_cmp lists dev one) dev other ≡ insert_entry name_cmp lists dev other
          → insert_entry name_cmp (insert_entry name_cmp (list ∷ lists) dev one) dev other ≡ insert_entry name_cmp (list ∷ lists) dev other
      by Less e rest = rw e refl
      by Equal e rest = rw e (rw e refl)
      by Greater e rest = rw e (rw e (ap (λ ls. list ∷ ls) rest))

  -- a list that is put in the place of one that was put there
  pub put_twice : (lists after : List (Named L)) → after ≡ put_list lists (dev, one) → put_list after (dev, other) ≡ put_list lists (dev, other)
  put_twice lists after e = ap (λ ls. put_list ls (dev, other)) e ∙ put_over lists

-- ---- where there are requirements, or values

dev_some : (qs : List RequirementFields) (lists : List (Named (List GroupEntry))) → (length qs == 0) ≡ false
    → put_list lists (dev, entries_of dev lists ++ map Needs qs) ≡ with_dev qs lists
dev_some [] lists e = absurd (true≢false e)
dev_some (q ∷ qs) lists e = refl

-- entries that are put behind those that were taken out of the group
pub dev_added : (lists left after : List (Named (List GroupEntry))) (name : List ℕ) (entries : List GroupEntry) (qs : List RequirementFields)
    → left ≡ put_list lists (dev, []) → name ≡ dev → entries ≡ entries_of dev lists ++ map Needs qs → (length qs == 0) ≡ false
    → after ≡ insert_entry name_cmp left name entries → after ≡ with_dev qs lists
dev_added lists left after name entries qs taken named are some put =
    put ∙ ap (λ n. insert_entry name_cmp left n entries) named ∙ put_twice [] entries lists left taken
    ∙ ap (λ es. put_list lists (dev, es)) are ∙ dev_some qs lists some

module _ (extras : List (List ℕ)) where
  -- values beside an extra of the group's name
  pub allowed_taken : (vs : List Value) → (length vs == 0) ≡ false → has_name extras (group_extra dev) ≡ true
      → dev_allowed extras (items_list (items_view vs)) ≡ Err (shape (at_key DevDependencies))
  allowed_taken [] some e = absurd (true≢false some)
  allowed_taken (v ∷ vs) some e = rw e refl
