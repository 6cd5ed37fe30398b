-- What was gathered for a place goes into its reach.
use Rattle.std.proofs.Common.{◌≡◌, ◌⊎◌, ◌<◌, ◌||◌, ℕ, List, [], length, true, Some, None, refl, sym, ap, ◌∙◌, subst, inl, inr, ⊎_elim}
use Rattle.std.specs.Prelude.{All}
use Rattle.std.specs.List.{slice_get}
use Rattle.std.proofs.Math.ListN.{set}
use Rattle.std.proofs.lemmas.List.{length-set, map-set}
use Rattle.std.proofs.lemmas.List.Elements.{All-set}
use Rattle.std.proofs.lemmas.Option.{slice_get_within}
use Rattle.ul_base.proofs.ForCallers.{long_map}
use Rattle.ul_interner.specs.Known.{Knows}
use Rattle.ul_comparison.specs.Worlds.{WorldFields, IsWorld}
use Rattle.ul_algebra.specs.Truths.{HaveOneTruth}
use Rattle.ul_lock_nodes.specs.Flags.{is_flagged}
use Rattle.ul_region.specs.Truths.{DiagramMark, IsRegion, IsTruth, PassView, region_at}
use Rattle.ul_region.specs.Unions.{some_holds}
use Rattle.ul_region.proofs.ForCallers.{is_region}
use Rattle.ul_reach.specs.Reaching.{AreParts, IsJoined, IsKnownAt, IsReachedAt, IsTaken, Parts, flags_at}
use Rattle.ul_reach.specs.Rounds.{GrowsBy, IsPlaceStable}
use Rattle.ul_reach.specs.declared.reaching.Reaching.{Reaching}
use Rattle.ul_reach.proofs.Flagged.{at_flag, at_parts, flag_cases, flag_here, flag_kept, or_left, or_right, or_same, or_true}
use Rattle.ul_reach.proofs.Gathering.{parts_still, regions_still, taken_kept, taken_left, taken_long, taken_only, taken_parts}

-- the union with parts, where these have their own
pub with_parts : (g h : PassView) (d reach more : DiagramMark) (ps : List DiagramMark) → IsTruth g more (some_holds ps) → IsTruth h d (λ w. region_at reach w || region_at more w)
    → IsTruth h d (λ w. region_at reach w || some_holds ps w)
with_parts g h d reach more ps m t = record {
  diagram = t.diagram;
  truth = record { reduced = t.truth.reduced; truth = λ w x is. t.truth.truth w x is ∙ ap (λ b. region_at reach w || b) (m.truth.truth w [] is) };
}

module _ (g h : PassView) (place : ℕ) (old wider : DiagramMark) (parts : Parts) (a b : Reaching) (more : Knows g h) (regions : All (IsRegion g) a.reach.items) (gathered : AreParts g a.gathered.items)
    (at : slice_get a.reach.items place ≡ Some old) (t : IsTaken place parts a.gathered.items b.gathered.items) (joined : IsTruth h wider (λ w. region_at old w || some_holds parts.items w)) where
  holds : (w : WorldFields) → IsWorld w → region_at wider w ≡ (region_at old w || some_holds parts.items w)
  holds w is = joined.truth.truth w [] is

  by_parts : (w : WorldFields) → IsWorld w → some_holds parts.items w ≡ true → region_at wider w ≡ true
  by_parts w is e = holds w is ∙ or_right (region_at old w) (some_holds parts.items w) e

  by_old : (w : WorldFields) → IsWorld w → IsReachedAt a w place → region_at wider w ≡ true
  by_old w is e = holds w is ∙ or_left (region_at old w) (some_holds parts.items w) (sym (at_flag a.reach.items place old w at) ∙ e)

  by_known : (w : WorldFields) → IsWorld w → IsKnownAt a w place → region_at wider w ≡ true
  by_known w is known = ⊎_elim (by_old w is) (λ e. by_parts w is (sym (at_parts a.gathered.items place parts w t.at) ∙ e)) known

  -- where it was reached there already
  unchanged : b.reach.items ≡ a.reach.items → (w : WorldFields) (k : ℕ) → IsReachedAt a w k → IsReachedAt b w k
  unchanged same w k e = subst (λ (ms : List DiagramMark). is_flagged (flags_at ms w) k ≡ true) (sym same) e

  level : HaveOneTruth wider old → (w : WorldFields) → IsWorld w → region_at wider w ≡ true → IsReachedAt a w place
  level one w is e = at_flag a.reach.items place old w at ∙ (sym (one w [] is (inl refl)) ∙ e)

  pub joined_same : b.reach.items ≡ a.reach.items → HaveOneTruth wider old → IsJoined h place None a b
  joined_same same one = record {
    long = ap length same;
    size = taken_long place parts a.gathered.items b.gathered.items t;
    regions = subst (All (IsRegion h)) (sym same) (regions_still g h a.reach.items more regions);
    parts = taken_parts place parts a.gathered.items b.gathered.items t h (parts_still g h a.gathered.items more gathered);
    region = tt;
    keeps = λ w k is known. ⊎_elim (λ e. inl (unchanged same w k e)) (λ e. ⊎_elim inr (λ q. inl (subst (IsReachedAt b w) (sym q.0) (unchanged same w place (level one w is (by_parts w is q.1))))) (taken_kept place parts a.gathered.items b.gathered.items t w k e)) known;
    only = λ w k is known. ⊎_elim (λ e. inl (to_a w k e)) (λ e. inr (taken_only place parts a.gathered.items b.gathered.items t w k e)) known;
    grows = λ w k is e. inl (to_a w k e);
    reached = λ w k is z. absurd z;
  }
    where
      to_a : (w : WorldFields) (k : ℕ) → IsReachedAt b w k → IsReachedAt a w k
      to_a w k e = subst (λ (ms : List DiagramMark). is_flagged (flags_at ms w) k ≡ true) same e

  pub grows_same : b.reach.items ≡ a.reach.items → HaveOneTruth wider old → GrowsBy place None a b
  grows_same same one = record {
    stays = λ w k is e. unchanged same w k e;
    taken = λ w is known. unchanged same w place (level one w is (by_known w is known));
    none = λ stable. refl;
    left = taken_left place parts a.gathered.items b.gathered.items t;
  }

  -- where it is reached in more worlds
  flags_are : b.reach.items ≡ set a.reach.items place wider → (w : WorldFields) → flags_at b.reach.items w ≡ set (flags_at a.reach.items w) place (region_at wider w)
  flags_are put w = ap (λ (ms : List DiagramMark). flags_at ms w) put ∙ map-set (λ (m : DiagramMark). region_at m w) a.reach.items place wider

  here : b.reach.items ≡ set a.reach.items place wider → (w : WorldFields) → region_at wider w ≡ true → IsReachedAt b w place
  here put w e = ap (λ fs. is_flagged fs place) (flags_are put w)
      ∙ (flag_here (flags_at a.reach.items w) place (region_at wider w) (subst (λ n. place < n) (sym (long_map (λ (m : DiagramMark). region_at m w) a.reach.items)) (slice_get_within a.reach.items place old at)) ∙ e)

  kept : b.reach.items ≡ set a.reach.items place wider → (w : WorldFields) (k : ℕ) → IsWorld w → IsReachedAt a w k → IsReachedAt b w k
  kept put w k is e = ⊎_elim (λ f. ap (λ fs. is_flagged fs k) (flags_are put w) ∙ f) (λ q. subst (IsReachedAt b w) (sym q) (here put w (by_old w is (subst (IsReachedAt a w) q e))))
      (flag_kept (flags_at a.reach.items w) place k (region_at wider w) e)

  pub joined_wider : b.reach.items ≡ set a.reach.items place wider → IsJoined h place (Some wider) a b
  joined_wider put = record {
    long = ap length put ∙ length-set a.reach.items place wider;
    size = taken_long place parts a.gathered.items b.gathered.items t;
    regions = subst (All (IsRegion h)) (sym put) (All-set (IsRegion h) a.reach.items place wider region (regions_still g h a.reach.items more regions));
    parts = taken_parts place parts a.gathered.items b.gathered.items t h (parts_still g h a.gathered.items more gathered);
    region = region;
    keeps = λ w k is known. ⊎_elim (λ e. inl (kept put w k is e)) (λ e. ⊎_elim inr (λ q. inl (subst (IsReachedAt b w) (sym q.0) (here put w (by_parts w is q.1)))) (taken_kept place parts a.gathered.items b.gathered.items t w k e)) known;
    only = λ w k is known. ⊎_elim (λ e. ⊎_elim inl (λ q. subst (IsKnownAt a w) (sym q.0) (knew w is q.1)) (cases w k e)) (λ e. inr (taken_only place parts a.gathered.items b.gathered.items t w k e)) known;
    grows = λ w k is e. cases w k e;
    reached = λ w k is q. subst (IsReachedAt b w) (sym q.0) (here put w q.1);
  }
    where
      region : IsRegion h wider
      region = is_region h wider (λ w. region_at old w || some_holds parts.items w) joined

      cases : (w : WorldFields) (k : ℕ) → IsReachedAt b w k → IsReachedAt a w k ⊎ ((k ≡ place) × (region_at wider w ≡ true))
      cases w k e = flag_cases (flags_at a.reach.items w) place k (region_at wider w) (sym (ap (λ fs. is_flagged fs k) (flags_are put w)) ∙ e)

      knew : (w : WorldFields) → IsWorld w → region_at wider w ≡ true → IsKnownAt a w place
      knew w is e = ⊎_elim (λ o. inl (at_flag a.reach.items place old w at ∙ o)) (λ n. inr (at_parts a.gathered.items place parts w t.at ∙ n))
          (or_true (region_at old w) (some_holds parts.items w) (sym (holds w is) ∙ e))

  pub grows_wider : IsRegion g old → (HaveOneTruth wider old → ⊥) → b.reach.items ≡ set a.reach.items place wider → GrowsBy place (Some wider) a b
  grows_wider region differs put = record {
    stays = λ w k is e. kept put w k is e;
    taken = λ w is known. here put w (by_known w is known);
    none = λ stable. absurd (differs (λ w x is ok. joined.truth.truth w x is ∙ (same w is stable ∙ sym (region.truth.truth w x is))));
    left = taken_left place parts a.gathered.items b.gathered.items t;
  }
    where
      same : (w : WorldFields) → IsWorld w → ((w : WorldFields) → IsWorld w → IsPlaceStable a w place) → (region_at old w || some_holds parts.items w) ≡ region_at old w
      same w is stable = or_same (region_at old w) (some_holds parts.items w)
          (λ e. sym (at_flag a.reach.items place old w at) ∙ stable w is (inr (at_parts a.gathered.items place parts w t.at ∙ e)))
