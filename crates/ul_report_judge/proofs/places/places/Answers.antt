use Rattle.std.proofs.Common.{◌<◌, arith, length, refl, sym, ◌∙◌}
use Rattle.std.proofs.lemmas.Grind.{common_steps}
use Rattle.ul_report_judge.specs.Names.{place_of_version, places_of_names}
use Rattle.ul_report_judge.proofs.Looked.{next_made, none_made, one_more_below, place_below}
use Rattle.ul_report_judge.proofs.places.places.Goals as goal

pub loop-version-preserved : goal.loop-version-preserved
loop-version-preserved c = record {
  found = rw c.in_ok-push-in-Some.ensures.items (next_made (place_of_version c.args.versions.now) (places_of_names c.args.versions.now) (λ x xs. refl) c.loop-version.places.items c.args.named.now c.loop-version.version-index c.version-item.result c.in-Some.place
      (grind (arith, common_steps)) c.version-item.is (sym c.place_of_version.ensures ∙ c.in-Some.is) c.loop-version.invariant.found);
  below = rw c.in_ok-push-in-Some.ensures.items (one_more_below c.loop-version.places.items c.in-Some.place (length c.args.versions.now) c.loop-version.invariant.below (place_below c.args.versions.now c.version-item.result c.in-Some.place (sym c.place_of_version.ensures ∙ c.in-Some.is)));
}

pub returns-in-None : goal.returns-in-None
returns-in-None c = record {
  value = none_made (place_of_version c.args.versions.now) (places_of_names c.args.versions.now) (λ x xs. refl) c.loop-version.places.items c.args.named.now c.loop-version.version-index c.version-item.result
      (grind (arith, common_steps)) c.version-item.is (sym c.place_of_version.ensures ∙ c.in-None.is) c.loop-version.invariant.found;
  below = tt;
}

pub overflow_cast-place : goal.overflow_cast-place
overflow_cast-place c =
    let below : c.in-Some.place < length c.args.versions.now = place_below c.args.versions.now c.version-item.result c.in-Some.place (sym c.place_of_version.ensures ∙ c.in-Some.is) in
    omega (arith, below, c.requires.size)
