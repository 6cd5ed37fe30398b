use Rattle.std.proofs.Common.{◌<◌, ◌^◌, ℕ, length, map, sym, ap, subst, List, ◌∙◌}
use Rattle.std.specs.Prelude.{All, slice_get}
use Rattle.ul_requirement.specs.Fields.{ReleaseFields, VersionsDiffer}
use Rattle.ul_index.specs.Eligible.{eligible, version_at}
use Rattle.ul_prepared.proofs.NameReleases.{chosen_versions, places_within, releases_are, lent_some, lent_versions, rises, few_releases}
use Rattle.ul_prepared.proofs.names.releases_of.Goals as goal

pub releases_at-requires : goal.releases_at-requires
releases_at-requires c = subst (All (λ (p : ℕ). p < length c.releases_of-own.result.now)) (sym c.as_slice.ensures.value)
    (places_within c.releases_of-own.result.now c.in_ok-places.places.items (eligible c.args.catalog.now c.args.name.now)
    (ap (λ (rs : List ReleaseFields). map (version_at rs) c.in_ok-places.places.items) c.releases_of-own.ensures.releases ∙ c.in_ok-places.ensures))

pub returns-clause-versions : goal.returns-clause-versions
returns-clause-versions c = lent_versions (λ r. r.now) c.in_ok-releases.releases.items ∙ chosen_versions c.releases_of-own.result.now (map (λ r. r.now) c.in_ok-releases.releases.items) c.in_ok-places.places.items (eligible c.args.catalog.now c.args.name.now)
    (sym (lent_some (λ r. r.now) c.in_ok-releases.releases.items) ∙ (c.in_ok-releases.ensures ∙ ap (map (slice_get c.releases_of-own.result.now)) c.as_slice.ensures.value))
    (ap (λ (rs : List ReleaseFields). map (version_at rs) c.in_ok-places.places.items) c.releases_of-own.ensures.releases ∙ c.in_ok-places.ensures)

pub returns-clause-releases : goal.returns-clause-releases
returns-clause-releases c = releases_are c.args.catalog.now c.args.name.now c.releases_of-own.result.now (map (λ r. r.now) c.in_ok-releases.releases.items) c.in_ok-places.places.items (eligible c.args.catalog.now c.args.name.now)
    c.releases_of-own.ensures.releases c.releases_of-own.ensures.differ (sym (lent_some (λ r. r.now) c.in_ok-releases.releases.items) ∙ (c.in_ok-releases.ensures ∙ ap (map (slice_get c.releases_of-own.result.now)) c.as_slice.ensures.value))
    (chosen_versions c.releases_of-own.result.now (map (λ r. r.now) c.in_ok-releases.releases.items) c.in_ok-places.places.items (eligible c.args.catalog.now c.args.name.now)
    (sym (lent_some (λ r. r.now) c.in_ok-releases.releases.items) ∙ (c.in_ok-releases.ensures ∙ ap (map (slice_get c.releases_of-own.result.now)) c.as_slice.ensures.value))
    (ap (λ (rs : List ReleaseFields). map (version_at rs) c.in_ok-places.places.items) c.releases_of-own.ensures.releases ∙ c.in_ok-places.ensures))

pub returns-clause-rising : goal.returns-clause-rising
returns-clause-rising c = rises (eligible c.args.catalog.now c.args.name.now) (c.eligible_rises.ensures c.args.catalog.now c.args.name.now (subst VersionsDiffer c.releases_of-own.ensures.releases c.releases_of-own.ensures.differ))

pub returns-clause-few : goal.returns-clause-few
returns-clause-few c = few_releases (λ r. r.now) c.args.catalog.now c.args.name.now c.in_ok-releases.releases.items (subst (λ (rs : List ReleaseFields). length rs < 2 ^ 32) c.releases_of-own.ensures.releases c.releases_of-own.ensures.few)
    (lent_versions (λ r. r.now) c.in_ok-releases.releases.items ∙ chosen_versions c.releases_of-own.result.now (map (λ r. r.now) c.in_ok-releases.releases.items) c.in_ok-places.places.items (eligible c.args.catalog.now c.args.name.now)
    (sym (lent_some (λ r. r.now) c.in_ok-releases.releases.items) ∙ (c.in_ok-releases.ensures ∙ ap (map (slice_get c.releases_of-own.result.now)) c.as_slice.ensures.value))
    (ap (λ (rs : List ReleaseFields). map (version_at rs) c.in_ok-places.places.items) c.releases_of-own.ensures.releases ∙ c.in_ok-places.ensures))
