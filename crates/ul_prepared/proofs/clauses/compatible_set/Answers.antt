use Rattle.std.proofs.Common.{◌≡◌, ◌-◌, ℕ, ap, length, map, rules, sym, ◌∙◌}
use Rattle.std.proofs.lemmas.List.{length-map}
use Rattle.std.proofs.lemmas.Result.{IfOk-weaker}
use Rattle.ul_base.proofs.ForCallers.{made_holds}
use Rattle.ul_ranges.specs.Flags.{both}
use Rattle.ul_prepared.specs.Clauses.{IsMadeWith, equals_by, is_compatible_with, is_from}
use Rattle.ul_prepared.specs.declared.parts.Part.TheVariants.{Prefix}
use Rattle.ul_prepared.proofs.ClauseSets.{combined, compatible_is}
use Rattle.ul_prepared.proofs.clauses.compatible_set.Goals as goal

pub combined_set-requires : goal.combined_set-requires
combined_set-requires c =
    let equals = equals_by (Prefix c.saturating_sub-count.result) c.args.version.now in
    IfOk-weaker c.equal_set-series.result (λ s. s ≡ map equals c.args.versions.now) (λ s. length c.in_ok-set.set ≡ length s)
    (λ s e. ap length c.in_ok-set.ensures ∙ length-map c.args.versions.now (is_from c.args.version.now) ∙ sym (ap length e ∙ length-map c.args.versions.now equals)) c.equal_set-series.ensures

pub returns : goal.returns
returns c =
    let len : c.len.result ≡ length c.args.version.now.release = search rules in
    let count : c.saturating_sub-count.result ≡ length c.args.version.now.release - 1 =
    c.saturating_sub-count.ensures ∙ ap (λ (n : ℕ). n - 1) len in
    let equals = equals_by (Prefix c.saturating_sub-count.result) c.args.version.now in
    IfOk-weaker c.combined_set.result (IsMadeWith both c.in_ok-set.set c.equal_set-series.result) (λ s. s ≡ map (is_compatible_with c.args.version.now) c.args.versions.now)
    (λ s h. combined both _ _ _ _ _ h.2 c.in_ok-set.ensures (made_holds c.equal_set-series.result h.0 (λ z. z ≡ map equals c.args.versions.now) h.1 c.equal_set-series.ensures)
    ∙ ap (λ (n : ℕ). both (map (is_from c.args.version.now) c.args.versions.now) (map (equals_by (Prefix n) c.args.version.now) c.args.versions.now)) count
    ∙ compatible_is c.args.version.now c.args.versions.now) c.combined_set.ensures
