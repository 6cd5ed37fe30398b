use Rattle.std.proofs.Common.{◌≡◌, rules, string_bytes}
use Rattle.ul_project.proofs.ExtraMarkers.{marker_valid}
use Rattle.ul_project.proofs.extras.extra_marker.Goals as goal

pub returns-clause-valid : goal.returns-clause-valid
returns-clause-valid c =
    let e : string_bytes c.in_ok-literal.literal ≡ c.args.name.now = search rules in
    marker_valid c.args.name.now c.in_ok-literal.literal c.text.ensures.normal e
