use Rattle.std.proofs.Common.{◌∙◌, ap, map}
use Rattle.ul_index.proofs.ForCallers.{insert_mapped}
use Rattle.ul_comparison.specs.Atoms.{atom_cmp}
use Rattle.ul_load.specs.declared.comparisons.Key.{Key}
use Rattle.ul_load.proofs.comparisons.Comparisons.insert.Goals as goal

pub returns : goal.returns
returns c =
    ap (map (λ k. k.atom)) c.in_ok-_added.ensures.keys
    ∙ insert_mapped (λ (k : Key). k.atom) atom_cmp c.args.self.now.keys.keys (record { atom = c.args.atom })
