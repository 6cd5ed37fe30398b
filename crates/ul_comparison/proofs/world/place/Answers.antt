use Rattle.std.proofs.Common.{◌≡◌, ◌∙◌, arith, ap, false, get_or, None, sym, true}
use Rattle.std.specs.Ordering.{is_eq}
use Rattle.ul_comparison.specs.Atoms.{AtomFields, atom_cmp}
use Rattle.ul_comparison.proofs.AtomOrder.{absent, there}
use Rattle.ul_comparison.proofs.world.place.Goals as goal

pub returns-then-at-atoms-clause-has : goal.returns-then-at-atoms-clause-has
returns-then-at-atoms-clause-has c =
    sym (absent c.args.atom.now None c.args.atoms.now c.count_before-at.result c.args.atom.now c.requires c.count_before-at.ensures.place c.count_before-at.ensures.fits (λ h. absurd (omega arith))).0

pub returns-then-at-atoms-clause-absent : goal.returns-then-at-atoms-clause-absent
returns-then-at-atoms-clause-absent c =
    (absent c.args.atom.now None c.args.atoms.now c.count_before-at.result c.args.atom.now c.requires c.count_before-at.ensures.place c.count_before-at.ensures.fits (λ h. absurd (omega arith))).1

pub returns-then-is_eq-clause-has : goal.returns-then-is_eq-clause-has
returns-then-is_eq-clause-has c =
    let same : is_eq (atom_cmp (get_or c.args.atoms.now c.count_before-at.result c.index-atoms-at.result) c.args.atom.now) ≡ true =
    ap (λ (b : AtomFields). is_eq (atom_cmp b c.args.atom.now)) (sym c.index-atoms-at.is) ∙ ap is_eq (sym c.cmp.ensures) ∙ sym c.is_eq.ensures ∙ c.if-is_eq.true in
    sym (there c.args.atom.now None c.args.atoms.now c.count_before-at.result c.index-atoms-at.result c.requires c.count_before-at.ensures.place c.if-at-atoms.false same).0

pub returns-then-is_eq-clause-there : goal.returns-then-is_eq-clause-there
returns-then-is_eq-clause-there c =
    let same : is_eq (atom_cmp (get_or c.args.atoms.now c.count_before-at.result c.index-atoms-at.result) c.args.atom.now) ≡ true =
    ap (λ (b : AtomFields). is_eq (atom_cmp b c.args.atom.now)) (sym c.index-atoms-at.is) ∙ ap is_eq (sym c.cmp.ensures) ∙ sym c.is_eq.ensures ∙ c.if-is_eq.true in
    (there c.args.atom.now None c.args.atoms.now c.count_before-at.result c.index-atoms-at.result c.requires c.count_before-at.ensures.place c.if-at-atoms.false same).1

pub returns-clause-has : goal.returns-clause-has
returns-clause-has c =
    let other : is_eq (atom_cmp (get_or c.args.atoms.now c.count_before-at.result c.index-atoms-at.result) c.args.atom.now) ≡ false =
    ap (λ (b : AtomFields). is_eq (atom_cmp b c.args.atom.now)) (sym c.index-atoms-at.is) ∙ ap is_eq (sym c.cmp.ensures) ∙ sym c.is_eq.ensures ∙ c.if-is_eq.false in
    sym (absent c.args.atom.now None c.args.atoms.now c.count_before-at.result c.index-atoms-at.result c.requires c.count_before-at.ensures.place c.count_before-at.ensures.fits (λ h. other)).0

pub returns-clause-absent : goal.returns-clause-absent
returns-clause-absent c =
    let other : is_eq (atom_cmp (get_or c.args.atoms.now c.count_before-at.result c.index-atoms-at.result) c.args.atom.now) ≡ false =
    ap (λ (b : AtomFields). is_eq (atom_cmp b c.args.atom.now)) (sym c.index-atoms-at.is) ∙ ap is_eq (sym c.cmp.ensures) ∙ sym c.is_eq.ensures ∙ c.if-is_eq.false in
    (absent c.args.atom.now None c.args.atoms.now c.count_before-at.result c.index-atoms-at.result c.requires c.count_before-at.ensures.place c.count_before-at.ensures.fits (λ h. other)).1
