use Rattle.std.proofs.Common.{◌≡◌, List, None, rules, subst, sym}
use Rattle.std.specs.Prelude.{All}
use Rattle.ul_comparison.specs.Atoms.{AtomFields, IsAtom}
use Rattle.ul_comparison.specs.Machines.{put_atom}
use Rattle.ul_comparison.specs.Worlds.{Rise}
use Rattle.ul_comparison.proofs.Placed.{put_atoms, put_rises}
use Rattle.ul_comparison.proofs.world.put_atom.Goals as goal

put_there : (c : goal.In_ok-insert) → c.insert.new.self.items ≡ put_atom c.args.atom.now c.args.atoms.now.items
put_there c = search rules

pub returns-in_ok-insert-clause-rising : goal.returns-in_ok-insert-clause-rising
returns-in_ok-insert-clause-rising c =
    subst (λ (ts : List AtomFields). Rise None ts) (sym (put_there c)) (put_rises c.args.atom.now None c.args.atoms.now.items tt c.requires.rising)

pub returns-in_ok-insert-clause-atoms : goal.returns-in_ok-insert-clause-atoms
returns-in_ok-insert-clause-atoms c =
    let one : IsAtom c.args.atom.now = rw (← c.atom.view_is) c.atom.invariant in
    subst (λ (ts : List AtomFields). All IsAtom ts) (sym (put_there c)) (put_atoms c.args.atom.now c.args.atoms.now.items one c.requires.atoms)
