use Rattle.laws_commands.proofs.laws.lower_laws.Goals as goal

pub returns : goal.returns
returns c = record {
  projects = c.one_project.ensures;
  turns = c.turns_agree.ensures;
  locks = c.text_laws.ensures.different;
  lock_faults = c.lock_faults.ensures;
  proofs = c.one_text.ensures;
  proof_faults = c.one_fault.ensures;
  forks = c.fork_laws.ensures;
  merges = c.merge_laws.ensures;
  rows = c.row_promises.ensures;
  cores = c.core_laws.ensures.one;
  problems = c.equal_problems.ensures;
  first_bad = c.faults.ensures.one;
  none_bad = c.faults.ensures.refused;
}
