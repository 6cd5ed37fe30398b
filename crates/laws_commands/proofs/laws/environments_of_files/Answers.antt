use Rattle.laws_commands.proofs.LockFiles.{environments_of_files as law}
use Rattle.laws_commands.proofs.laws.environments_of_files.Goals as goal

pub returns : goal.returns
returns c = law (record {
  lists = c.environments_of_locks.ensures;
  resolution = c.given_is_resolution.ensures.resolution;
  had = c.given_has_texts.ensures;
  formed = c.given_are_well_formed.ensures;
  projects = c.one_project.ensures;
  turns = c.turns_agree.ensures;
  locks = c.text_laws.ensures.different;
  texts = c.text_laws.ensures.locks_text;
  printable = c.locks_are_sound.ensures.printable;
  lock_faults = c.lock_faults.ensures;
})
