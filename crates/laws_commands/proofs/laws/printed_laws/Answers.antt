use Rattle.laws_commands.proofs.laws.printed_laws.Goals as goal

pub returns : goal.returns
returns c = record {
  resolution = c.given_is_resolution.ensures.resolution;
  begins = c.given_is_resolution.ensures.begins;
  had = c.given_has_texts.ensures;
  leaves = c.locks_are_sound.ensures.leaves;
  formed = c.locks_are_well_formed.ensures;
  printable = c.locks_are_sound.ensures.printable;
  texts = c.text_laws.ensures.locks_text;
  verified = c.verified_laws.ensures;
}
