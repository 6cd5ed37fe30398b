use Rattle.ul_sound.proofs.Once.{merged_once}
use Rattle.ul_sound.proofs.Soundness.{merges_sound, has_catalog_texts}
use Rattle.ul_sound.proofs.WellFormed.{merged_well_formed}
use Rattle.ul_sound.proofs.laws.merge_laws.Goals as goal

pub returns : goal.returns
returns c = record {
  sound = merges_sound c.eligible_same.ensures;
  texts = has_catalog_texts;
  once = merged_once;
  well_formed = merged_well_formed c.eligible_same.ensures;
}
