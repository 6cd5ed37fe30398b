use Rattle.laws_given.proofs.GivenTexts.{given_has_texts as law}
use Rattle.laws_given.proofs.laws.given_has_texts.Goals as goal

pub returns : goal.returns
returns c =
    law (record {
      files = c.files_are_texts.ensures;
      expanded = c.expanded_are_texts.ensures;
      catalogs = c.catalogs_are_texts.ensures;
      adjusted = c.adjusted_are_texts.ensures;
      had = c.texts_are_had.ensures;
    })
