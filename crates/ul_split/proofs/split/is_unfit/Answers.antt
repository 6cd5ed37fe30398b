use Rattle.ul_split.proofs.split.is_unfit.Goals as goal

pub is_fit_throughout-requires : goal.is_fit_throughout-requires
is_fit_throughout-requires c = record { place = c.requires.place; row = c.requires.one }

pub returns : goal.returns
returns c = c.is_fit_throughout.ensures.fails
