use Rattle.ul_load.proofs.loading.load_project.Goals as goal

pub returns : goal.returns
returns g c = record {
  answer = c.load_all.ensures.told;
  once = c.load_all.ensures.once;
  same = c.load_all.ensures.same;
  grown = c.load_all.ensures.grown;
  cause = c.load_all.ensures.cause;
  catalog = c.load_all.ensures.catalog;
  first = c.load_all.ensures.first;
}
