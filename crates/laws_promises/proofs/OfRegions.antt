-- Regions of what files give.
use Rattle.ul_tree.specs.Regions.{region_of}
use Rattle.ul_commands.specs.Questions.{question_of}
use Rattle.laws_existence.specs.Inputs.{GivenIsAskable}
use Rattle.laws_forks.specs.Exists.{BestWhereServed, ForkAnswerExists, OutcomeExists}
use Rattle.laws_promises.specs.Promises.{RegionsAreDecided}

-- a region that a tree stands for has that tree
pub regions_are_decided : GivenIsAskable → BestWhereServed → OutcomeExists → ForkAnswerExists → RegionsAreDecided
regions_are_decided askable best outcomes forks project folder old m r t gave is =
    let q = question_of r in
    let asked = askable project folder old m r gave in
    let o = outcomes q t asked is in
    record {
      best = best q (region_of t) asked (t, is);
      outcome = (o.0, o.1);
      forks = forks q t asked is;
    }
