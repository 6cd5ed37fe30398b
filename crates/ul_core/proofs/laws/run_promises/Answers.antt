use Rattle.ul_core.proofs.RunsLaw.{each_run_is_sound, each_tree_stays, each_log_is_what_was_taken, each_number_is_drawn_once, each_run_has_one_end}
use Rattle.ul_core.proofs.laws.run_promises.Goals as goal

pub returns : goal.returns
returns g c = let f = g.L.Label.hash_of in record {
  sound = each_run_is_sound f;
  stays = each_tree_stays f;
  logs = each_log_is_what_was_taken f;
  numbers = each_number_is_drawn_once f;
  one_end = each_run_has_one_end f;
}
