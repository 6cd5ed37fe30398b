use Rattle.ul_generations.proofs.Once.{answer_once}
use Rattle.ul_generations.proofs.Endings.{few_generations, forks_end}
use Rattle.ul_generations.proofs.Reached.{leaves_are_done, leaves_part, refused_is_refused}
use Rattle.ul_generations.proofs.PathOrder.{leaves_in_order}
use Rattle.ul_generations.proofs.laws.fork_promises.Goals as goal

pub returns : goal.returns
returns g c = let may = g.J.Judge.may c.args.judge.now in let outcome = g.J.Judge.outcome c.args.judge.now in record {
  once = answer_once outcome;
  end = forks_end may outcome;
  few = few_generations outcome;
  done = leaves_are_done outcome;
  part = leaves_part outcome;
  order = leaves_in_order outcome;
  refusal = refused_is_refused outcome;
}
