use Rattle.std.proofs.lemmas.Result.{IfOk-weaker}
use Rattle.ul_index.proofs.FileOrder.{files_rise}
use Rattle.ul_index.proofs.file_set.FileSet.into_list.Goals as goal

pub returns-clause-rises : goal.returns-clause-rises
returns-clause-rises c =
    IfOk-weaker c.listed.result _ _ (λ files are. rw are (files_rise c.args.self.keys.keys c.len-size.ensures.ordered)) c.listed.ensures
