use Rattle.ul_gen.proofs.Written.{entry_put}
use Rattle.ul_gen.proofs.documents.put_entry.Goals as goal

pub returns : goal.returns
returns c =
    entry_put _ _ _ _ _ _ c.args.seed c.args.size c.args.k c.args.version
    c.in_ok-push_str.ensures.bytes c.in_ok-put_number.ensures c.in_ok-push_str-2.ensures.bytes c.in_ok-put_needs.ensures c.in_ok-push_str-3.ensures.bytes
