use Rattle.ul_gen.proofs.Written.{entries_put}
use Rattle.ul_gen.proofs.documents.put_entries.Goals as goal

pub returns : goal.returns
returns c =
    entries_put _ _ _ _ _ _ _ _ c.args.seed c.args.size c.args.k
    c.in_ok-put_entry.ensures c.in_ok-push_str.ensures.bytes c.in_ok-put_entry-2.ensures c.in_ok-push_str-2.ensures.bytes c.in_ok-put_entry-3.ensures c.in_ok-push_str-3.ensures.bytes c.in_ok-put_entry-4.ensures
