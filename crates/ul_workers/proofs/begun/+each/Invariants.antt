use Rattle.std.proofs.Common.{◌+◌, ◌*◌, length}
use Rattle.ul_workers.proofs.begun.+each.Given as goal

abbrev pub decreases-both_from : goal.decreases-both_from
decreases-both_from g l = 3 * length l.others.now + 2

abbrev pub decreases-each_from : goal.decreases-each_from
decreases-each_from g l = 3 * length l.list.now

abbrev pub decreases-both_from-back : goal.decreases-both_from-back
decreases-both_from-back g l = 3 * length l.others.now + 1
