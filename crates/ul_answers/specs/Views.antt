-- What the answers and outputs of the code stand for.
use Rattle.std.specs.Prelude.{string_bytes}
use Rattle.ul_answers.specs.Answer as answer
use Rattle.ul_answers.specs.Printed.{Output as Printed}
use Rattle.ul_answers.specs.declared.answer.Answer.{Answer}
use Rattle.ul_answers.specs.declared.answer.Answer.TheVariants.{Usage, Locked, Counted, Unwritten, Untold, NoSelection, Derived, NoneRefused, Environment, Exported, Canonical, Outside, NoExtra, Accepted, Rejected, Verified, RejectedRoot, RejectedSupported, RejectedPackage}
use Rattle.ul_answers.specs.declared.outputs.Output.{Output}

-- an answer
abbrev pub view : Answer → answer.Answer
view Usage = answer.usage
view (Locked l forks) = answer.locked l forks
view (Counted l forks) = answer.counted l forks
view Unwritten = answer.unwritten
view Untold = answer.untold
view (NoSelection path region core) = answer.no_selection path.items region core.items
view (Derived path region steps) = answer.derived path.items region steps.items
view NoneRefused = answer.none_refused
view (Environment text) = answer.environment text.items
view (Exported rows) = answer.exported rows.items
view (Canonical text) = answer.canonical text.items
view Outside = answer.outside
view (NoExtra name) = answer.no_extra (string_bytes name)
view Accepted = answer.accepted
view (Rejected step) = answer.rejected step
view Verified = answer.verified
view RejectedRoot = answer.rejected_root
view RejectedSupported = answer.rejected_supported
view (RejectedPackage name version) = answer.rejected_package name version

-- a status and a text
abbrev pub output_view : Output → Printed
output_view o = (o.status, o.text.items)
