use Rattle.ul_marker.proofs.Tokens.{run-all}
use Rattle.ul_marker.specs.Words.{is_quoted}
use Rattle.ul_marker.proofs.words.front_literal.Goals as goal

pub literal_text-requires-clause-bytes : goal.literal_text-requires-clause-bytes
literal_text-requires-clause-bytes c = rw c.run_len-n.ensures.length (run-all (is_quoted c.args.quote) c.args.input.now)
