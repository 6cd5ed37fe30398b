use Rattle.ul_marker.proofs.Spelled.{reading_is_grammar, spelled_once}
use Rattle.ul_marker.proofs.Valid.{marker-formula}
use Rattle.ul_marker.proofs.laws.reading_is_grammar.Goals as goal

pub returns : goal.returns
returns c = record { grammar = reading_is_grammar; once = spelled_once; formula = marker-formula }
