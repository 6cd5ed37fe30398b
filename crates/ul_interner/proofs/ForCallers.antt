-- What crates above may cite.
pub use Rattle.ul_interner.proofs.Grown.{plain_is, plain_with}
pub use Rattle.ul_interner.proofs.Knowing.{known_here, one_identity, known_part, stays, known_stays, knows_itself, knows_then, made_tree}
