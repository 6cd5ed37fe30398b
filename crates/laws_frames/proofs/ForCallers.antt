-- The lemmas that crates above may cite.

-- an input depends on what it reads alone, where it reads nothing, one file, or one thing after another
pub use Rattle.laws_frames.proofs.Inputs.{by_present, by_values, goes_on}
