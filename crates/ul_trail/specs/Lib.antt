-- In reading order. What a trail is, and what its calls promise:
pub mod Headline
pub mod Laws
pub mod Track
pub mod Facts
pub mod Propagation
pub mod Moves
pub mod Certain
pub mod Watched
pub mod First
pub mod Counts
-- What the code keeps, and what its loops find:
pub mod HeldSteps
pub mod Standing
pub mod Findings
pub mod Kept
pub mod Parts
pub mod Roots
