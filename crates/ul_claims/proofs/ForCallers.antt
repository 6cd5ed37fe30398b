-- What crates above may cite.
pub use Rattle.ul_claims.proofs.Numbers.{length-rising, times_from_contains, contains_from_times}
pub use Rattle.ul_claims.proofs.Keeping.{one_seat_each}
