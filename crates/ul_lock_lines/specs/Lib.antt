pub mod Raw
pub mod Text
pub mod LineReading
pub mod Faults
