pub mod Texts
pub mod Naming
pub mod Laws
pub mod Examples
