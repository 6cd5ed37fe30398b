mod Firsts
pub mod Places
pub mod Works
