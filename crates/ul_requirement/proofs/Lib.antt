mod Cutting
mod Runs
mod Names
mod Faults
mod Spelled
mod Examples
mod NamedExtras
