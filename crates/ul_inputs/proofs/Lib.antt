pub mod ForCallers
mod ProjectFaults
mod LockFaults
mod Usable
mod LoadFaults
mod FileReads
