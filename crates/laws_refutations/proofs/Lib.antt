mod Resolvents
mod Growing
mod Selections
mod Leaves
mod Refuting
mod Derivations
mod Deciding
mod Judging
