mod Firsts
mod Releases
mod Best
mod Parting
mod Origins
mod Cores
mod Outcomes
