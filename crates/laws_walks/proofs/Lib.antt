mod Sources
mod Walked
mod Reaches
mod Lists
mod Picked
mod Rows
mod Few
