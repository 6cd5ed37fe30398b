pub mod ForCallers
mod JsonReading
mod EachRead
mod FileOrder
mod FilesRead
mod Packages
mod Values
mod Faults
mod EntryParts
mod UsableReleases
mod Ordered
mod Orders
mod Rising
mod Passing
mod Serving
mod Inserted
mod OrderedPlaces
mod Finding
mod Prereleases
mod DirectPlaces
mod NamePlaces
mod ReleaseExamples
mod DocumentExamples
mod DocumentFacts
pub mod Sharing
