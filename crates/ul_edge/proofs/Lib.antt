mod GivenBytes
mod OpenedReads
