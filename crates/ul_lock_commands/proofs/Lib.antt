mod KnownWords
mod RowsGiven
