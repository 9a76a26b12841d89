-- What a reading says of the lines of a sheet: rows, references, limits, depths, refusals in number order.
pub mod Checked
pub mod Depths
pub mod EntitiesEnd
pub mod EntityOrder
pub mod KnownLines
pub mod Limits
pub mod LinePlaces
pub mod Lines
pub mod NodeRows
pub mod Parsed
pub mod Refusals
pub mod RowTests
pub mod Shallow
pub mod Slots
pub mod Under
