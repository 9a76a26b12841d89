pub mod LawsTable
pub mod LawsItem
pub mod LawsItems
pub mod LawsTag
pub mod LawsRow
pub mod LawsValue
pub mod LawsLine
pub mod Known
