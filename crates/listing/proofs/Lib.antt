pub mod Printing
pub mod Made
pub mod Wording
pub mod NodeLines
pub mod TreeRows
pub mod LogTrees
pub mod Lengths
pub mod Cases
