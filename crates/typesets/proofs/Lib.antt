pub mod FirstBit
pub mod Members
pub mod Unions
pub mod SlotLaws
