pub mod FirmBytes
pub mod FirmCall
pub mod FirmEdges
pub mod FirmExample
pub mod FirmRead
pub mod FirmState
pub mod FirmTexts
