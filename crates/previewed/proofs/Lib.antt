pub mod PreviewCall
pub mod PreviewDecision
pub mod PreviewEdges
pub mod PreviewExample
pub mod PreviewLines
pub mod PreviewRows
pub mod PreviewSheets
