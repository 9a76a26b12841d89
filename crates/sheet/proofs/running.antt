-- What a run makes and leaves: made values and their words, uses, what is left of a tree, error analysis, the decision and the name.
pub mod CanErr
pub mod CompleteRun
pub mod Counts
pub mod LeftOver
pub mod MadeCount
pub mod MadeWords
pub mod NeverNine
pub mod Uses
pub mod WhyLaws
pub mod WhyNamed
