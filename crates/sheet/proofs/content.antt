-- What the lines of an accepted sheet say by content: values, types, trees, request and entities, ancestors, policies.
pub mod Ancestors
pub mod EnvFit
pub mod Environment
pub mod FitsSound
pub mod Fitting
pub mod Linked
pub mod NodeTyped
pub mod OnTerm
pub mod OwnPolicies
pub mod PathSteps
pub mod PoliciesRead
pub mod Reaching
pub mod SheetSmall
pub mod TypeNumbers
pub mod ValueRows
