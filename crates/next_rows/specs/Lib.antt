pub mod Around
pub mod UsedBelow
