pub mod ReadInput
pub mod ListInput
