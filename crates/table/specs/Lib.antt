pub mod Fields
pub mod Table
pub mod Layout
pub mod Index
pub mod Roles
pub mod Form
pub mod Bounds
