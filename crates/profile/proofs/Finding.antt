-- How the code finds bounds.
pub mod Bounds
