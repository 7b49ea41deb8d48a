-- The list of rights.
pub mod Entitled
