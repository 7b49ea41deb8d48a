-- The set of enabled threads.
pub mod Laws
