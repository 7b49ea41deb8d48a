-- The marks.
pub mod Laws
