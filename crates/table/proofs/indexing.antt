-- What the proofs of `table::indexing` use.
pub mod Laying
