pub mod CollectionKeeps
pub mod Linked
pub mod Out
pub mod CollectionRefusals
