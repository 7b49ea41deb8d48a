pub mod FilledRows
pub mod Opening
