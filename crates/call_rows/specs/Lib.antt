pub mod CalledRow
