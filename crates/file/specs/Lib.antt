pub mod File
pub mod EmptyFile
