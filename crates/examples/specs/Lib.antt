pub mod Builders
pub mod Tables
pub mod Computing
pub mod Files
pub mod ListingFile
pub mod Facts
pub mod Starred
