pub mod Threads
pub mod Looking
