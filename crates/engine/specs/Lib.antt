pub mod Numbers
pub mod Admitted
