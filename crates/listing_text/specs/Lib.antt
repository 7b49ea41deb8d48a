pub mod Listing
pub mod Laying
