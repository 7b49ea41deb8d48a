pub mod Counted
pub mod HeldStill
pub mod Keeping
pub mod Made
pub mod Running
pub mod TopRaised
pub mod Weights
