pub mod Answers
pub mod Profile
pub mod Equations
pub mod Rising
pub mod Finding
