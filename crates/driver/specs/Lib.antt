pub mod Encoding
pub mod WorkedFile
pub mod ClaimOfBuffers
pub mod Guaranteed
pub mod Restore
pub mod ProfiledStart
pub mod DrivenExamples
