pub mod Rows
pub mod Bytes
pub mod Count
pub mod Signed
pub mod Search
pub mod Bits
pub mod Tests
pub mod Laid
