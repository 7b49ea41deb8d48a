pub mod Offer
pub mod Apart
pub mod Moment
pub mod Partners
pub mod Seen
pub mod Tried
