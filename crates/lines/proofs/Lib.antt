pub mod Listed
pub mod Found
