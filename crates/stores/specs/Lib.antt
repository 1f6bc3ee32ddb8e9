pub mod Stores
pub mod Climb
