pub mod Descent
pub mod Steps
pub mod Right
