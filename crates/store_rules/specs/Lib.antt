pub mod Pass
pub mod Steps
pub mod Broken
