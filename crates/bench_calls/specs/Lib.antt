pub mod Bench
pub mod Before
pub mod Lends
pub mod Steps
