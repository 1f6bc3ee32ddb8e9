pub mod Numbers
pub mod Notation
pub mod Told
pub mod Runs
pub mod Spelled
pub mod ReadBack
pub mod Examples
