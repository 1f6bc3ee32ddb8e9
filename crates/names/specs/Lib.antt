pub mod Numbers
pub mod Overhead
