pub mod Stretch
pub mod Example
pub mod Without
pub mod Follows
pub mod AnyCalls
