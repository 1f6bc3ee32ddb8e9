-- What is proved of the definitions.
pub mod Agree
pub mod Step
pub mod Bytes
pub mod Nested
pub mod Find
pub mod Within
