-- Words of what is proved of the definitions.
pub mod Step
pub mod Bytes
pub mod Find
