pub mod Translation
pub mod Walks
pub mod Lines
