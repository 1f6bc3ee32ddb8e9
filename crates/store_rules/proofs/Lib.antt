pub mod First
pub mod Behind
