pub mod Board
pub mod Run
pub mod Layout
