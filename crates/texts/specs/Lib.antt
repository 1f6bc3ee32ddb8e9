pub mod Record
pub mod Decimal
pub mod Buffer
pub mod BufferLaws
pub mod Examples
