pub mod Text
pub mod TextLaws
pub mod LibraryDigits
pub mod Examples
