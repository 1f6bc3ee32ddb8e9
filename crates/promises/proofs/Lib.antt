pub mod Proof1
pub mod Proof2
pub mod Meant
pub mod Proof3
