pub mod Handed
pub mod OneAnswer
pub mod Demand1
pub mod Demand2
pub mod Demand3
pub mod Meant
pub mod RunAnswers
