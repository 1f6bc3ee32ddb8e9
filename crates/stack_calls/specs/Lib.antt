pub mod StackCalls
pub mod FreeRun
