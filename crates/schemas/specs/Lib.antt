-- 000's text: Memory to Stacks. A model as its state: Reading. What calls share: Steps, StoreSteps, Untouched. The calls: Questions to Resize. Apart: where 01
-- refuses more. The end: Meets.
pub mod Memory
pub mod Reports
pub mod Blocks
pub mod Stores
pub mod Global
pub mod Threads
pub mod Stacks
pub mod Reading
pub mod Steps
pub mod Questions
pub mod ThreadCalls
pub mod StackCalls
pub mod Start
pub mod StoreSteps
pub mod Allocate
pub mod MakeStore
pub mod Clear
pub mod ResizeErrors
pub mod Resize
pub mod Apart
pub mod Untouched
pub mod Meets
