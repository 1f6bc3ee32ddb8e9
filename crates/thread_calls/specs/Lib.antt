pub mod ThreadCalls
