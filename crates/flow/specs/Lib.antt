pub mod RunReplies
pub mod Steps
pub mod Samples
