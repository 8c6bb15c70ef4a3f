pub mod Draws
pub mod Load
pub mod Ask
pub mod Taken
pub mod Steps
