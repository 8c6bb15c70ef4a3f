pub mod Job
pub mod Tables
pub mod Join
pub mod Steps
