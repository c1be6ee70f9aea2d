-- Lemmas of this crate. Assumes nothing.
pub mod Steps
pub mod Diffs
pub mod Chain
pub mod Weights
pub mod States
pub mod OneMove
pub mod Runs
pub mod Answered
pub mod Seen
pub mod Walks
