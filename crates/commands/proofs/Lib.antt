-- Lemmas of this crate. Assumes nothing.
pub mod OrderLaws
pub mod PostLaws
