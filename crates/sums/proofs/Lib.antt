-- Lemmas of this crate. Assumes nothing.
pub mod SumLaws
pub mod BitStep
pub mod ByteStep
pub mod SumCatches
