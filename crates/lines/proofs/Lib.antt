-- Lemmas of this crate. Assumes nothing.
pub mod FirstFault
pub mod Reading
pub mod WordSteps
pub mod LineLaws
pub mod Spelling
pub mod UnitSteps
pub mod ScriptLaws
pub mod ReturnLaws
pub mod TextLaws
pub mod HexText
pub mod ThreeLaws
