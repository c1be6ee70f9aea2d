-- Laws of one post. Assumes nothing.
pub mod Bytes
pub mod Norms
pub mod CountLaws
pub mod Thens
pub mod Ticks
pub mod Hearing
pub mod MemberSteps
pub mod PostCode
