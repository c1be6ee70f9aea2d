-- What the contracts of this crate cite. Assumes nothing.
pub mod Ring
pub mod Potential
pub mod Turns
pub mod Promise
pub mod Answers
