-- What the contracts of this crate cite. Assumes nothing.
pub mod Layout
pub mod Rule
pub mod Steps
pub mod Promise
pub mod Code
pub mod CountsText
