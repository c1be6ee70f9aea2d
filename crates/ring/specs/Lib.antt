-- What the contracts of this crate cite. Assumes nothing.
pub mod Numbers
pub mod Machine
pub mod Promise
pub mod Tallies
pub mod Events
pub mod Disturbances
pub mod Bound
pub mod Plays
pub mod Lent
pub mod Reports
pub mod TwoPosts
pub mod Examples
pub mod Beginning
