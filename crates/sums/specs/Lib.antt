-- What the contracts of this crate cite, and what damage is. Assumes nothing.
pub mod Value
pub mod Sum
pub mod Damage
