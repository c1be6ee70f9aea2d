-- What the contracts of this crate cite. Assumes nothing.
pub mod Faults
pub mod Checks
pub mod Units
pub mod Words
pub mod Text
pub mod Hex
pub mod Refusals
pub mod UnitLines
