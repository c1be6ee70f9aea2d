-- What the contracts of this crate cite. Assumes nothing.
pub mod SettingsUnit
pub mod NumbersUnit
pub mod FrameUnit
pub mod MemberNames
