-- Lemmas of this crate. Assumes nothing.
pub mod SettingsLaws
pub mod HeadLaws
pub mod FrameLaws
