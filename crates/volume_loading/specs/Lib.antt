pub mod Loading
pub mod LoadedVolume
pub mod HeldLoading
pub mod Looks
pub mod PassedFile
pub mod Passing
pub mod PassReads
