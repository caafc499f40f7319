pub mod Points
pub mod Command
pub mod Text
pub mod Steps
pub mod Run
pub mod Serve
pub mod PartedTexts
