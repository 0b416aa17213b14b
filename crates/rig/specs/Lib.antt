pub mod Rig
pub mod Parts
