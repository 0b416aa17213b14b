pub mod Mender
