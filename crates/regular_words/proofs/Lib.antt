pub mod Malformed
