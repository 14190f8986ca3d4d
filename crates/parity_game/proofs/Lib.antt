pub mod Accepted
pub mod Calls
pub mod Places
pub mod Pools
pub mod Readable
pub mod Refusals
pub mod Stretches
