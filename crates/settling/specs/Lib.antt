pub mod Keys
pub mod Stand
pub mod Made
pub mod Good
