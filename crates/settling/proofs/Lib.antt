pub mod Buffer
pub mod Meetings
pub mod Make
pub mod Marking
pub mod Ending
pub mod Operands
