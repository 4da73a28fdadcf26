-- Laws of whole runs of sessions, and of calls one after the other.
pub mod Marks
pub mod Calling
pub mod ClosedCalls
pub mod Calls
pub mod Inputs
