-- What is exported of a session, and in which order.
pub mod Exports
