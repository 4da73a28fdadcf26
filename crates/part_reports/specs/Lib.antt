-- What is read of the reports of parts, and joined.
pub mod Heads
pub mod Joined
pub mod Laws
pub mod Lines
pub mod MarkedJoins
pub mod Marks
pub mod Numbers
pub mod Reasons
pub mod Reported
pub mod RunLines
pub mod Scan
pub mod Starts
pub mod Texts
pub mod WholeLines
