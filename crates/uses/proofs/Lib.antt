-- What follows from the contracts of the calls that the uses make.
pub mod Steps
pub mod Kept
pub mod Reports
pub mod Gathered
pub mod SentReports
pub mod MadeTorrents
