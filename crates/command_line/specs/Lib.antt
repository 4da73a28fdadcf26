-- What contracts of the command line cite.
pub mod CommandLine
pub mod ErrorKinds
pub mod Found
pub mod Lengths
pub mod PartTexts
pub mod Reasons
pub mod Table
pub mod Texts
