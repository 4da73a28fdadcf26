-- What contracts of drafts cite to which files are added as their bytes come.
pub mod Stages
pub mod Coming
pub mod Drafted
