-- Lemmas on drafts to which files are added as they come.
pub mod Given
pub mod Finding
pub mod Coming
pub mod Adding
