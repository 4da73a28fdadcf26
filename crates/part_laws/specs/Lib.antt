-- What the laws of parts that each saw contents of their own cite.
pub mod Apart
pub mod ApartTexts
pub mod MarkedTexts
