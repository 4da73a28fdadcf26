-- What contracts of drafts cite.
pub mod Adding
pub mod DraftLaws
pub mod DraftSeen
pub mod Finishing
pub mod Orders
pub mod Outline
pub mod Pen
pub mod TreeText
pub mod Written
