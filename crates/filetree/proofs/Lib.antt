-- Lemmas on file trees.
pub mod Ascending
pub mod Bytes
pub mod ComparedKeys
pub mod FilesTested
pub mod Components
pub mod Folders
pub mod PathOrder
pub mod Paths
pub mod Rooms
pub mod Safe
pub mod Shaping
pub mod Tables
pub mod Texts
pub mod Views
pub mod Walking
