-- What contracts of file trees cite.
pub mod Dictionary
pub mod FileTree
pub mod FileTests
pub mod Folders
pub mod TreeLaws
pub mod Names
pub mod Paths
pub mod Shape
pub mod Tests
pub mod TreeTests
pub mod Walked
