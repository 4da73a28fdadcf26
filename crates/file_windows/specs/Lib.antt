-- What contracts of windows of blocks and of cuts cite.
pub mod Digests
pub mod Files
pub mod LaneCuts
pub mod Window
pub mod Windows
