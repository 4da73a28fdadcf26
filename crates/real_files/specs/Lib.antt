-- What the program makes of the file system.
pub mod SystemPaths
