-- What contracts of seeding a session from a shelf cite.
pub mod Leaves
pub mod LeavesLaws
pub mod Passing
pub mod Seeding
