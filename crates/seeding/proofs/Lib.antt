pub mod FedLeaves
pub mod Filled
pub mod Looked
pub mod Passed
pub mod Trees
