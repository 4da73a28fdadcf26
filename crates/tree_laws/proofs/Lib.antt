-- The lemmas behind the laws, and what proofs about sessions cite beside them.
pub mod Trees
pub mod Whole
pub mod Agree
pub mod Stored
pub mod Answers
pub mod Headline
pub mod Gaps
pub mod Wanted
pub mod Over
pub mod Keeping
pub mod Trusted
pub mod EndPads
