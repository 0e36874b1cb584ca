pub mod ByteSets
pub mod Cursors
pub mod Repeats
pub mod Signs
pub mod Drafts
pub mod Members
pub mod Classes
pub mod Walks
