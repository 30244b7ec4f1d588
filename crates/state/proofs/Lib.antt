-- What is proved of start beside its code.
pub mod Refused
pub mod Watching
pub mod Clean
pub mod ExamplesLaws
pub mod Leaves
pub mod LentLaws
pub mod StartLaws
pub mod WatchingLaws
