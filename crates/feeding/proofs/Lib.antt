-- The theorems: feeding in blocks changes nothing, and gets on.
pub mod Feeds
pub mod Playing
pub mod Progress
pub mod Whole
pub mod FeedLaws
