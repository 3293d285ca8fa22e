pub mod Numbers
pub mod Calls
pub mod Frames
pub mod Lines
pub mod Replies
