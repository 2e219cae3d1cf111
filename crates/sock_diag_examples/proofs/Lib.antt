pub mod Counted
pub mod PeerValues
pub mod Pushing
pub mod LinkDecodes
pub mod AnswerDump
pub mod CountingListeners
