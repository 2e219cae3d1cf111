pub mod InputEnds
pub mod PcapngLemmas
pub mod ReaderLemmas
