pub mod HistoryLemmas
pub mod ItemLemmas
pub mod RisingLemmas
pub mod SnapshotLemmas
