pub mod MappedLemmas
pub mod MappingLemmas
pub mod UpcastsLemmas
