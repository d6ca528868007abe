pub mod AskedLemmas
pub mod TextLemmas
pub mod WholeLog
