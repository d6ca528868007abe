pub mod ContentsLemmas
pub mod CrashImageLemmas
pub mod HeldLemmas
pub mod InsertLemmas
pub mod SelectionLemmas
