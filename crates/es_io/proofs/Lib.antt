pub mod DocumentsLemmas
pub mod KnownLemmas
pub mod LinesLemmas
pub mod PiecesLemmas
pub mod RemainsLemmas
