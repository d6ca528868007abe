mod DeclaresLemmas
mod EndLemmas
mod TopLemmas
pub mod CountLemmas
pub mod InputLemmas
pub mod LoadingLemmas
pub mod LoopLemmas
pub mod OpeningLemmas
pub mod RunLemmas
pub mod ServesLemmas
pub mod StableLemmas
mod StaysLemmas
pub mod TakenLemmas
