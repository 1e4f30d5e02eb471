pub mod BlockLemmas
pub mod ByteLemmas
pub mod ColumnLemmas
pub mod DiffusionLemmas
pub mod DotLemmas
pub mod LaneLemmas
pub mod NumberLemmas
pub mod RowLemmas
mod Rows
pub mod SpanLemmas
pub mod StandLemmas
pub mod StepLemmas
pub mod Walks
pub mod WaveLemmas
pub mod WeaveLemmas
