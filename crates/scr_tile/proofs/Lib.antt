pub mod BlockLemmas
pub mod DotLemmas
pub mod RowLemmas
pub mod SpanLemmas
pub mod TableLemmas
