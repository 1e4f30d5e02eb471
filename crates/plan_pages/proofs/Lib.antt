pub mod MarkLemmas
pub mod PageLemmas
pub mod SpanLemmas
