pub mod BlockLemmas
pub mod CurveLemmas
pub mod LimitLemmas
pub mod ReciprocalLemmas
pub mod RowLemmas
