pub mod PartLemmas
pub mod HeadLemmas
pub mod AllLemmas
pub mod LabelLemmas
pub mod FaultLemmas
pub mod LawLemmas
