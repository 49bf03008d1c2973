pub mod MarkLemmas
pub mod SeekLemmas
pub mod PassLemmas
pub mod RoomLemmas
pub mod PartLemmas
