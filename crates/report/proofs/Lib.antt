pub mod CheckLemmas
pub mod RoomLemmas
