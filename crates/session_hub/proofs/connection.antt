pub mod HearLemmas
pub mod RoomLemmas
pub mod QueueLemmas
