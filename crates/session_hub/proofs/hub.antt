pub mod FollowingLemmas
pub mod HubLemmas
pub mod PieceLemmas
pub mod UnkeptLemmas
