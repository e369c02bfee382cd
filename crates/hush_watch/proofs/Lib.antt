mod SessionLemmas
mod FirstLemmas
mod HubLemmas
mod WatchLemmas
mod OctetLemmas
mod AheadLemmas
mod FindLemmas
