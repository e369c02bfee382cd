pub mod RecordingLemmas
