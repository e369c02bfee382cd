pub mod SampleFile
pub mod SampleEvents
pub mod Counting
