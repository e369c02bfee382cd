-- what public clauses cite
pub mod Streams
pub mod operations
pub mod Attributes
pub mod Binds
pub mod Kinds
pub mod Search
pub mod Controls
pub mod reading
pub mod Results
pub mod Replies
pub mod Plain
pub mod Ranges
pub mod Laws
-- the words of crates below, handed on
pub use Rattle.ldap_filter.specs as ldap_filter
pub use Rattle.ber_layout.specs as ber_layout
pub use Rattle.ber_elements.specs as ber_elements
pub use Rattle.plain_values.specs as plain_values
