-- What the clauses of this crate and of the crates above cite.
pub mod Naming
pub mod Attributes
pub mod classes
pub mod Superclasses
pub mod roles
pub mod Oids
