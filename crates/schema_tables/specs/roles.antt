-- What the clauses of this crate and of the crates above cite.
pub mod Roles
-- What only functions within this crate promise each other.
pub mod RoleRows
