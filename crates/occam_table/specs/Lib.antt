pub mod Packing
pub mod PackingClaims
pub mod Exports
pub mod RowsLent
