pub mod NotEmptyClaims
