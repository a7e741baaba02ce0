pub mod TextCallClaims
