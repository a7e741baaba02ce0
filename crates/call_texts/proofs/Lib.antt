pub mod TextReads
