pub mod TextCalls
pub mod TextRefusals
