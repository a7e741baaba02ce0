pub mod ResolvedLaws
