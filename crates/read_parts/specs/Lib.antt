pub mod PartForms
