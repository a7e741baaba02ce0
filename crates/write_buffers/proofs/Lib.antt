pub mod RepliesPut
