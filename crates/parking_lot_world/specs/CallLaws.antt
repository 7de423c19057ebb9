pub mod SameCores
