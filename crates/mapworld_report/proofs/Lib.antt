pub mod CallersFacts
