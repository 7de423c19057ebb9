-- What is ahead of a world, as a text.
use Rattle.std.specs.Prelude.{ℕ, List, string_bytes}
use Rattle.mapworld_explorer.specs.declared.state.Ahead.{Ahead}

abbrev pub text_of : Ahead → List ℕ
text_of a = string_bytes a.text
