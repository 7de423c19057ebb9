-- What a reference to a key and one to its value show.
use Rattle.std.specs.Borrow.{Bor}

abbrev pub shown : {K V : Type 0} → Bor K × Bor V → K × V
shown p = (p.0.now, p.1.now)
