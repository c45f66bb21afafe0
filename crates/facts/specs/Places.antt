-- What document 01 has at the places of a function, and the classes that document 02 fixes for them, together. Assumes nothing.
use Rattle.std.specs.Prelude.{ℕ}
use Rattle.facts.specs.Table.{fact_of}
use Rattle.facts.specs.Classes.{class_a, class_b}
use Rattle.facts.specs.declared.places.Places.{Places}

abbrev pub places_of : ℕ → Places
places_of f = record { a = (fact_of f).a; b = (fact_of f).b; c = (fact_of f).c; first = class_a f; second = class_b f }
