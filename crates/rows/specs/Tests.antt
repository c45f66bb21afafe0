-- A test of rows that code computes. Assumes nothing.
use Rattle.std.specs.Prelude.{◌≡◌, Bool}

-- where the code answers, it answers as p
abbrev pub Computes : {A : Type 0} → (A → Bool → Type 0) → (A → Bool) → Type 0
Computes {A} answers p = (x : A) (b : Bool) → answers x b → b ≡ p x
