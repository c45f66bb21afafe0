-- Lines between which a thread closes all that it opens, inside an open item, where A and D are out of step. Assumes nothing.
use Rattle.std.specs.Prelude.{ℕ, ◌≡◌, false, List, [], ◌∷◌, ◌++◌, ℤ}
use Rattle.lines.specs.Line.{Line, N, X, C, R}
use Rattle.history.specs.Past.{History, is_of}

pub data Whole (t : ℕ) : History → Type 0 where
  nothing_yet : Whole t []
  -- lines of other threads, Z, K and O may stand between
  another : (e : Line) (before : History) → is_of t e ≡ false → Whole t before → Whole t (e ∷ before)
  -- an N and its X, with whole calls inside
  native_call : (env r : ℕ) (hs : List ℕ) (inside before : History) → Whole t inside → Whole t before
      → Whole t (X t r ∷ (inside ++ (N t env hs ∷ before)))
  -- a C and its R, with whole natives inside
  function_call : (env f a b c p : ℕ) (n r : ℤ) (inside before : History) → Whole t inside → Whole t before
      → Whole t (R t f r p ∷ (inside ++ (C t env f a b c n ∷ before)))
