-- Which lines get and release a buffer, how often it was got, and how often a release found it. Assumes nothing.
use Rattle.std.specs.Prelude.{ℕ, ◌+◌, ◌≡◌, ◌≢◌, ◌&&◌, [], ◌∷◌, ltb, ℤ, pos}
use Rattle.words.specs.Choice.{one}
use Rattle.words.specs.Lists.{count}
use Rattle.facts.specs.Table.{fact_of}
use Rattle.facts.specs.declared.Place.TheVariants as Place
use Rattle.facts.specs.declared.Result.TheVariants as Result
use Rattle.lines.specs.Line.{Line, C, R}
use Rattle.history.specs.Past.{History}
use Rattle.history.specs.Buffers.{Pin, pin, same_pin, gets, releases, outstanding}

-- R makes its result, if that is nonzero: B an outstanding buffer
pub data Gets : Line → Pin → Type 0 where
  at_return : (t f b p : ℕ) → (fact_of f).result ≡ Result.Buffer → b ≢ 0 → Gets (R t f (pos b) p) (pin t f b)

-- a release, at its C, ends one outstanding buffer of its family equal to b (for critical ones, of this thread)
pub data Releases : Line → Pin → Type 0 where
  at_call : (t env f a b c : ℕ) (n : ℤ) → (fact_of f).b ≡ Place.Buffer → Releases (C t env f a b c n) (pin t f b)

-- how many lines got it
unfoldable pub got : Pin → History → ℕ
got x [] = 0
got x (e ∷ past) = count (same_pin x) (gets e) + got x past

-- how many releases named it while it was outstanding
unfoldable pub released : Pin → History → ℕ
released x [] = 0
released x (e ∷ past) = one (releases e x && ltb 0 (count (same_pin x) (outstanding past))) + released x past
