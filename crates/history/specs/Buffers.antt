-- The buffers outstanding: got, and not released since. The same buffer number may be outstanding several times. Assumes nothing.
use Rattle.std.specs.Prelude.{ℕ, Bool, false, not, ◌&&◌, List, [], ◌∷◌, ◌++◌, eqb}
use Rattle.words.specs.Choice.{if_true◌then◌else◌}
use Rattle.words.specs.Lists.{but_first}
use Rattle.facts.specs.Table.{fact_of, family, is_critical}
use Rattle.facts.specs.Results.{is_buffer_result, is_buffer_place}
use Rattle.lines.specs.Line.{Line, if_C◌then◌else◌, if_R◌then◌else◌, above_zero}
use Rattle.history.specs.Past.{History}

-- critical ones belong to the getting thread, the others to no thread
pub data Pin : Type 0 where
  -- family, buffer
  ordinary : ℕ → ℕ → Pin
  -- thread, family, buffer
  critical : ℕ → ℕ → ℕ → Pin

-- the buffer that function f, called by thread t, gets or releases
unfoldable pub pin : ℕ → ℕ → ℕ → Pin
pin t f b = if_true is_critical (family f) then critical t (family f) b else ordinary (family f) b

abbrev pub same_pin : Pin → Pin → Bool
same_pin (ordinary k b) (ordinary j a) = eqb k j && eqb b a
same_pin (ordinary k b) (critical s j a) = false
same_pin (critical t k b) (ordinary j a) = false
same_pin (critical t k b) (critical s j a) = eqb t s && eqb k j && eqb b a

abbrev pub critical_of : ℕ → Pin → Bool
critical_of t (ordinary k b) = false
critical_of t (critical s k b) = eqb t s

-- R makes an outstanding buffer of its result, if that is nonzero
unfoldable pub gets : Line → List Pin
gets e =
    if_R e then
    (λ t f r p. if_true is_buffer_result (fact_of f).result && not (eqb (above_zero r) 0) then pin t f (above_zero r) ∷ [] else [])
    else []

-- a release names this one
unfoldable pub releases : Line → Pin → Bool
releases e x = if_C e then (λ t env f a b c n. is_buffer_place (fact_of f).b && same_pin (pin t f b) x) else false

-- a release ends one of those equal to b
unfoldable pub outstanding : History → List Pin
outstanding [] = []
outstanding (e ∷ past) = gets e ++ but_first (releases e) (outstanding past)
