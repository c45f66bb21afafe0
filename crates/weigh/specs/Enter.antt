-- What is answered to N, from what it was told. Assumes nothing.
use Rattle.std.specs.Prelude.{ℕ, Bool, true, false, not, ◌&&◌, ◌||◌, List, [], ◌∷◌, eqb, leb, ltb, length, Option}
use Rattle.words.specs.Lists.{any}
use Rattle.history.specs.Items.{Item, is_empty, is_call}
use Rattle.history.specs.Acceptance.{first_refusal, deepest}
use Rattle.sight.specs.declared.enter.EnterSight.{EnterSight}

abbrev pub enter_turn : Bool → Option Item → Bool
enter_turn closed top = not closed && (is_empty top || is_call top)

-- N names one twice
abbrev pub named_twice : List ℕ → Bool
named_twice [] = false
named_twice (h ∷ hs) = any (λ (g : ℕ). eqb g h) hs || named_twice hs

abbrev pub env_fits : ℕ → EnterSight → Bool
env_fits env s = (eqb s.env 0 || eqb s.env env) && not s.elsewhere

-- `n` rows, a frame and an item more, where `many` items are open
abbrev pub enter_room : ℕ → ℕ → EnterSight → Bool
enter_room many n s = leb n s.free && ltb s.frames deepest && ltb many deepest

-- of N in turn: 0, 5, 6 or 7
unfoldable pub enter_refusal : ℕ → ℕ → List ℕ → EnterSight → ℕ
enter_refusal many env hs s =
    first_refusal true (env_fits env s) (not (s.alive || named_twice hs)) true true (enter_room many (length hs) s)
