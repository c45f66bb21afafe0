-- What the code's tests of K, O and M say. Assumes nothing.
use mathlib.Core.Path.{◌≡◌, refl}
use mathlib.Core.Bool.{Bool, true, false, not, ◌||◌}
use Rattle.sight.specs.declared.declare.DeclareSight.{DeclareSight}
use Rattle.sight.specs.declared.state.StateSight.{StateSight}
use Rattle.sight.specs.declared.identify.IdentifySight.{IdentifySight}
use Rattle.weigh.specs.Declare.{declare_refusal}
use Rattle.weigh.specs.State.{state_refusal}
use Rattle.weigh.specs.Identify.{identify_refusal}

module _ (closed : Bool) (s : DeclareSight) where
  pub declare_4 : closed ≡ true → 4 ≡ declare_refusal closed s
  unfolding declare_refusal
  declare_4 y = rw y refl

  pub declare_9 : closed ≡ false → (s.known || not s.under) ≡ true → 9 ≡ declare_refusal closed s
  unfolding declare_refusal
  declare_9 n y = rw (n, y) refl

  pub declare_0 : closed ≡ false → (s.known || not s.under) ≡ false → 0 ≡ declare_refusal closed s
  unfolding declare_refusal
  declare_0 n y = rw (n, y) refl

module _ (closed : Bool) (s : StateSight) where
  pub state_4 : closed ≡ true → 4 ≡ state_refusal closed s
  unfolding state_refusal
  state_4 y = rw y refl

  module _ (n : closed ≡ false) where
    pub state_9 : not s.known ≡ true → 9 ≡ state_refusal closed s
    unfolding state_refusal
    state_9 y = rw (n, y) refl

    pub state_10 : not s.known ≡ false → not s.alive ≡ true → 10 ≡ state_refusal closed s
    unfolding state_refusal
    state_10 y z = rw (n, y, z) refl

    pub state_0 : not s.known ≡ false → not s.alive ≡ false → 0 ≡ state_refusal closed s
    unfolding state_refusal
    state_0 y z = rw (n, y, z) refl

module _ (closed : Bool) (s : IdentifySight) where
  pub identify_4 : closed ≡ true → 4 ≡ identify_refusal closed s
  unfolding identify_refusal
  identify_4 y = rw y refl

  module _ (n : closed ≡ false) where
    pub identify_9 : not s.known ≡ true → 9 ≡ identify_refusal closed s
    unfolding identify_refusal
    identify_9 y = rw (n, y) refl

    pub identify_7 : not s.known ≡ false → not s.fits ≡ true → 7 ≡ identify_refusal closed s
    unfolding identify_refusal
    identify_7 y z = rw (n, y, z) refl

    pub identify_0 : not s.known ≡ false → not s.fits ≡ false → 0 ≡ identify_refusal closed s
    unfolding identify_refusal
    identify_0 y z = rw (n, y, z) refl
