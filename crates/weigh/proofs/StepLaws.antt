-- What the code's tests of the item on top say. Assumes nothing.
use Prim.Native.Nat.{ℕ}
use mathlib.Core.Path.{◌≡◌, refl, sym, ap, ◌∙◌}
use mathlib.Core.Bool.{Bool, true, false, not, ◌||◌, false≢true}
use Rattle.std.specs.Prelude.{Option, None, Some}
use Rattle.std.specs.Option.{is_some}
use Rattle.history.specs.Items.{Item, is_empty, is_native, is_attached, native_or_attached, is_call, is_call_of}
use Rattle.book.specs.Threads.{top_is}
use Rattle.book.specs.declared.Item.{Item as Open}

-- what is told of the top is told of what it is
pub of_top : (told : Option Item → Bool) {top o : Option Open} → top ≡ o → told (top_is o) ≡ told (top_is top)
of_top told e = ap (λ (x : Option Open). told (top_is x)) (sym e)

pub of_item : (told : Option Item → Bool) {top : Option Open} {i j : Open} → top ≡ Some i → i ≡ j → told (top_is (Some j)) ≡ told (top_is top)
of_item told e k = of_top told (e ∙ ap (λ (x : Open). Some x) k)

pub no_native : (i : Open) → (i ≡ Open.Native → ⊥) → false ≡ is_native (top_is (Some i))
unfolding top_is
no_native Open.Native n = absurd (n refl)
no_native Open.Attached n = refl
no_native (Open.Call f k) n = refl

pub no_attached : (i : Open) → (i ≡ Open.Attached → ⊥) → false ≡ is_attached (top_is (Some i))
unfolding top_is
no_attached Open.Native n = refl
no_attached Open.Attached n = absurd (n refl)
no_attached (Open.Call f k) n = refl

module _ (i : Open) (n : (f k : ℕ) → i ≡ Open.Call f k → ⊥) where
  pub no_call : true ≡ native_or_attached (top_is (Some i))
  unfolding top_is
  no_call = go i n
    where
      go : (j : Open) → ((f k : ℕ) → j ≡ Open.Call f k → ⊥) → true ≡ native_or_attached (top_is (Some j))
      go Open.Native m = refl
      go Open.Attached m = refl
      go (Open.Call f k) m = absurd (m f k refl)

  pub no_call_of : (g : ℕ) → false ≡ is_call_of g (top_is (Some i))
  unfolding top_is
  no_call_of g = go i n
    where
      go : (j : Open) → ((f k : ℕ) → j ≡ Open.Call f k → ⊥) → false ≡ is_call_of g (top_is (Some j))
      go Open.Native m = refl
      go Open.Attached m = refl
      go (Open.Call f k) m = absurd (m f k refl)

  pub no_enter : false ≡ (is_empty (top_is (Some i)) || is_call (top_is (Some i)))
  unfolding top_is
  no_enter = go i n
    where
      go : (j : Open) → ((f k : ℕ) → j ≡ Open.Call f k → ⊥) → false ≡ (is_empty (top_is (Some j)) || is_call (top_is (Some j)))
      go Open.Native m = refl
      go Open.Attached m = refl
      go (Open.Call f k) m = absurd (m f k refl)

pub none_empty : (top : Option Open) (r : Bool) → is_some top ≡ not r → r ≡ is_empty (top_is top)
unfolding top_is
none_empty None true e = refl
none_empty None false e = absurd (false≢true e)
none_empty (Some Open.Native) false e = refl
none_empty (Some Open.Attached) false e = refl
none_empty (Some (Open.Call f k)) false e = refl
none_empty (Some i) true e = absurd (false≢true (sym e))
