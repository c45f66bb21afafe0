-- The guide of pin rows, step by step of the code. Assumes nothing.
use mathlib.Core.Path.{◌≡◌, refl, ap, ◌∙◌}
use mathlib.Core.List.{List}
use Rattle.std.specs.Prelude.{None, Some}
use Prim.Native.Nat.{ℕ, ◌+◌, ◌*◌, ◌/◌, ◌%◌, ◌≤◌, ◌<◌}
use native.Mathlib.Numerals.{add-one}
use native.Mathlib.Omega.{arith}
use lib.ListN.{get_or}
use borrow.Author.Tests.{le-leb, lt-leb}
use Rattle.rows.specs.declared.pins.Pin.{Pin}
use Rattle.rows.specs.Table.{Table, room}
use Rattle.rows.specs.View.{view}
use Rattle.rows.specs.Pins.{pins}
use Rattle.guide.specs.Spread.{spread}
use Rattle.guide.specs.Listing.{with_listed}
use Rattle.guide.specs.Tallies.{more_at, less_at}
use Rattle.guide.specs.Pins.{places, first_of, second_of, first, second, cell_of, noted, forgotten, filled}

-- ---- places and cells

pub first_is : (t f b d : ℕ) → d ≡ spread b (t % 32 * 16 + f % 16) → d / 1048576 % 4096 ≡ first_of t f b
unfolding first_of
first_is t f b d e = rw e

pub second_is : (t f b d : ℕ) → d ≡ spread b (t % 32 * 16 + f % 16) → d / 4 % 4096 ≡ second_of t f b
unfolding second_of
second_is t f b d e = rw e

pub cell_own : (t : ℕ) → t ≤ 16 → t ≡ cell_of t
unfolding cell_of
cell_own t h = rw (le-leb t 16 h)

pub cell_other : (t : ℕ) → 16 < t → 17 ≡ cell_of t
unfolding cell_of
cell_other t h = rw (lt-leb t 16 h)

-- ---- a row noted, and forgotten

module _ (T : Table) (G : List ℕ) (r : ℕ) where
  pub noted_row : (x : Pin) (i j k : ℕ) (H I : List ℕ) → get_or (view pins T) r None ≡ Some x → i ≡ first x → j ≡ second x → H ≡ with_listed pins first second T G i j r
      → k ≡ cell_of x.thread → I ≡ more_at H (places + k) → I ≡ noted T G r
  unfolding noted
  noted_row x i j k H I e ei ej eh ek ew = ew ∙ rw (e, eh, ei, ej, ek)

  pub noted_none : get_or (view pins T) r None ≡ None → G ≡ noted T G r
  unfolding noted
  noted_none e = rw e

  pub forgotten_row : (x : Pin) (k : ℕ) (H : List ℕ) → get_or (view pins T) r None ≡ Some x → k ≡ cell_of x.thread → H ≡ less_at G (places + k) → H ≡ forgotten T G r
  unfolding forgotten
  forgotten_row x k H e ek eh = eh ∙ rw (e, ek)

  pub forgotten_none : get_or (view pins T) r None ≡ None → G ≡ forgotten T G r
  unfolding forgotten
  forgotten_none e = rw e

-- ---- all rows

pub filled_first : (T : Table) (G : List ℕ) → G ≡ filled T G 0
unfolding filled
filled_first T G = refl

pub filled_more : (T : Table) (G H I : List ℕ) (r : ℕ) → H ≡ filled T G r → I ≡ noted T H r → I ≡ filled T G (r + 1)
unfolding filled
filled_more T G H I r e f = f ∙ rw (add-one, e)

pub filled_all : (T : Table) (G H : List ℕ) (r n : ℕ) → n ≡ room pins T → r ≤ n → n ≤ r → H ≡ filled T G r → H ≡ filled T G (room pins T)
filled_all T G H r n e l g h = h ∙ ap (filled T G) (omega (arith, e, l, g))
