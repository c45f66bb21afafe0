-- The places and the cell of a reference row, and what a guide keeps by them. Assumes nothing.
use mathlib.Core.Path.{◌≡◌, refl}
use mathlib.Core.Bool.{Bool, true, false, ◌&&◌}
use mathlib.Core.List.{List}
use Rattle.std.specs.Prelude.{Option}
use Prim.Native.Nat.{ℕ, ◌+◌, ◌*◌, ◌≤◌, ◌<◌}
use native.Mathlib.Omega.{arith}
use lib.Dec.{leb}
use borrow.Author.Tests.{le-leb, leb-true}
use Rattle.words.specs.Choice.{if_true◌then◌else◌}
use Rattle.rows.specs.Table.{Table, room}
use Rattle.rows.specs.View.{slot}
use Rattle.rows.specs.declared.references.Reference.{Reference}
use Rattle.rows.specs.References.{references}
use Rattle.guide.specs.References.{places, others, cells, words, first_of, second_of, first, second, cell_of, cell, Guides}
use Rattle.guide.proofs.Kept.{Kept}

pub first_low : (x : Reference) → first x < places
unfolding first_of
first_low x = omega arith

pub second_low : (x : Reference) → second x < places
unfolding second_of
second_low x = omega arith

pub cell_inside : (t f : ℕ) → t ≤ 16 → f ≤ 64 → cell_of t f ≡ t * 65 + f
unfolding cell_of
cell_inside t f a b = rw (le-leb t 16 a, le-leb f 64 b) refl

pub cell_outside : (t f : ℕ) → (t ≤ 16 → f ≤ 64 → ⊥) → cell_of t f ≡ others
unfolding cell_of
cell_outside t f n = go (leb t 16) refl (leb f 64) refl
  where
    go : (x : Bool) → leb t 16 ≡ x → (y : Bool) → leb f 64 ≡ y → (if_true x && y then t * 65 + f else others) ≡ others
    go true a true b = absurd (n (leb-true t 16 a) (leb-true f 64 b))
    go true a false b = refl
    go false a y b = refl

pub cell_is_low : (t f : ℕ) → cell_of t f < cells
unfolding cell_of
cell_is_low t f = go (leb t 16) refl (leb f 64) refl
  where
    go : (x : Bool) → leb t 16 ≡ x → (y : Bool) → leb f 64 ≡ y → (if_true x && y then t * 65 + f else others) < cells
    go true a true b = let p = leb-true t 16 a in let q = leb-true f 64 b in omega (arith, p, q)
    go true a false b = omega arith
    go false a y b = omega arith

pub cell_low : (x : Reference) → places + cell x < words
cell_low x = omega (arith, cell_is_low x.thread x.frame)

abbrev pub Keeps : (ℕ → Option Reference) → ℕ → List ℕ → Type 0
Keeps = Kept references first second cell places words first_low second_low cell_low

pub kept_of : {T : Table} {G : List ℕ} → Guides T G → Keeps (slot references T) (room references T) G
kept_of g = record { long = omega (arith, g.whole); listed = g.listed; tallied = g.tallied }
