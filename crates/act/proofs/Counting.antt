-- Rows counted in a frame of a thread are the locals alive in it.
use Prim.Native.Nat.{ℕ, ◌≤◌}
use mathlib.Core.Path.{◌≡◌, sym, ap, ◌∙◌, subst}
use mathlib.Core.List.{List}
use lib.ListN.{length}
use Rattle.rows.specs.Table.{Table, most, counted}
use Rattle.rows.specs.References.{references}
use Rattle.rows.specs.References.{in_frame as in_frame_row}
use Rattle.history.specs.Handles.{in_frame}
use Rattle.book.specs.Threads.{thread_in}
use Rattle.tables.specs.Tables.{handles_in}
use Rattle.tables.proofs.RowCounts.{counted_most}
use Rattle.tables.proofs.Sights.{frame_counted, no_frame_counted}
use Rattle.act.specs.Returns.{held}

module _ (T : Table) (b : List ℕ) (t : ℕ) where
  pub held_counted : (d k : ℕ) → (t ≡ 0 → ⊥) → d ≡ length (thread_in b t).frames → k ≡ counted references (in_frame_row t d) T → k ≡ held T b t
  unfolding held
  held_counted d k z ed e = frame_counted T t d k z e ∙ ap (λ (j : ℕ). handles_in T (in_frame t j)) ed

  pub none_held : t ≡ 0 → ◌≡◌ {A = ℕ} 0 (held T b t)
  unfolding held
  none_held z = no_frame_counted T t (length (thread_in b t).frames) z

-- a room has at most 65,536 rows
pub held_most : (T : Table) (t d k : ℕ) → k ≡ counted references (in_frame_row t d) T → k ≤ most
held_most T t d k e = subst (λ (j : ℕ). j ≤ most) (sym e) (counted_most references (in_frame_row t d) T)
