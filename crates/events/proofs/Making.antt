-- The row that a result takes, as R is told it: the lowest free one of its table. Assumes nothing.
use Prim.Native.Nat.{ℕ}
use mathlib.Core.Path.{◌≡◌, sym, ap, ◌∙◌}
use mathlib.Core.Bool.{Bool, true, not, ◌&&◌}
use lib.Dec.{eqb}
use Rattle.facts.specs.Table.{fact_of}
use Rattle.facts.specs.Results.{is_handle_result, is_buffer_result}
use Rattle.facts.specs.declared.Result.{Result}
use Rattle.rows.specs.Table.{free_row}
use Rattle.rows.specs.References.{references}
use Rattle.rows.specs.Pins.{pins}
use Rattle.tables.specs.Tables.{Tables}
use Rattle.sight.specs.declared.returns.ReturnSight.{ReturnSight}
use Rattle.sight.specs.Returns.{return_sight}
use Rattle.sight.proofs.ReturnLaws.{handle_row, buffer_row, kind_told}

-- what holds where a result is made, by the code's test
where_made : (h row n : ℕ) (x y : Bool) → ((y && not (eqb h 0)) ≡ true → row ≡ n) → x ≡ y → (x && not (eqb h 0)) ≡ true → row ≡ n
where_made h row n x y g e q = g (sym (ap (λ (z : Bool). z && not (eqb h 0)) e) ∙ q)

module _ (T : Tables) (t f h : ℕ) (v : ReturnSight) (e : v ≡ return_sight T t f h) where
  kind_is : v.kind ≡ (fact_of f).result
  kind_is = ap (λ (u : ReturnSight). u.kind) e ∙ kind_told T t f h

  row_told : (is : Result → Bool) (n : ℕ) → ((is (fact_of f).result && not (eqb h 0)) ≡ true → (return_sight T t f h).made.row ≡ n) → (is v.kind && not (eqb h 0)) ≡ true → v.made.row ≡ n
  row_told is n g q = ap (λ (u : ReturnSight). u.made.row) e ∙ where_made h _ n (is v.kind) (is (fact_of f).result) g (ap is kind_is) q

  pub handle_lowest : (is_handle_result v.kind && not (eqb h 0)) ≡ true → v.made.row ≡ free_row references T.references
  handle_lowest = row_told is_handle_result _ (handle_row T t f h)

  pub buffer_lowest : (is_buffer_result v.kind && not (eqb h 0)) ≡ true → v.made.row ≡ free_row pins T.pins
  buffer_lowest = row_told is_buffer_result _ (buffer_row T t f h)
