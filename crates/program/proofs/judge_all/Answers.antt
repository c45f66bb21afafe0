-- `program::judge_all` meets its contract. Assumes nothing.
use Prim.Native.Nat.{ℕ}
use mathlib.Core.Path.{◌≡◌, refl, ◌∙◌}
use mathlib.Core.Bool.{Bool}
use mathlib.Core.List.{List}
use native.Mathlib.Omega.{arith}
use borrow.Author.Rules.{rules}
use lib.ListN.{length}
use Rattle.tables.specs.Tables.{Tables, tables}
use Rattle.run.specs.declared.Passed.{Passed}
use Rattle.run.specs.Running.{leaves, piece_outcome}
use Rattle.program.specs.declared.Run.{Run}
use Rattle.program.specs.Progress.{buffer_size}
use Rattle.program.specs.Running.{unread_in}
use Rattle.program.proofs.Lent.{start_lent}
use Rattle.program.proofs.Judging.{judged_start}
use Rattle.program.proofs.Finishing.{whatever_classes}
use Rattle.program.proofs.Turning.{not_both, still_newest}
use Rattle.program.proofs.Turns.{Going, Passing, going_start, fits, going_on, fewer_left, finished, leaks_then, still_asked}
use Rattle.program.proofs.judge_all.Goals as goal

passing : {leaks : Bool} {T S : Tables} {r : Run} {buf out' : List ℕ} {p : Passed} (out : List ℕ) (ended : Bool) → Going leaks T r buf → length out ≡ buffer_size → length out' ≡ length out
    → ended ≡ r.streams.ended → leaves p S out' ≡ piece_outcome ended T (unread_in buf r) out → Passing leaks T r buf p S out'
passing out ended going room kept told outcome = record { out = out; ended = ended; going = going; room = room; kept = kept; told = told; outcome = outcome }

pub loop-so_far-init : goal.loop-so_far-init
loop-so_far-init c =
    let a = c.args in
    let started = start_lent a.rows.now a.marks.now a.pins.now a.pinmarks.now a.book.now a.classes.now (search rules) (search rules) (search rules) (search rules) (search rules) (search rules) in (
      going_start (tables a.rows.now a.marks.now a.pins.now a.pinmarks.now a.book.now a.classes.now) (search rules) c.start.ensures c.requires refl refl c.untouched.ensures refl refl refl
          (judged_start a.leaks (c.start.ensures ∙ started)),
      still_newest c.untouched.ensures refl,
    )

pub slice_bounds-run_lines-count : goal.slice_bounds-run_lines-count
slice_bounds-run_lines-count c = c.loop-so_far.invariant.0.ordered

pub slice_bounds-run_lines-start : goal.slice_bounds-run_lines-start
slice_bounds-run_lines-start c = c.loop-so_far.invariant.0.ordered

pub slice_bounds-run_lines-end : goal.slice_bounds-run_lines-end
slice_bounds-run_lines-end c = let g = c.loop-so_far.invariant.0 in omega (arith, g.within, g.size)

pub turned-so_far-requires : goal.turned-so_far-requires
turned-so_far-requires c =
    let l = c.loop-so_far in
    let n = c.run_lines-passed.new in
    let f = fits (passing {T = tables l.rows l.marks l.pins l.pinmarks l.book l.classes} {S = tables n.rows n.marks n.pins n.pinmarks n.book n.classes} l.out c.has_ended.result l.invariant.0 (search rules) c.run_lines-passed.auto.out c.has_ended.ensures c.run_lines-passed.ensures) in
    (f.0, f.1, l.invariant.1)

pub finish-finished-requires : goal.finish-finished-requires
finish-finished-requires c =
    let l = c.loop-so_far in
    let n = c.run_lines-passed.new in
    let p = passing {T = tables l.rows l.marks l.pins l.pinmarks l.book l.classes} {S = tables n.rows n.marks n.pins n.pinmarks n.book n.classes} l.out c.has_ended.result l.invariant.0 (search rules) c.run_lines-passed.auto.out c.has_ended.ensures c.run_lines-passed.ensures in
    (c.in-Some.is, finished p (not_both c.in-Some.is) c.turned-so_far.ensures.0, c.turned-so_far.ensures.1)

pub add_leaks-requires : goal.add_leaks-requires
add_leaks-requires c =
    let l = c.loop-so_far in
    let n = c.run_lines-passed.new in
    let p = passing {T = tables l.rows l.marks l.pins l.pinmarks l.book l.classes} {S = tables n.rows n.marks n.pins n.pinmarks n.book n.classes} l.out c.has_ended.result l.invariant.0 (search rules) c.run_lines-passed.auto.out c.has_ended.ensures c.run_lines-passed.ensures in
    (c.finish-finished.ensures.1, whatever_classes _ _ _ _ _ _ _ _ (leaks_then p (not_both c.in-Some.is) c.turned-so_far.ensures.0 c.finish-finished.ensures.0))

pub returns-in-Some : goal.returns-in-Some
returns-in-Some c =
    let l = c.loop-so_far in
    let n = c.run_lines-passed.new in
    let p = passing {T = tables l.rows l.marks l.pins l.pinmarks l.book l.classes} {S = tables n.rows n.marks n.pins n.pinmarks n.book n.classes} l.out c.has_ended.result l.invariant.0 (search rules) c.run_lines-passed.auto.out c.has_ended.ensures c.run_lines-passed.ensures in
    (c.add_leaks.ensures.0 ∙ still_asked p (not_both c.in-Some.is) c.turned-so_far.ensures.0 c.finish-finished.ensures.0, c.add_leaks.ensures.1)

pub loop-so_far-smaller : goal.loop-so_far-smaller
loop-so_far-smaller c =
    let l = c.loop-so_far in
    let n = c.run_lines-passed.new in
    let p = passing {T = tables l.rows l.marks l.pins l.pinmarks l.book l.classes} {S = tables n.rows n.marks n.pins n.pinmarks n.book n.classes} l.out c.has_ended.result l.invariant.0 (search rules) c.run_lines-passed.auto.out c.has_ended.ensures c.run_lines-passed.ensures in
    fewer_left p c.in-None.is c.turned-so_far.auto.buf c.turned-so_far.ensures.0

pub loop-so_far-preserved : goal.loop-so_far-preserved
loop-so_far-preserved c =
    let l = c.loop-so_far in
    let n = c.run_lines-passed.new in
    let p = passing {T = tables l.rows l.marks l.pins l.pinmarks l.book l.classes} {S = tables n.rows n.marks n.pins n.pinmarks n.book n.classes} l.out c.has_ended.result l.invariant.0 (search rules) c.run_lines-passed.auto.out c.has_ended.ensures c.run_lines-passed.ensures in
    (going_on p c.in-None.is c.turned-so_far.auto.buf c.turned-so_far.ensures.0, c.turned-so_far.ensures.1)
