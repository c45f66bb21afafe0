-- A run of the input, piece by piece, is the run of its lines. Assumes nothing.
use mathlib.Core.Path.{◌≡◌, refl, sym, ap, ◌∙◌}
use mathlib.Core.Bool.{Bool, true, false}
use mathlib.Core.List.{List, [], ◌∷◌, ◌++◌, append-nil}
use Prim.Native.Nat.{ℕ, suc, ◌≤◌}
use native.Mathlib.Omega.{arith}
use lib.Dec.{eqb, leb}
use lib.ListN.{length, take, drop, get_or, drop_of_length-le}
use lib.Seq.{take_all, take-append-le, drop-append-le}
use borrow.Author.Tests.{eqb-true, eqb-false}
use Rattle.words.specs.Choice.{if_true◌then◌else◌}
use Rattle.words.specs.Text.{line_feed}
use Rattle.lines.specs.Reading.{refused, read}
use Rattle.history.specs.Replies.{most_lines}
use Rattle.history.specs.Report.{lines_of}
use Rattle.history.specs.declared.Finding.{Finding}
use Rattle.book.specs.Threads.{lines_in}
use Rattle.tables.specs.Tables.{Tables}
use Rattle.tables.specs.Stepping.{Stepped, untouched, unfit_tables, step_of}
use Rattle.demands.specs.Calls.{Ran, ran, go_on_in, run_in}
use Rattle.pieces.specs.declared.Next.TheVariants as Next
use Rattle.pieces.specs.Pieces.{piece_length, next_of, Behind}
use Rattle.pieces.proofs.Sizes.{piece_some, piece_stays}
use Rattle.pieces.proofs.Nexts.{Comes, is_piece, is_rest, comes, end_next}
use Rattle.pieces.proofs.Cuts.{line_first, overlong_first, last_line, no_line}

module _ (T : Tables) (fs : List Finding) where
  -- after a line that is refused by reading nothing is run
  refused_alike : (k : ℕ) (line piece : List ℕ) → read line ≡ refused k → read piece ≡ refused k → (lines others : List (List ℕ))
      → run_in T fs (line ∷ lines) ≡ run_in T fs (piece ∷ others)
  unfolding run_in step_of
  refused_alike k line piece p q lines others = rw (p, q) (go (unfit_tables T) (leb most_lines (lines_in T.book)))
    where
      stepped_by : Bool → Bool → Stepped
      stepped_by t u = if_true t then untouched 8 T else if_true u then untouched 1 T else untouched k T

      go : (t u : Bool) → go_on_in T fs (stepped_by t u).reply (λ gs. run_in (stepped_by t u).left (fs ++ gs) lines)
          ≡ go_on_in T fs (stepped_by t u).reply (λ gs. run_in (stepped_by t u).left (fs ++ gs) others)
      go true u = refl
      go false true = refl
      go false false = refl

  -- the first piece may stand for the first line
  by_piece : (s : List ℕ) (n : ℕ) → piece_length s ≡ suc n → run_in T fs (lines_of s) ≡ run_in T fs (take (suc n) s ∷ lines_of (drop (suc n) s))
  by_piece s n size = go (eqb (get_or s n 0) line_feed) refl
    where
      go : (t : Bool) → eqb (get_or s n 0) line_feed ≡ t → run_in T fs (lines_of s) ≡ run_in T fs (take (suc n) s ∷ lines_of (drop (suc n) s))
      go true e = ap (run_in T fs) (line_first s n size (eqb-true (get_or s n 0) line_feed e))
      go false e =
          let o = overlong_first s n size (eqb-false (get_or s n 0) line_feed e) in
          ap (run_in T fs) o.are ∙ refused_alike 1 o.line (take (suc n) s) o.line_refused o.piece_refused o.others (lines_of (drop (suc n) s))

  -- a step on the line, and the run goes on with the lines behind it
  abbrev gone_on : List ℕ → List (List ℕ) → Ran
  gone_on line others = go_on_in T fs (step_of T line).reply (λ gs. run_in (step_of T line).left (fs ++ gs) others)

  run_piece : (s next : List ℕ) (n : ℕ) → piece_length s ≡ suc n → run_in T fs (lines_of (s ++ next)) ≡ gone_on (take (suc n) s) (lines_of (drop (suc n) s ++ next))
  unfolding run_in
  run_piece s next n size =
      let fits : suc n ≤ length s = omega (arith, (piece_some s n size).1) in
      by_piece (s ++ next) n (piece_stays s next n size)
      ∙ λ i. gone_on (take-append-le (suc n) s next fits i) (lines_of (drop-append-le (suc n) s next fits i))

  run_last : (s : List ℕ) (n : ℕ) → piece_length s ≡ 0 → length s ≡ suc n → run_in T fs (lines_of s) ≡ gone_on (take (suc n) s) (lines_of (drop (suc n) s ++ []))
  unfolding run_in
  run_last [] n size all = absurd (omega arith)
  run_last (b ∷ s) n size all =
      let line : b ∷ s ≡ take (suc n) (b ∷ s) = sym (take_all (suc n) (b ∷ s) (omega arith)) in
      let end : length (b ∷ s) ≤ suc n = omega arith in
      let others : [] ≡ drop (suc n) (b ∷ s) = sym (drop_of_length-le (b ∷ s) end) in
      ap (run_in T fs) (last_line b s size) ∙ λ i. gone_on (line i) ((sym no_line ∙ ap lines_of (sym (append-nil []) ∙ ap (λ (x : List ℕ). x ++ []) others)) i)

  run_none : (s : List ℕ) → length s ≡ 0 → run_in T fs (lines_of s) ≡ ran T fs 0
  unfolding run_in
  run_none [] none = ap (run_in T fs) no_line
  run_none (b ∷ s) none = absurd (omega arith)

  module _ (ended : Bool) (s next : List ℕ) (behind : Behind ended next) where
    -- a line comes next
    pub run_line : (n : ℕ) → next_of ended s ≡ Next.Line n → run_in T fs (lines_of (s ++ next)) ≡ gone_on (take n s) (lines_of (drop n s ++ next))
    run_line n h = go n (comes ended s (Next.Line n) h)
      where
        go : (n : ℕ) → Comes ended s (Next.Line n) → run_in T fs (lines_of (s ++ next)) ≡ gone_on (take n s) (lines_of (drop n s ++ next))
        go _ (is_piece p size) = run_piece s next p size
        go _ (is_rest m t size all) = rw (behind t, append-nil s) (run_last s m size all)

    -- the end comes next
    pub run_end : next_of ended s ≡ Next.End → run_in T fs (lines_of (s ++ next)) ≡ ran T fs 0
    run_end h = let e = end_next ended s h in rw (behind e.0, append-nil s) (run_none s e.1)
