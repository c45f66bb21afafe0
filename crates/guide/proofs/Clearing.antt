-- A guide stays one where the bits of frames that have no row are cleared. Assumes nothing.
use mathlib.Core.Path.{◌≡◌, refl, sym, ◌∙◌}
use mathlib.Core.Bool.{false, false≢true}
use mathlib.Core.List.{List}
use Rattle.std.specs.Prelude.{Some}
use Prim.Native.Nat.{ℕ, ◌+◌, ◌-◌, ◌*◌, ◌≤◌, ◌<◌}
use native.Mathlib.Decide.{dec_lt}
use native.Mathlib.Omega.{arith}
use lib.ListN.{length, get_or}
use borrow.Author.Tests.{eq-eqb, le-leb}
use Rattle.rows.specs.Table.{Table, room}
use Rattle.rows.specs.View.{slot}
use Rattle.rows.specs.declared.references.Reference.{Reference}
use Rattle.rows.specs.References.{references, from_frame}
use Rattle.guide.specs.Masks.{word_bit, mark_bit, Shown}
use Rattle.guide.specs.References.{places, cells, words, marks, used_at, low_at, first, second, cell_of, cell, none_from, Guides}
use Rattle.guide.proofs.MaskLaws.{shown_elsewhere, shown_none, length_no_bits, no_bits_any, no_bits_elsewhere}
use Rattle.guide.proofs.Kept.{kept_beyond}
use Rattle.guide.proofs.Cells.{first_low, second_low, cell_inside, cell_outside, cell_is_low, cell_low, Keeps, kept_of}
use Rattle.guide.proofs.Known.{word_place}

-- no row of thread t is of frame f or above
module _ (T : Table) (t f : ℕ) (a : t ≤ 16) (none_is : (r : ℕ) (x : Reference) → r < room references T → slot references T r ≡ Some x → from_frame t f x ≡ false) where
  -- no row has its cell among those of these frames
  its_cell : (r : ℕ) (x : Reference) → r < room references T → slot references T r ≡ Some x → (cell x < cell_of t f → ⊥) → cell x < cell_of t f + (65 - f) → ⊥
  its_cell r x l e p q = go (dec_lt 64 f)
    where
      go : Dec (64 < f) → ⊥
      go (yes h) = p (omega (arith, q, h))
      go (no h) = at (dec_lt 16 x.thread) (dec_lt 64 x.frame)
        where
          at_f : cell_of t f ≡ t * 65 + f
          at_f = cell_inside t f a (omega arith)

          at : Dec (16 < x.thread) → Dec (64 < x.frame) → ⊥
          at (no u) (no v) =
              let c = cell_inside x.thread x.frame (omega arith) (omega arith) in
              let own : x.thread ≡ t = omega (arith, c, at_f, p, q, a, h) in
              let high : f ≤ x.frame = omega (arith, c, at_f, p, q, a, h, own) in
              false≢true (sym (none_is r x l e) ∙ rw (le-leb f x.frame high, eq-eqb x.thread t own) refl)
          at (yes u) v = let c = cell_outside x.thread x.frame (λ m n. absurd (omega arith)) in absurd (omega (arith, c, at_f, q, a, h))
          at (no u) (yes v) = let c = cell_outside x.thread x.frame (λ m n. absurd (omega arith)) in absurd (omega (arith, c, at_f, q, a, h))

  -- these words are those of cells
  among : cell_of t f + (65 - f) ≤ cells
  among = go (dec_lt 64 f)
    where
      go : Dec (64 < f) → cell_of t f + (65 - f) ≤ cells
      go (yes h) = omega (arith, cell_is_low t f, h)
      go (no h) = omega (arith, cell_inside t f a (omega arith), a, h)

  -- the words of one sort, from `from` on
  module _ (from : ℕ) (behind : words ≤ from) (before : from + cells ≤ used_at) (G : List ℕ) (g : Guides T G) where
    abbrev H : List ℕ
    H = none_from G from t f

    elsewhere : (j d : ℕ) → ((j < from + cell_of t f → ⊥) → j < from + cell_of t f + (65 - f) → ⊥) → get_or H j d ≡ get_or G j d
    unfolding none_from
    elsewhere j d n = no_bits_any G (from + cell_of t f) (65 - f) j d n

    same_length : length H ≡ length G
    unfolding none_from
    same_length = length_no_bits G (from + cell_of t f) (65 - f)

    its_own : (bit_of : ℕ → ℕ) → Shown cell bit_of from (slot references T) (room references T) G → Shown cell bit_of from (slot references T) (room references T) H
    unfolding none_from
    its_own bit_of c =
        shown_none references cell bit_of from G (slot references T) (room references T) (from + cell_of t f) (65 - f)
        (λ j p q r x l e y. its_cell r x l e (λ u. p (omega (arith, u, y))) (omega (arith, q, y)))
        (λ j p. no_bits_elsewhere G (from + cell_of t f) (65 - f) j p) c

    kept : Keeps (slot references T) (room references T) H
    kept =
        kept_beyond references first second cell places words first_low second_low cell_low G H (slot references T) (room references T) same_length
        (λ j d l. elsewhere j d (λ p q. p (omega (arith, l, behind)))) (kept_of g)

    cleared : Shown cell word_bit words (slot references T) (room references T) H → Shown cell mark_bit marks (slot references T) (room references T) H → Guides T H
    cleared w m =
        record {
          whole = same_length ∙ g.whole;
          listed = kept.listed;
          tallied = kept.tallied;
          words_shown = w;
          marks_shown = m;
          counted = λ k h. elsewhere (used_at + k) 0 (λ p q. absurd (omega (arith, q, among, before))) ∙ g.counted k h;
          low = λ r l e. let was = g.low r l e in omega (arith, was, elsewhere low_at 0 (λ p q. absurd (omega (arith, q, among, before))));
        }

  words_cleared : (G : List ℕ) → Guides T G → Guides T (none_from G words t f)
  words_cleared G g =
      cleared words (omega arith) (omega arith) G g (its_own words (omega arith) (omega arith) G g word_bit g.words_shown)
      (shown_elsewhere references cell mark_bit marks G (none_from G words t f) (slot references T) (room references T)
      (λ x. elsewhere words (omega arith) (omega arith) G g (marks + cell x) 0 (λ p q. absurd (omega (arith, q, among)))) g.marks_shown)

  marks_cleared : (G : List ℕ) → Guides T G → Guides T (none_from G marks t f)
  marks_cleared G g =
      cleared marks (omega arith) (omega arith) G g
      (shown_elsewhere references cell word_bit words G (none_from G marks t f) (slot references T) (room references T)
      (λ x. elsewhere marks (omega arith) (omega arith) G g (words + cell x) 0 (λ p q. p (omega (arith, word_place x)))) g.words_shown)
      (its_own marks (omega arith) (omega arith) G g mark_bit g.marks_shown)

  pub guide_cleared : (G : List ℕ) → Guides T G → Guides T (none_from (none_from G words t f) marks t f)
  guide_cleared G g = marks_cleared (none_from G words t f) (words_cleared G g)
