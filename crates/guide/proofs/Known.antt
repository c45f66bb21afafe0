-- A guide of the first rows, but for the word of the lowest free one, and of one row more. Assumes nothing.
use mathlib.Core.Path.{◌≡◌, sym, ◌∙◌}
use mathlib.Core.List.{List}
use Rattle.std.specs.Prelude.{Option, Some}
use Prim.Native.Nat.{ℕ, ◌+◌, ◌≤◌, ◌<◌}
use native.Mathlib.Omega.{arith}
use lib.ListN.{length, get_or}
use Rattle.rows.specs.Table.{Table, room}
use Rattle.rows.specs.View.{slot}
use Rattle.rows.specs.declared.references.Reference.{Reference}
use Rattle.rows.specs.References.{references}
use Rattle.guide.specs.Tallies.{Tallied}
use Rattle.guide.specs.Masks.{word_bit, mark_bit, with_bit, Shown}
use Rattle.guide.specs.Frees.{any, NoneBelow}
use Rattle.guide.specs.References.{places, words, marks, used_at, low_at, size, first, second, cell, with_slot, Guides}
use Rattle.guide.proofs.Changes.{Added}
use Rattle.guide.proofs.MaskLaws.{bit_length, bit_elsewhere, shown_more, shown_elsewhere}
use Rattle.guide.proofs.TallyLaws.{tallied_plus}
use Rattle.guide.proofs.Kept.{more_length, more_elsewhere, with_kept, kept_length, kept_elsewhere, kept_more, kept_beyond}
use Rattle.guide.proofs.Cells.{first_low, second_low, cell_is_low, cell_low, Keeps, kept_of}

-- a guide of the first n rows, but for the word of the lowest free one
pub record Known (S : ℕ → Option Reference) (n : ℕ) (G : List ℕ) : Type 0 where
  pub whole : length G ≡ size
  pub kept : Keeps S n G
  pub words_shown : Shown cell word_bit words S n G
  pub marks_shown : Shown cell mark_bit marks S n G
  pub counted : Tallied any used_at low_at S n G

pub known_of : {T : Table} {G : List ℕ} → Guides T G → Known (slot references T) (room references T) G
known_of g = record { whole = g.whole; kept = kept_of g; words_shown = g.words_shown; marks_shown = g.marks_shown; counted = g.counted }

pub guides_of : {T : Table} {G : List ℕ} → Known (slot references T) (room references T) G → NoneBelow low_at (slot references T) (room references T) G → Guides T G
guides_of k l =
    record {
      whole = k.whole;
      listed = k.kept.listed;
      tallied = k.kept.tallied;
      words_shown = k.words_shown;
      marks_shown = k.marks_shown;
      counted = k.counted;
      low = l;
    }

-- where the cells of a frame stand
pub word_place : (x : Reference) → words + cell x < marks
word_place x = omega (arith, cell_is_low x.thread x.frame)

pub mark_place : (x : Reference) → marks + cell x < used_at
mark_place x = omega (arith, cell_is_low x.thread x.frame)

-- another word of the lowest free row
pub known_elsewhere : (G H : List ℕ) (S : ℕ → Option Reference) (n : ℕ) → length H ≡ length G → ((j d : ℕ) → j < low_at → get_or H j d ≡ get_or G j d) → Known S n G → Known S n H
known_elsewhere G H S n e same c =
    record {
      whole = e ∙ c.whole;
      kept = kept_beyond references first second cell places words first_low second_low cell_low G H S n e (λ j d l. same j d (omega arith)) c.kept;
      words_shown = shown_elsewhere references cell word_bit words G H S n (λ x. same (words + cell x) 0 (omega (arith, word_place x))) c.words_shown;
      marks_shown = shown_elsewhere references cell mark_bit marks G H S n (λ x. same (marks + cell x) 0 (omega (arith, mark_place x))) c.marks_shown;
      counted = λ k h. same (used_at + k) 0 h ∙ c.counted k h;
    }

-- one row more
module _ (T : Table) (G : List ℕ) (r : ℕ) (x : Reference) where
  abbrev W : List ℕ
  W = with_kept references first second cell places words first_low second_low cell_low T G r x

  abbrev B : List ℕ
  B = with_bit W (words + cell x) (word_bit r)

  abbrev C : List ℕ
  C = with_bit B (marks + cell x) (mark_bit r)

  length_W : length W ≡ length G
  length_W = kept_length references first second cell places words first_low second_low cell_low T G r x

  length_C : length C ≡ length G
  length_C = bit_length B (marks + cell x) (mark_bit r) ∙ bit_length W (words + cell x) (word_bit r) ∙ length_W

  -- all numbers but these are as they were
  slot_elsewhere : (j d : ℕ) → (j ≡ words + cell x → ⊥) → (j ≡ marks + cell x → ⊥) → (j ≡ used_at → ⊥) → get_or (with_slot T G r (Some x)) j d ≡ get_or W j d
  slot_elsewhere j d a b c = more_elsewhere C used_at j d c ∙ bit_elsewhere B (marks + cell x) (mark_bit r) j d b ∙ bit_elsewhere W (words + cell x) (word_bit r) j d a

  pub slot_low : get_or (with_slot T G r (Some x)) low_at 0 ≡ get_or G low_at 0
  slot_low =
      slot_elsewhere low_at 0 (λ q. absurd (omega (arith, q, word_place x))) (λ q. absurd (omega (arith, q, mark_place x))) (λ q. absurd (omega (arith, q)))
      ∙ kept_elsewhere references first second cell places words first_low second_low cell_low T G r x low_at 0 (omega arith)

  pub known_more : (S S' : ℕ → Option Reference) (n n' : ℕ) → Added references T S n S' n' r x → Known S n G → Known S' n' (with_slot T G r (Some x))
  known_more S S' n n' d c =
      record {
        whole = more_length C used_at ∙ length_C ∙ c.whole;
        kept = kept_beyond references first second cell places words first_low second_low cell_low W (with_slot T G r (Some x)) S' n' (more_length C used_at ∙ length_C ∙ sym length_W)
            (λ j v l. slot_elsewhere j v (λ q. absurd (omega (arith, l, q))) (λ q. absurd (omega (arith, l, q))) (λ q. absurd (omega (arith, l, q))))
            (kept_more references first second cell places words first_low second_low cell_low T G S S' n n' r x d c.kept);
        words_shown = shown_elsewhere references cell word_bit words B (with_slot T G r (Some x)) S' n'
            (λ y. more_elsewhere C used_at (words + cell y) 0 (λ q. absurd (omega (arith, q, word_place y)))
            ∙ bit_elsewhere B (marks + cell x) (mark_bit r) (words + cell y) 0 (λ q. absurd (omega (arith, q, word_place y))))
            (shown_more references cell word_bit words T W S S' n n' r x (omega (arith, word_place x, length_W, c.whole)) d
            (shown_elsewhere references cell word_bit words G W S n (λ y. old (words + cell y) (omega arith)) c.words_shown));
        marks_shown = shown_elsewhere references cell mark_bit marks C (with_slot T G r (Some x)) S' n'
            (λ y. more_elsewhere C used_at (marks + cell y) 0 (λ q. absurd (omega (arith, q, mark_place y))))
            (shown_more references cell mark_bit marks T B S S' n n' r x (omega (arith, mark_place x, bit_length W (words + cell x) (word_bit r), length_W, c.whole)) d
            (shown_elsewhere references cell mark_bit marks G B S n
            (λ y. bit_elsewhere W (words + cell x) (word_bit r) (marks + cell y) 0 (λ q. absurd (omega (arith, q, word_place x))) ∙ old (marks + cell y) (omega arith)) c.marks_shown));
        counted = tallied_plus any used_at low_at C x S S' n n' (omega arith) (omega (arith, length_C, c.whole)) d.few (d.grows any)
            (λ k h. bit_elsewhere B (marks + cell x) (mark_bit r) (used_at + k) 0 (λ q. absurd (omega (arith, q, mark_place x)))
            ∙ bit_elsewhere W (words + cell x) (word_bit r) (used_at + k) 0 (λ q. absurd (omega (arith, q, word_place x))) ∙ old (used_at + k) (omega arith) ∙ c.counted k h);
      }
    where
      old : (j : ℕ) → words ≤ j → get_or W j 0 ≡ get_or G j 0
      old j l = kept_elsewhere references first second cell places words first_low second_low cell_low T G r x j 0 l
