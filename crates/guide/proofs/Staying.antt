-- A guide stays one as rows are stored, ended and stated. Assumes nothing.
use mathlib.Core.Path.{◌≡◌, refl, sym, ap, ap₂, subst, ◌∙◌}
use mathlib.Core.List.{List}
use Rattle.std.specs.Prelude.{Option, option_map, None, Some}
use Prim.Native.Nat.{ℕ, ◌+◌, ◌*◌, ◌/◌, ◌≤◌, ◌<◌}
use native.Mathlib.Decide.{ℕ_discrete, dec_lt}
use native.Mathlib.Omega.{arith}
use lib.Dec.{eqb}
use lib.ListN.{get_or, set, length-set}
use lib.Seq.{get_or-set_same, get_or-set_other}
use Rattle.rows.specs.Slots.{holding}
use Rattle.rows.specs.Marks.{word, bit}
use Rattle.rows.specs.Table.{Table, room, stored, changed, ended}
use Rattle.rows.specs.View.{slot, view}
use Rattle.rows.specs.declared.references.Reference.{Reference}
use Rattle.rows.specs.References.{references, with_class}
use Rattle.rows.proofs.RowLaws.{changed_out, ended_out, slot_changed_same, slot_changed_other, slot_stored_same, slot_stored_other}
use Rattle.rows.proofs.ViewLaws.{room_same, stored_lengths, changed_lengths, view_at, view_past}
use Rattle.guide.specs.Listing.{lists}
use Rattle.guide.specs.Tallies.{less_at}
use Rattle.guide.specs.Masks.{word_bit, mark_bit}
use Rattle.guide.specs.Frees.{raised_at, any, NoneBelow}
use Rattle.guide.specs.References.{places, words, marks, used_at, low_at, first_of, second_of, first, second, cell_of, cell, with_slot, noted, without_slot, forgotten, Guides}
use Rattle.guide.proofs.Changes.{not_none, some_inj, added_stored, stored_there, Removed, removed_ended, still, ended_free, ended_room}
use Rattle.guide.proofs.MaskLaws.{shown_elsewhere}
use Rattle.guide.proofs.TallyLaws.{tally_more, tallied_like, tallied_minus}
use Rattle.guide.proofs.FreeLaws.{lowered_length, lowered_elsewhere, lowered_is}
use Rattle.guide.proofs.Kept.{less_length, less_elsewhere, kept_less, kept_like, kept_same, kept_beyond}
use Rattle.guide.proofs.Cells.{first_low, second_low, cell_low, kept_of}
use Rattle.guide.proofs.Known.{Known, known_of, guides_of, word_place, mark_place, known_elsewhere, slot_low, known_more}

-- a row stored where none was
pub guide_stored : (T : Table) (G : List ℕ) (r : ℕ) (x : Reference) → Guides T G → r < room references T → slot references T r ≡ None
    → Guides (stored references T r x) (noted (stored references T r x) G r)
unfolding noted
guide_stored T G r x g l free =
    subst (λ (o : Option Reference). Guides T' (with_slot T' G r o)) (sym (stored_there references T r x l free))
    (guides_of (known_more T' G r x (slot references T) (slot references T') (room references T) (room references T') (added_stored references T r x l free) (known_of g)) low)
  where
    T' : Table
    T' = stored references T r x

    low : NoneBelow low_at (slot references T') (room references T') (with_slot T' G r (Some x))
    low k m e =
        let other : (k ≡ r → ⊥) = λ q. not_none x (sym e ∙ ap (slot references T') q ∙ slot_stored_same references T r x l) in
        let was = g.low k (omega (arith, m, room_same references T' T (stored_lengths references T r x))) (sym (slot_stored_other references T r k x l other) ∙ e) in
        omega (arith, was, slot_low T' G r x)

-- no row below r is free
pub guide_raised : (T : Table) (G : List ℕ) (r : ℕ) → Guides T G → ((k : ℕ) → k < room references T → slot references T k ≡ None → r ≤ k) → Guides T (raised_at G low_at r)
unfolding raised_at
guide_raised T G r g h =
    guides_of (known_elsewhere G (set G low_at (r / word)) (slot references T) (room references T) (length-set G low_at (r / word))
    (λ j d n. get_or-set_other G low_at j (r / word) d (λ q. absurd (omega (arith, q, n)))) (known_of g))
    (λ k l e. omega (arith, h k l e, get_or-set_same G low_at (r / word) 0 (omega (arith, g.whole))))

-- a row ended
module _ (T : Table) (G : List ℕ) (r : ℕ) (g : Guides T G) where
  abbrev T' : Table
  T' = ended references T r

  free_ended : r < room references T → slot references T r ≡ None → Guides T' G
  free_ended l e =
      guides_of (subst (λ (n : ℕ). Known (slot references T') n G) (sym (ended_room references T r))
      (record {
        whole = g.whole;
        kept = kept_same references first second cell places words first_low second_low cell_low G (slot references T) (slot references T') (room references T) (λ k m. same k) (kept_of g);
        words_shown = λ k y m q. g.words_shown k y m (sym (same k) ∙ q);
        marks_shown = λ k y m q. g.marks_shown k y m (sym (same k) ∙ q);
        counted = tallied_like any used_at low_at G (slot references T) (slot references T') (room references T) (λ k m j. ap (holding (λ (x : Reference). eqb (any x) j)) (same k)) g.counted;
      }))
      (λ k m q. g.low k (omega (arith, m, ended_room references T r)) (sym (same k) ∙ q))
    where
      same : (k : ℕ) → slot references T' k ≡ slot references T k
      same k = ended_free references T r k l e

  used_ended : (x : Reference) → r < room references T → slot references T r ≡ Some x → Guides T' (without_slot G r (Some x))
  used_ended x l e =
      guides_of (subst (λ (n : ℕ). Known (slot references T') n (without_slot G r (Some x))) (sym (ended_room references T r))
      (known_elsewhere I (without_slot G r (Some x)) (slot references T') (room references T) (lowered_length I low_at r)
      (λ j v n. lowered_elsewhere I low_at r j v (λ q. absurd (omega (arith, q, n))))
      (record {
        whole = less_length H used_at ∙ less_length G (places + cell x) ∙ g.whole;
        kept = kept_beyond references first second cell places words first_low second_low cell_low H I (slot references T') (room references T) (less_length H used_at)
            (λ j v m. less_elsewhere H used_at j v (λ q. absurd (omega (arith, q, m))))
            (kept_less references first second cell places words first_low second_low cell_low G (slot references T) (slot references T') (room references T) r x d (kept_of g));
        words_shown = λ k y m q. shown_elsewhere references cell word_bit words G I (slot references T) (room references T) (λ z. old (words + cell z) (omega arith) (omega (arith, word_place z)))
            g.words_shown k y m (still references d k y m q);
        marks_shown = λ k y m q. shown_elsewhere references cell mark_bit marks G I (slot references T) (room references T) (λ z. old (marks + cell z) (omega arith) (mark_place z))
            g.marks_shown k y m (still references d k y m q);
        counted = tallied_minus any used_at low_at H x (slot references T) (slot references T') (room references T) (omega arith) (omega (arith, less_length G (places + cell x), g.whole))
            (tally_more any (slot references T') (slot references T) (room references T) r x d.low d.is d.was (λ k m u. sym (d.same k m u)))
            (λ k h. less_elsewhere G (places + cell x) (used_at + k) 0 (λ q. absurd (omega (arith, q, cell_low x))) ∙ g.counted k h);
      })))
      (λ k m q. low k (omega (arith, m, ended_room references T r)) q (ℕ_discrete k r))
    where
      d : Removed references (slot references T) (slot references T') (room references T) r x
      d = removed_ended references T r x l e

      H : List ℕ
      H = less_at G (places + cell x)

      I : List ℕ
      I = less_at H used_at

      old : (j : ℕ) → words ≤ j → j < used_at → get_or I j 0 ≡ get_or G j 0
      old j m u = less_elsewhere H used_at j 0 (λ q. absurd (omega (arith, q, u))) ∙ less_elsewhere G (places + cell x) j 0 (λ q. absurd (omega (arith, q, m, cell_low x)))

      I_low : get_or I low_at 0 ≡ get_or G low_at 0
      I_low = less_elsewhere H used_at low_at 0 (λ q. absurd (omega (arith, q))) ∙ less_elsewhere G (places + cell x) low_at 0 (λ q. absurd (omega (arith, q, cell_low x)))

      low : (k : ℕ) → k < room references T → slot references T' k ≡ None → Dec (k ≡ r) → get_or (without_slot G r (Some x)) low_at 0 * word ≤ k
      low k m q (yes i) = omega (arith, i, lowered_is I low_at r (omega (arith, less_length H used_at, less_length G (places + cell x), g.whole)))
      low k m q (no i) =
          let was = g.low k m (sym (d.same k m i) ∙ q) in
          omega (arith, was, I_low, lowered_is I low_at r (omega (arith, less_length H used_at, less_length G (places + cell x), g.whole)))

  pub guide_ended : Guides T' (forgotten T G r)
  unfolding forgotten
  guide_ended = go (dec_lt r (room references T))
    where
      by_slot : r < room references T → (o : Option Reference) → slot references T r ≡ o → Guides T' (without_slot G r o)
      by_slot l None e = free_ended l e
      by_slot l (Some x) e = used_ended x l e

      go : Dec (r < room references T) → Guides T' (without_slot G r (get_or (view references T) r None))
      go (yes l) = subst (λ (o : Option Reference). Guides T' (without_slot G r o)) (sym (view_at references T r l)) (by_slot l (slot references T r) refl)
      go (no l) =
          subst (λ (o : Option Reference). Guides T' (without_slot G r o)) (sym (view_past references T r (omega arith)))
          (subst (λ (X : Table). Guides X G) (sym (ended_out references T r (omega arith))) g)

-- what row k is listed and counted by is as it was
record Like (T : Table) (k : ℕ) (y : Reference) : Type 0 where
  old : Reference
  was : slot references T k ≡ Some old
  thread : y.thread ≡ old.thread
  handle : y.handle ≡ old.handle
  frame : y.frame ≡ old.frame

-- another class stated of a row
pub guide_stated : (T : Table) (G : List ℕ) (r c : ℕ) → Guides T G → Guides (changed references T r (with_class c)) G
guide_stated T G r c g = go (dec_lt r (room references T))
  where
    T' : Table
    T' = changed references T r (with_class c)

    room_is : room references T' ≡ room references T
    room_is = room_same references T' T (changed_lengths references T r (with_class c))

    mapped : (o : Option Reference) (k : ℕ) (y : Reference) → slot references T k ≡ o → option_map (with_class c) o ≡ Some y → Like T k y
    mapped None k y e q = absurd (not_none y q)
    mapped (Some z) k y e q =
        let same = some_inj (with_class c z) y q in
        record {
          old = z;
          was = e;
          thread = sym (ap (λ (v : Reference). v.thread) same);
          handle = sym (ap (λ (v : Reference). v.handle) same);
          frame = sym (ap (λ (v : Reference). v.frame) same);
        }

    like : r < room references T → (k : ℕ) (y : Reference) → slot references T' k ≡ Some y → Dec (k ≡ r) → Like T k y
    like l k y e (yes q) =
        mapped (slot references T k) k y refl
        (ap (λ (i : ℕ). option_map (with_class c) (slot references T i)) q ∙ sym (slot_changed_same references T r (with_class c) l) ∙ ap (slot references T') (sym q) ∙ e)
    like l k y e (no q) = record { old = y; was = sym (slot_changed_other references T r k (with_class c) l q) ∙ e; thread = refl; handle = refl; frame = refl }

    mapped_none : (o : Option Reference) → option_map (with_class c) o ≡ None → o ≡ None
    mapped_none None q = refl
    mapped_none (Some z) q = absurd (not_none (with_class c z) (sym q))

    counted_same : (f : Reference → ℕ) → ((z : Reference) → f (with_class c z) ≡ f z) → (o : Option Reference) (j : ℕ)
        → holding (λ (x : Reference). eqb (f x) j) (option_map (with_class c) o) ≡ holding (λ (x : Reference). eqb (f x) j) o
    counted_same f s None j = refl
    counted_same f s (Some z) j = ap (λ (n : ℕ). eqb n j) (s z)

    cells_same : (f : Reference → ℕ) → ((z : Reference) → f (with_class c z) ≡ f z) → r < room references T → (k : ℕ) (j : ℕ) → Dec (k ≡ r)
        → holding (λ (x : Reference). eqb (f x) j) (slot references T' k) ≡ holding (λ (x : Reference). eqb (f x) j) (slot references T k)
    cells_same f s l k j (yes q) =
        ap (λ (i : ℕ). holding (λ (x : Reference). eqb (f x) j) (slot references T' i)) q
        ∙ ap (holding (λ (x : Reference). eqb (f x) j)) (slot_changed_same references T r (with_class c) l) ∙ counted_same f s (slot references T r) j
        ∙ ap (λ (i : ℕ). holding (λ (x : Reference). eqb (f x) j) (slot references T i)) (sym q)
    cells_same f s l k j (no q) = ap (holding (λ (x : Reference). eqb (f x) j)) (slot_changed_other references T r k (with_class c) l q)

    free_like : r < room references T → (k : ℕ) → slot references T' k ≡ None → Dec (k ≡ r) → slot references T k ≡ None
    free_like l k e (yes q) =
        mapped_none (slot references T k)
        (ap (λ (i : ℕ). option_map (with_class c) (slot references T i)) q ∙ sym (slot_changed_same references T r (with_class c) l) ∙ ap (slot references T') (sym q) ∙ e)
    free_like l k e (no q) = sym (slot_changed_other references T r k (with_class c) l q) ∙ e

    go : Dec (r < room references T) → Guides T' G
    go (yes l) =
        guides_of (subst (λ (n : ℕ). Known (slot references T') n G) (sym room_is)
        (record {
          whole = g.whole;
          kept = kept_like references first second cell places words first_low second_low cell_low G (slot references T) (slot references T') (room references T)
              (λ k m j. cells_same cell (λ z. refl) l k j (ℕ_discrete k r))
              (λ k y m e.
              let w = like l k y e (ℕ_discrete k r) in
              ap₂ (λ (a b : ℕ). lists G a b k) (ap₂ first_of w.thread w.handle) (ap₂ second_of w.thread w.handle) ∙ g.listed k w.old m w.was)
              (kept_of g);
          words_shown = λ k y m e.
              let w = like l k y e (ℕ_discrete k r) in
              ap (λ (i : ℕ). bit (get_or G (words + i) 0) (word_bit k)) (ap₂ cell_of w.thread w.frame) ∙ g.words_shown k w.old m w.was;
          marks_shown = λ k y m e.
              let w = like l k y e (ℕ_discrete k r) in
              ap (λ (i : ℕ). bit (get_or G (marks + i) 0) (mark_bit k)) (ap₂ cell_of w.thread w.frame) ∙ g.marks_shown k w.old m w.was;
          counted = tallied_like any used_at low_at G (slot references T) (slot references T') (room references T) (λ k m j. cells_same any (λ z. refl) l k j (ℕ_discrete k r)) g.counted;
        }))
        (λ k m e. g.low k (omega (arith, m, room_is)) (free_like l k e (ℕ_discrete k r)))
    go (no l) = subst (λ (X : Table). Guides X G) (sym (changed_out references T r (with_class c) (omega arith))) g
