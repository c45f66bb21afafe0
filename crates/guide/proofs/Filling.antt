-- A guide that is filled is one. Assumes nothing.
use mathlib.Core.Path.{◌≡◌, refl, sym, ap, subst, ◌∙◌}
use mathlib.Core.List.{List}
use Rattle.std.specs.Prelude.{Option, None, Some}
use Prim.Native.Nat.{ℕ, zero, suc, ◌+◌, ◌≤◌, ◌<◌}
use native.Mathlib.Omega.{arith}
use lib.ListN.{get_or, replicate, get_or-replicate, length-replicate}
use Rattle.rows.specs.Scan.{how_many}
use Rattle.rows.specs.Table.{Table, room}
use Rattle.rows.specs.View.{slot, view}
use Rattle.rows.specs.declared.references.Reference.{Reference}
use Rattle.rows.specs.References.{references}
use Rattle.rows.proofs.ViewLaws.{view_at}
use Rattle.guide.specs.Tallies.{tally}
use Rattle.guide.specs.Frees.{any}
use Rattle.guide.specs.References.{places, words, used_at, low_at, size, first, second, cell, with_slot, noted, filled, Guides}
use Rattle.guide.proofs.Changes.{not_none, below_last, added_next}
use Rattle.guide.proofs.TallyLaws.{tally_next}
use Rattle.guide.proofs.Kept.{kept_skip}
use Rattle.guide.proofs.Cells.{first_low, second_low, cell_low}
use Rattle.guide.proofs.Known.{Known, guides_of, slot_low, known_more}

module _ (T : Table) (G : List ℕ) (c : Known (slot references T) 0 G) where
  filled_known : (n : ℕ) → n ≤ room references T → Known (slot references T) n (filled T G n)
  unfolding filled noted
  filled_known zero l = c
  filled_known (suc n) l = next (filled_known n (omega arith))
    where
      by_slot : Known (slot references T) n (filled T G n) → (o : Option Reference) → slot references T n ≡ o → Known (slot references T) (suc n) (with_slot T (filled T G n) n o)
      by_slot k None e =
          record {
            whole = k.whole;
            kept = kept_skip references first second cell places words first_low second_low cell_low (filled T G n) (slot references T) n e k.kept;
            words_shown = λ j y m q. k.words_shown j y (earlier j y m q) q;
            marks_shown = λ j y m q. k.marks_shown j y (earlier j y m q) q;
            counted = λ j h. k.counted j h ∙ omega (arith, tally_next any (slot references T) n None e j);
          }
        where
          earlier : (j : ℕ) (y : Reference) → j < suc n → slot references T j ≡ Some y → j < n
          earlier j y m q = below_last j n m (λ i. not_none y (sym e ∙ ap (slot references T) (sym i) ∙ q))
      by_slot k (Some x) e = known_more T (filled T G n) n x (slot references T) (slot references T) n (suc n) (added_next references T n x l e) k

      next : Known (slot references T) n (filled T G n) → Known (slot references T) (suc n) (with_slot T (filled T G n) n (get_or (view references T) n None))
      next k = subst (λ (o : Option Reference). Known (slot references T) (suc n) (with_slot T (filled T G n) n o)) (sym (view_at references T n l)) (by_slot k (slot references T n) refl)

  -- its word of the lowest free row stays
  filled_low : (n : ℕ) → get_or (filled T G n) low_at 0 ≡ get_or G low_at 0
  unfolding filled noted
  filled_low zero = refl
  filled_low (suc n) = by_slot (get_or (view references T) n None) ∙ filled_low n
    where
      by_slot : (o : Option Reference) → get_or (with_slot T (filled T G n) n o) low_at 0 ≡ get_or (filled T G n) low_at 0
      by_slot None = refl
      by_slot (Some x) = slot_low T (filled T G n) n x

pub guide_filled : (T : Table) → Guides T (filled T (replicate size 0) (room references T))
unfolding tally
guide_filled T =
    guides_of (filled_known T (replicate size 0) first_known (room references T) (omega arith))
    (λ r l e. omega (arith, filled_low T (replicate size 0) first_known (room references T), get_or-replicate {A = ℕ} size low_at 0 0 (omega arith)))
  where
    first_known : Known (slot references T) 0 (replicate size 0)
    first_known =
        record {
          whole = length-replicate {A = ℕ} size 0;
          kept = record {
            long = omega (arith, length-replicate {A = ℕ} size 0);
            listed = λ r x l e. absurd (omega arith);
            tallied = λ k h. get_or-replicate size (places + k) 0 0 (omega arith) ∙ unfold how_many in refl;
          };
          words_shown = λ r x l e. absurd (omega arith);
          marks_shown = λ r x l e. absurd (omega arith);
          counted = λ k h. get_or-replicate size (used_at + k) 0 0 (omega arith) ∙ unfold how_many in refl;
        }
