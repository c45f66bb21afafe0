-- The pieces are the lines of the input, but for one that is too long. Assumes nothing.
use mathlib.Core.Path.{◌≡◌, refl, ap, sym, ◌∙◌}
use mathlib.Core.Logic.{◌≢◌}
use mathlib.Core.Bool.{Bool, true, false}
use mathlib.Core.List.{List, [], ◌∷◌, ◌++◌, append-nil}
use Prim.Native.Nat.{ℕ, zero, suc, ◌-◌, ◌<◌}
use native.Mathlib.Omega.{arith}
use lib.ListN.{length, take, drop, get_or, length-append}
use lib.Seq.{length-take-le, get_or-take}
use lib.Dec.{ltb}
use borrow.Author.Tests.{eq-eqb, ne_eqb, eqb-true, ltb-true, ltb-false}
use Rattle.words.specs.Lists.{any}
use Rattle.words.specs.Text.{line_feed}
use Rattle.lines.specs.Line.{longest}
use Rattle.lines.specs.Reading.{refused, onto_first, read}
use Rattle.lines.proofs.Tests.{neither}
use Rattle.lines.proofs.Content.{read_long, read_unended}
use Rattle.history.specs.Report.{lines_of}
use Rattle.pieces.specs.Pieces.{ends_line, before_lf, piece_length}
use Rattle.pieces.proofs.FirstLf.{before_most, none_first, lf_there}
use Rattle.pieces.proofs.Sizes.{piece_some, piece_none}

-- ---- bytes of which none is an LF

ended_line : (n : ℕ) (s : List ℕ) → any ends_line (take n s) ≡ false → n < length s → get_or s n 0 ≡ line_feed
    → lines_of s ≡ take (suc n) s ∷ lines_of (drop (suc n) s)
unfolding lines_of
ended_line n [] a h e = absurd (omega arith)
ended_line zero (b ∷ s) a h e = rw (eq-eqb b line_feed e)
ended_line (suc n) (b ∷ s) a h e =
    let m = neither (ends_line b) (any ends_line (take n s)) a in
    rw m.0 (ap (onto_first b) (ended_line n s m.1 (omega arith) e))

unended_line : (b : ℕ) (s : List ℕ) → any ends_line (b ∷ s) ≡ false → lines_of (b ∷ s) ≡ (b ∷ s) ∷ []
unfolding lines_of
unended_line b [] a = rw (neither (ends_line b) false a).0
unended_line b (x ∷ s) a =
    let m = neither (ends_line b) (any ends_line (x ∷ s)) a in
    rw m.0 (ap (onto_first b) (unended_line x s m.1))

-- the first line starts with these bytes
record Starts (piece : List ℕ) (lines : List (List ℕ)) : Type 0 where
  pub more : List ℕ
  pub others : List (List ℕ)
  pub are : lines ≡ (piece ++ more) ∷ others

starts_one : (b : ℕ) (lines : List (List ℕ)) → Starts (b ∷ []) (onto_first b lines)
starts_one b [] = record { more = []; others = []; are = refl }
starts_one b (w ∷ ws) = record { more = w; others = ws; are = refl }

starts : (n : ℕ) (s : List ℕ) → any ends_line (take (suc n) s) ≡ false → n < length s → Starts (take (suc n) s) (lines_of s)
unfolding lines_of
starts n [] a h = absurd (omega arith)
starts zero (b ∷ s) a h = rw (neither (ends_line b) false a).0 (starts_one b (lines_of s))
starts (suc n) (b ∷ s) a h =
    let m = neither (ends_line b) (any ends_line (take (suc n) s)) a in
    let t = starts n s m.1 (omega arith) in
    rw m.0 (record { more = t.more; others = t.others; are = ap (onto_first b) t.are })

one_more : (n : ℕ) (s : List ℕ) → any ends_line (take n s) ≡ false → ends_line (get_or s n 0) ≡ false → any ends_line (take (suc n) s) ≡ false
one_more n [] a e = refl
one_more zero (b ∷ s) a e = rw e
one_more (suc n) (b ∷ s) a e =
    let m = neither (ends_line b) (any ends_line (take n s)) a in
    rw m.0 (one_more n s m.1 e)

-- ---- a piece

module _ (s : List ℕ) (n : ℕ) (size : piece_length s ≡ suc n) where
  none_in : any ends_line (take n s) ≡ false
  none_in = rw (piece_some s n size).0 at (none_first s)

  -- one that an LF ends is the first line
  pub line_first : get_or s n 0 ≡ line_feed → lines_of s ≡ take (suc n) s ∷ lines_of (drop (suc n) s)
  line_first e = ended_line n s none_in (piece_some s n size).1 e

  -- any other is 225 bytes
  unended_long : get_or s n 0 ≢ line_feed → n ≡ longest
  unended_long other = let at = piece_some s n size in go (ltb n longest) refl at
    where
      go : (t : Bool) → ltb n longest ≡ t → (before_lf s ≡ n) × (n < length s) → n ≡ longest
      go true p at =
          let l = ltb-true n longest p in
          absurd (other (eqb-true (get_or s n 0) line_feed (rw at.0 at (lf_there s (omega arith) (omega arith)))))
      go false p at = let l = ltb-false n longest p in let m = before_most s in omega arith

-- the first line and the piece are both refused with 1
pub record Overlong (piece : List ℕ) (lines : List (List ℕ)) : Type 0 where
  pub line : List ℕ
  pub others : List (List ℕ)
  pub are : lines ≡ line ∷ others
  pub line_refused : read line ≡ refused 1
  pub piece_refused : read piece ≡ refused 1

module _ (s : List ℕ) (n : ℕ) (size : piece_length s ≡ suc n) (other : get_or s n 0 ≢ line_feed) where
  piece_refused : read (take (suc n) s) ≡ refused 1
  piece_refused =
      let l = length-take-le (suc n) s (piece_some s n size).1 in
      let k : length (take (suc n) s) - 1 ≡ n = omega arith in
      sym (read_unended (take (suc n) s) (λ e. other (sym (ap (λ (i : ℕ). get_or (take (suc n) s) i 0) k ∙ get_or-take (suc n) s n 0 (omega arith)) ∙ e)))

  longer_refused : (more : List ℕ) → read (take (suc n) s ++ more) ≡ refused 1
  longer_refused [] = rw append-nil piece_refused
  longer_refused (b ∷ more) =
      let k = unended_long s n size other in
      let l = length-take-le (suc n) s (piece_some s n size).1 in
      let m = length-append (take (suc n) s) (b ∷ more) in
      sym (read_long (take (suc n) s ++ (b ∷ more)) (omega arith))

  pub overlong_first : Overlong (take (suc n) s) (lines_of s)
  overlong_first =
      let t = starts n s (one_more n s (none_in s n size) (ne_eqb (get_or s n 0) line_feed other)) (piece_some s n size).1 in
      record {
        line = take (suc n) s ++ t.more;
        others = t.others;
        are = t.are;
        line_refused = longer_refused t.more;
        piece_refused = piece_refused;
      }

-- ---- the end of the input

-- what is left of it is its last line
pub last_line : (b : ℕ) (s : List ℕ) → piece_length (b ∷ s) ≡ 0 → lines_of (b ∷ s) ≡ (b ∷ s) ∷ []
last_line b s h = unended_line b s (piece_none (b ∷ s) h).1

pub no_line : lines_of [] ≡ []
unfolding lines_of
no_line = refl
