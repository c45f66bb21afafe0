-- Numbers laid out one after the other are what is written of a line. Assumes nothing.
use mathlib.Core.Path.{◌≡◌, ap, ap₂, sym, ◌∙◌}
use mathlib.Core.Bool.{Bool}
use mathlib.Core.List.{List, [], ◌∷◌, ◌++◌}
use Prim.Native.Nat.{ℕ, suc, ◌+◌, ◌≤◌, ◌<◌}
use native.Mathlib.Omega.{arith}
use native.Mathlib.Numerals.{add-one}
use lib.Dec.{eqb}
use lib.IntN.{ℤ}
use lib.ListN.{length, get_or, drop, set, length-append, length-set, drop_of_length-le}
use lib.Seq.{drop-cons}
use borrow.Author.Tests.{lt-ltb, le-ltb, le-leb}
use Rattle.std.specs.Prelude.{Option, Some, Result, Ok, Err}
use Rattle.words.specs.Text.{tab, line_feed}
use Rattle.numbers.specs.Decimal.{shown}
use Rattle.numbers.specs.Signed.{signed}
use Rattle.numbers.specs.Writing.{put, Puts}
use Rattle.numbers.proofs.Put.{put_one, put_put, put_cons, length_put}
use Rattle.lines.specs.Writing.{tabbed, lettered}
use Rattle.lines.specs.Sizes.{signed_at}
use Rattle.writer.specs.Laid.{Writes}
use Rattle.lines.specs.declared.refusal.Refusal.{Refusal}

-- ---- one number after the other

-- a tab and a number
abbrev pub laid : Bool → ℕ → List ℕ
laid minus v = tab ∷ shown (signed minus v)

-- the numbers from place i on
abbrev pub rest : ℕ → List ℕ → ℕ → List ℕ
rest k vs i = tabbed (signed_at i k (drop i vs))

module _ (k : ℕ) (vs : List ℕ) (i : ℕ) where
  pub rest_next : i < length vs → rest k vs i ≡ laid (eqb i k) (get_or vs i 0) ++ rest k vs (i + 1)
  unfolding tabbed signed_at
  rest_next h = rw (add-one, drop-cons vs i 0 h)

  pub rest_length : i < length vs → length (rest k vs i) ≡ suc (length (shown (signed (eqb i k) (get_or vs i 0)))) + length (rest k vs (i + 1))
  rest_length h = ap length (rest_next h) ∙ length-append (laid (eqb i k) (get_or vs i 0)) (rest k vs (i + 1))

  pub rest_end : length vs ≤ i → rest k vs i ≡ []
  unfolding tabbed signed_at
  rest_end h = rw (drop_of_length-le vs h)

-- the next number is put, and the rest after it
pub put_next : (d : List ℕ) (at k : ℕ) (vs : List ℕ) (i : ℕ) → i < length vs → at + length (rest k vs i) ≤ length d
    → put (put d at (laid (eqb i k) (get_or vs i 0))) (at + suc (length (shown (signed (eqb i k) (get_or vs i 0))))) (rest k vs (i + 1)) ≡ put d at (rest k vs i)
put_next d at k vs i h l =
    let e = rest_length k vs i h in
    put_put d at (laid (eqb i k) (get_or vs i 0)) (rest k vs (i + 1)) (omega arith) ∙ ap (put d at) (sym (rest_next k vs i h))

-- ---- a whole line

pub writes_short : {bs d : List ℕ} → length d < length bs → Writes bs d (Err Refusal.NoRoom) d
writes_short {bs} {d} h = record { reply = rw (lt-ltb (length d) (length bs) h); left = rw (lt-ltb (length d) (length bs) h) }

pub writes_as : {bs cs d d' : List ℕ} {r : Result ℕ Refusal} → bs ≡ cs → Writes bs d r d' → Writes cs d r d'
writes_as e w = rw (← e) w

pub length_lettered : (b : ℕ) (ns : List ℤ) → length (lettered b ns) ≡ length (tabbed ns) + 2
length_lettered b ns = let e = length-append (tabbed ns) (line_feed ∷ []) in omega arith

-- a letter, the numbers after it, and the LF
pub framed : (d : List ℕ) (b : ℕ) (t : List ℕ) → length t + 2 ≤ length d
    → set (put (set d 0 b) 1 t) (1 + length t) line_feed ≡ (b ∷ (t ++ (line_feed ∷ []))) ++ drop (length (b ∷ (t ++ (line_feed ∷ [])))) d
framed d b t h =
    let e : 1 + length t ≡ 0 + length (b ∷ t) = omega arith in
    let l = length_put d 0 (b ∷ t) (omega arith) in
    let z : 0 + length (b ∷ (t ++ (line_feed ∷ []))) ≡ length (b ∷ (t ++ (line_feed ∷ []))) = omega arith in
    ap₂ (λ (x : List ℕ) (i : ℕ). set x i line_feed) (put_cons d 0 b t (omega arith)) e
    ∙ put_one (put d 0 (b ∷ t)) (0 + length (b ∷ t)) line_feed (omega arith)
    ∙ put_put d 0 (b ∷ t) (line_feed ∷ []) (omega arith)
    ∙ ap (λ (i : ℕ). (b ∷ (t ++ (line_feed ∷ []))) ++ drop i d) z

pub writes_framed : (d : List ℕ) (b : ℕ) (ns : List ℤ) {n : ℕ} {d' : List ℕ} → length (tabbed ns) + 2 ≤ length d → n ≡ 1 + length (tabbed ns)
    → d' ≡ set (put (set d 0 b) 1 (tabbed ns)) n line_feed → Writes (lettered b ns) d (Ok (n + 1)) d'
writes_framed d b ns {n} {d'} h e g =
    let l = length_lettered b ns in
    let k : n + 1 ≡ length (lettered b ns) = omega arith in
    let t = le-ltb (length d) (length (lettered b ns)) (omega arith) in
    record {
      reply = rw (t, k);
      left = rw t (g ∙ ap (λ (i : ℕ). set (put (set d 0 b) 1 (tabbed ns)) i line_feed) e ∙ framed d b (tabbed ns) h);
    }

-- ---- a number put after a tab, where there is room

pub put_room : (d : List ℕ) (at : ℕ) (xs : List ℕ) {r : Option ℕ} {d' : List ℕ} → at + suc (length xs) ≤ length d → Puts (set d at tab) (at + 1) xs r d'
    → (r ≡ Some (at + suc (length xs))) × (d' ≡ put d at (tab ∷ xs))
put_room d at xs h p =
    let l = length-set d at tab in
    let t = le-leb (at + 1 + length xs) (length (set d at tab)) (omega arith) in
    let k : at + 1 + length xs ≡ at + suc (length xs) = omega arith in
    (p.reply ∙ rw (t, k), p.left ∙ rw t (put_cons d at tab xs (omega arith)))
