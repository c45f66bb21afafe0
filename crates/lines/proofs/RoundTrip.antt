-- A line is read from exactly the bytes that are written of it. Assumes nothing.
use mathlib.Core.Path.{◌≡◌, refl, ap, ap₂, sym, ◌∙◌}
use mathlib.Core.Logic.{◌↔◌}
use mathlib.Core.Bool.{Bool, true, false, not, ◌||◌}
use mathlib.Core.List.{List, [], ◌∷◌, ◌++◌, map}
use Rattle.std.specs.Prelude.{Option, None, Some}
use Prim.Native.Nat.{ℕ, suc, ◌-◌, ◌<◌}
use native.Mathlib.Omega.{arith}
use lib.Dec.{eqb, ltb}
use lib.IntN.{ℤ}
use lib.ListN.{length, get_or, take, length-append}
use lib.Seq.{take_at, get_or_at, take-suc, take-length}
use borrow.Author.Tests.{eqb-true, eqb-false, eq-eqb, ne_eqb, le-ltb}
use Rattle.words.specs.Choice.{if_true◌then◌else◌}
use Rattle.words.specs.Lists.{any}
use Rattle.words.specs.Text.{tab, line_feed}
use Rattle.numbers.specs.Decimal.{number, shown}
use Rattle.numbers.proofs.Back.{written_is_read, read_was_written}
use Rattle.numbers.proofs.Bytes.{Parts, not_in_shown}
use Rattle.lines.specs.Line.{K, O, M, Line, N, X, C, R, A, D, Z, states, is_allowed, longest}
use Rattle.lines.specs.Forms.{letter_of, numbers_of}
use Rattle.lines.specs.Reading.{says, refused, fields, and_number, numbers, if_numbers, of_fields, read}
use Rattle.lines.specs.Writing.{tabbed, written}
use Rattle.lines.proofs.Tests.{neither, or_false}
use Rattle.lines.proofs.Cut.{is_tab, tails, parted, parted_fields, NoTabs, fields_parted, tabbed_tails}
use Rattle.lines.proofs.Numbered.{line_says, line_said, never}
use Rattle.lines.proofs.Fits.{length_written}

-- a line without its LF
abbrev pub content_of : Line → List ℕ
content_of e = letter_of e ∷ tabbed (numbers_of e)

pub written_content : (e : Line) → written e ≡ content_of e ++ (line_feed ∷ [])
unfolding written
written_content e = refl

-- ---- tabs and LF stand where they belong

tab_parts : Parts tab
tab_parts = record { no_digit = refl; no_minus = refl }

line_feed_parts : Parts line_feed
line_feed_parts = record { no_digit = refl; no_minus = refl }

no_tabs : (ns : List ℤ) → NoTabs (map shown ns)
no_tabs [] = tt
no_tabs (n ∷ ns) = (not_in_shown tab_parts n, no_tabs ns)

abbrev pub is_line_feed : ℕ → Bool
is_line_feed b = eqb b line_feed

any_append : (f : ℕ → Bool) (s t : List ℕ) → any f s ≡ false → any f t ≡ false → any f (s ++ t) ≡ false
any_append f [] t h g = g
any_append f (b ∷ s) t h g = let k = neither (f b) (any f s) h in rw k.0 (any_append f s t k.1 g)

none_tabbed : (ns : List ℤ) → any is_line_feed (tabbed ns) ≡ false
unfolding tabbed
none_tabbed [] = refl
none_tabbed (n ∷ ns) = any_append is_line_feed (shown n) (tabbed ns) (not_in_shown line_feed_parts n) (none_tabbed ns)

-- a letter is neither
letter_plain : (e : Line) → (is_tab (letter_of e) ≡ false) × (is_line_feed (letter_of e) ≡ false)
letter_plain (N t env hs) = (refl, refl)
letter_plain (X t r) = (refl, refl)
letter_plain (C t env f a b c n) = (refl, refl)
letter_plain (R t f r p) = (refl, refl)
letter_plain (A t env) = (refl, refl)
letter_plain (D t) = (refl, refl)
letter_plain Z = (refl, refl)
letter_plain (states (K c s)) = (refl, refl)
letter_plain (states (O t h c)) = (refl, refl)
letter_plain (states (M x sort c static final)) = (refl, refl)

pub fields_written : (e : Line) → fields (content_of e) ≡ (letter_of e ∷ []) ∷ map shown (numbers_of e)
fields_written e =
    ap (λ (x : List ℕ). fields (letter_of e ∷ x)) (tabbed_tails (numbers_of e))
    ∙ fields_parted (letter_of e ∷ []) (map shown (numbers_of e)) (or_false (is_tab (letter_of e)) ∙ (letter_plain e).0) (no_tabs (numbers_of e))

-- the only LF is the last byte
pub no_line_feed : (e : Line) → any is_line_feed (content_of e) ≡ false
no_line_feed e = rest (letter_of e) (letter_plain e).1 (numbers_of e)
  where
    rest : (b : ℕ) → is_line_feed b ≡ false → (ns : List ℤ) → any is_line_feed (b ∷ tabbed ns) ≡ false
    rest b h ns = rw h (none_tabbed ns)

-- ---- reading what was written

pub numbers_shown : (ns : List ℤ) → numbers (map shown ns) ≡ Some ns
unfolding numbers
numbers_shown [] = refl
numbers_shown (n ∷ ns) = ap₂ and_number (written_is_read n) (numbers_shown ns)

of_written : (e : Line) → is_allowed e ≡ true → of_fields (fields (content_of e)) ≡ says e
unfolding of_fields
of_written e h =
    ap of_fields (fields_written e)
    ∙ ap (if_numbers (letter_of e)) (numbers_shown (numbers_of e))
    ∙ line_says e h

pub read_written : (e : Line) → is_allowed e ≡ true → read (written e) ≡ says e
unfolding read
read_written e h =
    let s = content_of e ++ (line_feed ∷ []) in
    let a = length_written e h in
    let b = ap length (written_content e) in
    let l = length-append (content_of e) (line_feed ∷ []) in
    let m : length (content_of e) ≡ length s - 1 = omega arith in
    ap read (written_content e)
    ∙ rw (ne_eqb (length s) 0 (λ z. omega arith))
    (rw (le-ltb (suc longest) (length s) (omega arith))
    (rw (eq-eqb (get_or s (length s - 1) 0) line_feed (get_or_at (content_of e) line_feed [] 0 (length s - 1) m))
    (ap (λ (x : List ℕ). of_fields (fields x)) (take_at (content_of e) (line_feed ∷ []) (length s - 1) m) ∙ of_written e h)))

-- ---- writing what was read

-- all that was read as numbers is what is written of them
pub shown_numbers : (ws : List (List ℕ)) (ns : List ℤ) → numbers ws ≡ Some ns → ws ≡ map shown ns
unfolding numbers
shown_numbers [] ns h = let k : ns ≡ [] = cc in rw k
shown_numbers (w ∷ ws) ns h = go (number w) refl (numbers ws) refl (shown_numbers ws) h
  where
    go : (a : Option ℤ) → number w ≡ a → (b : Option (List ℤ)) → numbers ws ≡ b
        → ((ms : List ℤ) → numbers ws ≡ Some ms → ws ≡ map shown ms) → and_number a b ≡ Some ns → w ∷ ws ≡ map shown ns
    go None p b q ih h = let z : ◌≡◌ {A = ℕ} 0 1 = cc in absurd (omega arith)
    go (Some n) p None q ih h = let z : ◌≡◌ {A = ℕ} 0 1 = cc in absurd (omega arith)
    go (Some n) p (Some ms) q ih h =
        let k : ns ≡ n ∷ ms = cc in
        rw k (ap₂ (λ (x : List ℕ) (y : List (List ℕ)). x ∷ y) (sym (read_was_written w n p)) (ih ms q))

record Said (c : List ℕ) (e : Line) : Type 0 where
  content : content_of e ≡ c
  allowed : is_allowed e ≡ true

of_said : (ws : List (List ℕ)) (e : Line) → of_fields ws ≡ says e → Said (parted ws) e
unfolding of_fields
of_said [] e h = absurd (never h)
of_said ([] ∷ ws) e h = absurd (never h)
of_said ((b ∷ []) ∷ ws) e h = go (numbers ws) refl h
  where
    go : (a : Option (List ℤ)) → numbers ws ≡ a → if_numbers b a ≡ says e → Said (b ∷ tails ws) e
    go None p h = absurd (never h)
    go (Some ns) p h =
        let k = line_said b ns e h in
        record {
          content = ap₂ (λ (x : ℕ) (y : List ℤ). x ∷ tabbed y) k.letter k.numbers ∙ ap (λ (x : List ℕ). b ∷ x) (tabbed_tails ns ∙ ap tails (sym (shown_numbers ws ns p)));
          allowed = k.allowed;
        }
of_said ((b ∷ x ∷ xs) ∷ ws) e h = absurd (never h)

last_byte : (s : List ℕ) (b : ℕ) → 0 < length s → get_or s (length s - 1) 0 ≡ b → take (length s - 1) s ++ (b ∷ []) ≡ s
last_byte s b h e =
    let n = length s - 1 in
    let k : suc n ≡ length s = omega arith in
    ap (λ (x : ℕ). take n s ++ (x ∷ [])) (sym e) ∙ sym (take-suc s n 0 (omega arith)) ∙ ap (λ (i : ℕ). take i s) k ∙ take-length s

pub written_read : (bs : List ℕ) (e : Line) → read bs ≡ says e → (written e ≡ bs) × (is_allowed e ≡ true)
unfolding read
written_read bs e = go (eqb (length bs) 0) refl (ltb (suc longest) (length bs)) (eqb (get_or bs (length bs - 1) 0) line_feed) refl
  where
    go : (a : Bool) → eqb (length bs) 0 ≡ a → (b : Bool) → (c : Bool) → eqb (get_or bs (length bs - 1) 0) line_feed ≡ c
        → (if_true a || b || not c then refused 1 else of_fields (fields (take (length bs - 1) bs))) ≡ says e
        → (written e ≡ bs) × (is_allowed e ≡ true)
    go true p b c q h = absurd (never h)
    go false p true c q h = absurd (never h)
    go false p false false q h = absurd (never h)
    go false p false true q h =
        let c = take (length bs - 1) bs in
        let n = eqb-false (length bs) 0 p in
        let k = of_said (fields c) e h in (
          written_content e
              ∙ ap (λ (x : List ℕ). x ++ (line_feed ∷ [])) (k.content ∙ parted_fields c)
              ∙ last_byte bs line_feed (omega arith) (eqb-true (get_or bs (length bs - 1) 0) line_feed q),
          k.allowed,
        )

-- ---- both ways

pub read_exactly : (bs : List ℕ) (e : Line) → (read bs ≡ says e) ↔ ((is_allowed e ≡ true) × (written e ≡ bs))
read_exactly bs e = (
  λ h. let k = written_read bs e h in (k.1, k.0),
  λ h. ap read (sym h.1) ∙ read_written e h.0,
)

pub read_allowed : (bs : List ℕ) (e : Line) → read bs ≡ says e → is_allowed e ≡ true
read_allowed bs e h = (written_read bs e h).1

pub written_injective : (e f : Line) → is_allowed e ≡ true → is_allowed f ≡ true → written e ≡ written f → e ≡ f
written_injective e f a b h = let k : says e ≡ says f = sym (read_written e a) ∙ ap read h ∙ read_written f b in cc
