-- A line is read from its own letter and numbers, and from no others. Assumes nothing.
use mathlib.Core.Path.{◌≡◌, refl, ap, ap₂, sym, ◌∙◌}
use mathlib.Core.Bool.{Bool, true, false, not, true≢false}
use mathlib.Core.List.{List, [], ◌∷◌, ◌++◌, map, append-nil}
use Prim.Native.Nat.{ℕ, suc, ◌≤◌}
use Prim.Native.Char.{code}
use native.Mathlib.Omega.{arith}
use lib.Dec.{leb}
use lib.IntN.{ℤ, pos, negsuc}
use lib.ListN.{length, length-map, drop_of_length-le}
use lib.Seq.{take_all}
use borrow.Author.Tests.{leb-true}
use Rattle.words.specs.Choice.{if_true◌then◌else◌, within}
use Rattle.words.specs.Lists.{any}
use Rattle.numbers.specs.Signed.{is_negative}
use Rattle.lines.specs.Line.{K, O, M, Line, N, X, C, R, A, D, Z, states, is_allowed, is_thread, is_env, is_argument, above_zero, most_handles}
use Rattle.lines.specs.Forms.{Form, most_fields, enter_form, leave_form, call_form, return_form, attach_form, detach_form, declare_form, state_form, identify_form, end_form, forms, of_letter, form_of, letter_of, numbers_of}
use Rattle.lines.specs.Reading.{says, refused, if_allowed, without, in_form, line_of}
use Rattle.lines.proofs.Tests.{neither, all4}
use Rattle.lines.proofs.Listed.{of_length}
use Rattle.lines.proofs.Formed.{is_within, within_low, within_high, within_one, no_count, of_each, letter_is}

-- ---- numbers without a sign

pub none_negative : (hs : List ℕ) → any is_negative (map pos hs) ≡ false
none_negative [] = refl
none_negative (h ∷ hs) = none_negative hs

pub sizes : (hs : List ℕ) → map above_zero (map pos hs) ≡ hs
sizes [] = refl
sizes (h ∷ hs) = ap (λ x. h ∷ x) (sizes hs)

not_negative : (z : ℤ) → is_negative z ≡ false → pos (above_zero z) ≡ z
not_negative (pos n) h = refl
not_negative (negsuc n) h = let z : ◌≡◌ {A = ℕ} 0 1 = cc in absurd (omega arith)

pub plain : (ns : List ℤ) → any is_negative ns ≡ false → map pos (map above_zero ns) ≡ ns
plain [] h = refl
plain (n ∷ ns) h =
    let k = neither (is_negative n) (any is_negative ns) h in
    ap₂ (λ x y. x ∷ y) (not_negative n k.0) (plain ns k.1)

-- a place past them is none of theirs
without_none : (k : ℕ) (ns : List ℤ) → length ns ≤ k → without k ns ≡ ns
without_none k ns h = rw (take_all k ns h, drop_of_length-le ns {i = suc k} (omega arith), append-nil ns)

-- ---- numbers that are read are those of an allowed line

pub never : {k : ℕ} {e : Line} → refused k ≡ says e → ⊥
never h = let z : ◌≡◌ {A = ℕ} 0 1 = cc in omega arith

pub if_allowed_said : (x e : Line) → if_allowed x ≡ says e → x ≡ e
if_allowed_said x e = go (is_allowed x)
  where
    go : (t : Bool) → (if_true t then says x else refused 3) ≡ says e → x ≡ e
    go true h = cc
    go false h = absurd (never h)

-- numbers in a form that say a line
pub record Formed (f : Form) (ns : List ℤ) (e : Line) : Type 0 where
  pub count : within f.least f.most (length ns) ≡ true
  pub plain : any is_negative (without f.signed ns) ≡ false
  pub is : f.line ns ≡ e
  pub allowed : is_allowed e ≡ true

pub in_form_said : (f : Form) (ns : List ℤ) (e : Line) → in_form f ns ≡ says e → Formed f ns e
in_form_said f ns e = go (within f.least f.most (length ns)) refl (any is_negative (without f.signed ns)) refl (is_allowed (f.line ns)) refl
  where
    go : (a : Bool) → within f.least f.most (length ns) ≡ a → (b : Bool) → any is_negative (without f.signed ns) ≡ b
        → (c : Bool) → is_allowed (f.line ns) ≡ c
        → (if_true not a then refused 2 else if_true b then refused 3 else if_true c then says (f.line ns) else refused 3) ≡ says e → Formed f ns e
    go true p false q true r h = let i : f.line ns ≡ e = cc in record { count = p; plain = q; is = i; allowed = ap is_allowed (sym i) ∙ r }
    go true p false q false r h = absurd (never h)
    go true p true q c r h = absurd (never h)
    go false p b q c r h = absurd (never h)

-- ---- an allowed line is read from its numbers

formed : (f : Form) (ns : List ℤ) (e : Line) → within f.least f.most (length ns) ≡ true → any is_negative (without f.signed ns) ≡ false → f.line ns ≡ e
    → in_form f ns ≡ if_allowed e
formed f ns e c p i = rw (c, p, i)

pub enter_numbers : (t env : ℕ) (hs : List ℕ) → length hs ≤ most_handles → line_of (code "N") (pos t ∷ pos env ∷ map pos hs) ≡ if_allowed (N t env hs)
unfolding line_of of_letter
enter_numbers t env hs l =
    let m : length (map pos hs) ≡ length hs = length-map hs pos in
    let ns = pos t ∷ pos env ∷ map pos hs in
    formed enter_form ns (N t env hs)
    (is_within 2 most_fields (length ns) (omega arith) (omega arith))
    (ap (any is_negative) (without_none most_fields ns (omega arith)) ∙ none_negative (t ∷ env ∷ hs))
    (ap (N t env) (sizes hs))

pub line_says : (e : Line) → is_allowed e ≡ true → line_of (letter_of e) (numbers_of e) ≡ says e
unfolding line_of of_letter
line_says (N t env hs) h =
    let k = all4 (is_thread t) (is_env env) (leb (length hs) most_handles) (not (any (λ (x : ℕ). not (is_argument x)) hs)) h in
    enter_numbers t env hs (leb-true (length hs) most_handles k.2) ∙ rw h
line_says (X t r) h = rw h
line_says (C t env f a b c n) h = rw h
line_says (R t f r p) h = rw h
line_says (A t env) h = rw h
line_says (D t) h = rw h
line_says Z h = refl
line_says (states (K c s)) h = rw h
line_says (states (O t v c)) h = rw h
line_says (states (M x sort c static final)) h = rw h

-- ---- a line made of numbers is taken apart into them

abbrev Apart : Form → List ℤ → Type 0
Apart f ns = any is_negative (without f.signed ns) ≡ false → (letter_of (f.line ns) ≡ f.letter) × (numbers_of (f.line ns) ≡ ns)

enter_apart : (ns : List ℤ) → within 2 most_fields (length ns) ≡ true → Apart enter_form ns
enter_apart ns l h = (refl, go ns (within_low 2 most_fields (length ns) l) (sym (ap (any is_negative) (without_none most_fields ns (within_high 2 most_fields (length ns) l))) ∙ h))
  where
    go : (ns : List ℤ) → 2 ≤ length ns → any is_negative ns ≡ false → numbers_of (enter_form.line ns) ≡ ns
    go [] l h = absurd (omega arith)
    go (t ∷ []) l h = absurd (omega arith)
    go (t ∷ env ∷ hs) l h = plain (t ∷ env ∷ hs) h

leave_apart : (t r : ℤ) → Apart leave_form (t ∷ r ∷ [])
leave_apart t r h = (refl, plain (t ∷ r ∷ []) h)

call_apart : (t env f a b c n : ℤ) → Apart call_form (t ∷ env ∷ f ∷ a ∷ b ∷ c ∷ n ∷ [])
call_apart t env f a b c n h = (refl, ap (λ (xs : List ℤ). xs ++ (n ∷ [])) (plain (t ∷ env ∷ f ∷ a ∷ b ∷ c ∷ []) h))

return_apart : (t f r p : ℤ) → Apart return_form (t ∷ f ∷ r ∷ p ∷ [])
return_apart t f r p h =
    let q : pos (above_zero t) ∷ pos (above_zero f) ∷ pos (above_zero p) ∷ [] ≡ t ∷ f ∷ p ∷ [] = plain (t ∷ f ∷ p ∷ []) h in
    (refl, cc)

attach_apart : (t env : ℤ) → Apart attach_form (t ∷ env ∷ [])
attach_apart t env h = (refl, plain (t ∷ env ∷ []) h)

detach_apart : (t : ℤ) → Apart detach_form (t ∷ [])
detach_apart t h = (refl, plain (t ∷ []) h)

declare_apart : (c s : ℤ) → Apart declare_form (c ∷ s ∷ [])
declare_apart c s h = (refl, plain (c ∷ s ∷ []) h)

state_apart : (t v c : ℤ) → Apart state_form (t ∷ v ∷ c ∷ [])
state_apart t v c h = (refl, plain (t ∷ v ∷ c ∷ []) h)

identify_apart : (x sort c static final : ℤ) → Apart identify_form (x ∷ sort ∷ c ∷ static ∷ final ∷ [])
identify_apart x sort c static final h = (refl, plain (x ∷ sort ∷ c ∷ static ∷ final ∷ []) h)

apart : (b : ℕ) (ns : List ℤ) → within (form_of b).least (form_of b).most (length ns) ≡ true → Apart (form_of b) ns
apart =
    of_each (λ f. (ns : List ℤ) → within f.least f.most (length ns) ≡ true → Apart f ns) forms (
      enter_apart,
      (
        λ ns l. of_length 2 (Apart leave_form) leave_apart ns (within_one 2 (length ns) l),
        (
          λ ns l. of_length 7 (Apart call_form) call_apart ns (within_one 7 (length ns) l),
          (
            λ ns l. of_length 4 (Apart return_form) return_apart ns (within_one 4 (length ns) l),
            (
              λ ns l. of_length 2 (Apart attach_form) attach_apart ns (within_one 2 (length ns) l),
              (
                λ ns l. of_length 1 (Apart detach_form) detach_apart ns (within_one 1 (length ns) l),
                (
                  λ ns l. of_length 2 (Apart declare_form) declare_apart ns (within_one 2 (length ns) l),
                  (
                    λ ns l. of_length 3 (Apart state_form) state_apart ns (within_one 3 (length ns) l),
                    (
                      λ ns l. of_length 5 (Apart identify_form) identify_apart ns (within_one 5 (length ns) l),
                      (
                        λ ns l. of_length 0 (Apart end_form) (λ h. (refl, refl)) ns (within_one 0 (length ns) l),
                        tt,
                      ),
                    ),
                  ),
                ),
              ),
            ),
          ),
        ),
      ),
    )
    (λ b ns l. absurd (true≢false (sym l ∙ no_count (length ns))))

pub record Numbered (b : ℕ) (ns : List ℤ) (e : Line) : Type 0 where
  pub letter : letter_of e ≡ b
  pub numbers : numbers_of e ≡ ns
  pub allowed : is_allowed e ≡ true

pub line_said : (b : ℕ) (ns : List ℤ) (e : Line) → line_of b ns ≡ says e → Numbered b ns e
unfolding line_of
line_said b ns e h =
    let k = in_form_said (form_of b) ns e h in
    let a = apart b ns k.count k.plain in
    record { letter = ap letter_of (sym k.is) ∙ a.0 ∙ letter_is b; numbers = ap numbers_of (sym k.is) ∙ a.1; allowed = k.allowed }
