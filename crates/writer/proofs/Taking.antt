-- An event taken apart is what it means, and the line of its numbers is what is written. Assumes nothing.
use mathlib.Core.Path.{◌≡◌, refl, ap, sym, subst, ◌∙◌}
use mathlib.Core.Bool.{Bool, true, false, not, ◌&&◌}
use mathlib.Core.List.{List, [], ◌∷◌}
use Prim.Native.Nat.{ℕ, suc, ◌+◌, ◌≤◌}
use Prim.Native.Char.{code}
use native.Mathlib.Omega.{arith}
use lib.Dec.{eqb, leb}
use lib.IntN.{ℤ, pos, negsuc, nat_abs}
use lib.ListN.{length, get_or, take, drop}
use borrow.Author.Tests.{leb-true, ne_eqb}
use Rattle.std.specs.Bool.{then_some}
use Rattle.std.specs.Prelude.{Option, None, Some, Result, Ok, Err}
use Rattle.words.specs.Choice.{if_true◌then◌else◌}
use Rattle.words.specs.Lists.{any}
use Rattle.numbers.specs.Signed.{is_negative}
use Rattle.lines.specs.Line.{K, O, M, Line, N, X, C, R, A, D, Z, states, is_allowed, is_zero, most_handles}
use Rattle.lines.specs.Forms.{most_fields, of_letter}
use Rattle.lines.specs.Reading.{Read, says, refused, if_allowed, line_of}
use Rattle.lines.specs.Writing.{lettered}
use Rattle.lines.specs.Events.{gives_status, event_in, event_of, not_zero, with_slots, meant_in}
use Rattle.lines.specs.Sizes.{signed_at, numbers_in, line_in, named}
use Rattle.lines.specs.declared.Event.{Event}
use Rattle.lines.specs.declared.refusal.Refusal.{Refusal}
use Rattle.lines.proofs.Every.{all_passed}
use Rattle.lines.proofs.Tests.{both}
use Rattle.lines.proofs.Listed.{of_length}
use Rattle.lines.proofs.Formed.{is_within}
use Rattle.lines.proofs.FormLaws.{enter_in}
use Rattle.lines.proofs.GatheredLaws.{line_in_said}
use Rattle.lines.proofs.Answered.{event_refused, event_said}
use Rattle.writer.specs.Laid.{Writes, Answers}
use Rattle.writer.specs.Apart.{taken, are_empty, apart_return, apart}
use Rattle.writer.specs.declared.apart.Taken.{Taken}

pub zero_size : (n : ℤ) → eqb (nat_abs n) 0 ≡ is_zero n
zero_size (pos n) = refl
zero_size (negsuc n) = ne_eqb (suc n) 0 (λ e. omega arith)

-- the eight slots, one by one
pub slot_list : (hs : List ℕ) → length hs ≡ most_handles
    → get_or hs 0 0 ∷ get_or hs 1 0 ∷ get_or hs 2 0 ∷ get_or hs 3 0 ∷ get_or hs 4 0 ∷ get_or hs 5 0 ∷ get_or hs 6 0 ∷ get_or hs 7 0 ∷ [] ≡ hs
slot_list =
    of_length 8 (λ hs. get_or hs 0 0 ∷ get_or hs 1 0 ∷ get_or hs 2 0 ∷ get_or hs 3 0 ∷ get_or hs 4 0 ∷ get_or hs 5 0 ∷ get_or hs 6 0 ∷ get_or hs 7 0 ∷ [] ≡ hs) (λ _ _ _ _ _ _ _ _. refl)

-- ---- the line of what was taken apart

abbrev taken_line : Option Taken → Read
taken_line None = refused 3
taken_line (Some t) = line_in t.letter t.count t.minus t.values

-- no slot from n on names a handle
abbrev no_handle : ℕ → List ℕ → Bool
no_handle n hs = not (any not_zero (drop n hs))

empty : (n : ℕ) (hs : List ℕ) → are_empty n hs ≡ no_handle n hs
empty n hs = all_passed (λ (h : ℕ). eqb h 0) (drop n hs)

split : (b : Bool) {a : Bool} → a ≡ b → (e : Line) (t : Taken) → (b ≡ true → if_allowed e ≡ taken_line (Some t))
    → (if_true b && is_allowed e then says e else refused 3) ≡ taken_line (then_some a t)
split true p e t h = h refl ∙ ap (λ (a : Bool). taken_line (then_some a t)) (sym p)
split false p e t h = ap (λ (a : Bool). taken_line (then_some a t)) (sym p)

enter_meant : (t env n : ℕ) (hs : List ℕ) → length hs ≡ most_handles → meant_in (Event.Enter t env n) hs ≡ taken_line (apart (Event.Enter t env n) hs)
unfolding of_letter
enter_meant t env n hs l = split (leb n most_handles && no_handle n hs) (ap (λ (x : Bool). leb n most_handles && x) (empty n hs)) (N t env (take n hs)) _ (λ a.
    let few = leb-true n most_handles (both (leb n most_handles) (no_handle n hs) a).0 in
    let k : n + 2 ≡ suc (suc n) = omega arith in
    ap (λ (i : ℕ). if_allowed (N t env (named i (t ∷ env ∷ hs)))) (sym k)
    ∙ enter_in (code "N") (n + 2) false (t ∷ env ∷ hs) (omega arith) (is_within 2 most_fields (n + 2) (omega arith) (omega arith)) refl)

call_meant : (t env f a b c : ℕ) (n : ℤ) (hs : List ℕ) → meant_in (Event.Call t env f a b c n) hs ≡ taken_line (apart (Event.Call t env f a b c n) hs)
unfolding line_in line_of of_letter signed_at
call_meant t env f a b c (pos n) hs = split (no_handle 0 hs) (empty 0 hs) (C t env f a b c (pos n)) _ (λ _. refl)
call_meant t env f a b c (negsuc n) hs = split (no_handle 0 hs) (empty 0 hs) (C t env f a b c (negsuc n)) _ (λ _. refl)

status_meant : (t f r : ℕ) (s : ℤ) (p : ℕ) (hs : List ℕ)
    → (if_true eqb r 0 then with_slots 0 hs (R t f s p) else refused 3)
    ≡ taken_line (taken (code "R") 4 (is_negative s) (t ∷ f ∷ nat_abs s ∷ p ∷ 0 ∷ 0 ∷ 0 ∷ 0 ∷ 0 ∷ 0 ∷ []) (eqb r 0 && are_empty 0 hs))
unfolding line_in line_of of_letter signed_at
status_meant t f r s p hs = go (eqb r 0) s
  where
    go : (z : Bool) (s : ℤ) → (if_true z then with_slots 0 hs (R t f s p) else refused 3)
        ≡ taken_line (taken (code "R") 4 (is_negative s) (t ∷ f ∷ nat_abs s ∷ p ∷ 0 ∷ 0 ∷ 0 ∷ 0 ∷ 0 ∷ 0 ∷ []) (z && are_empty 0 hs))
    go true (pos n) = split (no_handle 0 hs) (empty 0 hs) (R t f (pos n) p) _ (λ _. refl)
    go true (negsuc n) = split (no_handle 0 hs) (empty 0 hs) (R t f (negsuc n) p) _ (λ _. refl)
    go false s = refl

result_meant : (t f r : ℕ) (s : ℤ) (p : ℕ) (hs : List ℕ)
    → (if_true is_zero s then with_slots 0 hs (R t f (pos r) p) else refused 3)
    ≡ taken_line (taken (code "R") 4 false (t ∷ f ∷ r ∷ p ∷ 0 ∷ 0 ∷ 0 ∷ 0 ∷ 0 ∷ 0 ∷ []) (is_zero s && are_empty 0 hs))
unfolding line_in line_of of_letter signed_at
result_meant t f r s p hs = go (is_zero s)
  where
    go : (z : Bool) → (if_true z then with_slots 0 hs (R t f (pos r) p) else refused 3)
        ≡ taken_line (taken (code "R") 4 false (t ∷ f ∷ r ∷ p ∷ 0 ∷ 0 ∷ 0 ∷ 0 ∷ 0 ∷ 0 ∷ []) (z && are_empty 0 hs))
    go true = split (no_handle 0 hs) (empty 0 hs) (R t f (pos r) p) _ (λ _. refl)
    go false = refl

return_meant : (t f r : ℕ) (s : ℤ) (p : ℕ) (hs : List ℕ) → meant_in (Event.Return t f r s p) hs ≡ taken_line (apart (Event.Return t f r s p) hs)
unfolding apart_return
return_meant t f r s p hs = go (gives_status f) refl
  where
    go : (x : Bool) → gives_status f ≡ x → meant_in (Event.Return t f r s p) hs ≡ taken_line (apart (Event.Return t f r s p) hs)
    go true e = rw e (status_meant t f r s p hs)
    go false e = rw e (result_meant t f r s p hs)

pub apart_meant : (e : Event) (hs : List ℕ) → length hs ≡ most_handles → meant_in e hs ≡ taken_line (apart e hs)
unfolding line_in line_of of_letter signed_at
apart_meant (Event.Enter t env n) hs l = enter_meant t env n hs l
apart_meant (Event.Leave t r) hs l = split (no_handle 0 hs) (empty 0 hs) (X t r) _ (λ _. refl)
apart_meant (Event.Call t env f a b c n) hs l = call_meant t env f a b c n hs
apart_meant (Event.Return t f r s p) hs l = return_meant t f r s p hs
apart_meant (Event.Attach t env) hs l = split (no_handle 0 hs) (empty 0 hs) (A t env) _ (λ _. refl)
apart_meant (Event.Detach t) hs l = split (no_handle 0 hs) (empty 0 hs) (D t) _ (λ _. refl)
apart_meant (Event.Declare c s) hs l = split (no_handle 0 hs) (empty 0 hs) (states (K c s)) _ (λ _. refl)
apart_meant (Event.State t h c) hs l = split (no_handle 0 hs) (empty 0 hs) (states (O t h c)) _ (λ _. refl)
apart_meant (Event.Identify x sort c static final) hs l = split (no_handle 0 hs) (empty 0 hs) (states (M x sort c static final)) _ (λ _. refl)
apart_meant Event.End hs l = split (no_handle 0 hs) (empty 0 hs) Z _ (λ _. refl)

module _ (e : Event) (hs : List ℕ) (l : length hs ≡ most_handles) {r : Option Taken} (told : r ≡ apart e hs) where
  as_taken : taken_line r ≡ meant_in e hs
  as_taken = ap taken_line told ∙ sym (apart_meant e hs l)

  pub good_taken : {t : Taken} → r ≡ Some t → line_in t.letter t.count t.minus t.values ≡ meant_in e hs
  good_taken g = ap taken_line (sym g) ∙ as_taken

  pub bad_taken : r ≡ None → refused 3 ≡ meant_in e hs
  bad_taken g = ap taken_line (sym g) ∙ as_taken

-- ---- what is written of numbers

module _ (b n : ℕ) (minus : Bool) (vs d : List ℕ) where
  pub numbers_refused : {k : Refusal} → event_of (line_in b n minus vs) ≡ Err k → Answers (line_in b n minus vs) d (Err k) d
  numbers_refused {k} h = let j = event_refused (line_in b n minus vs) k h in rw j.1 (ap Err (sym j.2), refl)

  module _ {e : Event} (told : event_of (line_in b n minus vs) ≡ Ok e) where
    said : (l : Line) × (line_in b n minus vs ≡ says l) × (event_in l ≡ e)
    said = event_said (line_in b n minus vs) e told

    pub numbers_few : n ≤ most_fields
    numbers_few = (line_in_said b n minus vs said.0 said.1).0

    pub numbers_written : {r : Result ℕ Refusal} {d' : List ℕ} → Writes (lettered b (numbers_in b minus (take n vs))) d r d' → Answers (line_in b n minus vs) d r d'
    numbers_written {r} {d'} w =
        let s = (line_in_said b n minus vs said.0 said.1).1 in
        let v = subst (λ (bs : List ℕ). Writes bs d r d') s w in
        rw said.1 (v.reply, v.left)
