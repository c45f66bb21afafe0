-- The handles that N names, slot by slot. Assumes nothing.
use mathlib.Core.Path.{◌≡◌, refl, ap, sym, ◌∙◌}
use mathlib.Core.List.{List, [], ◌∷◌, ◌++◌, append_assoc}
use Prim.Native.Nat.{ℕ, suc, ◌+◌, ◌-◌, ◌≤◌, ◌<◌}
use native.Mathlib.Omega.{arith}
use native.Mathlib.Numerals.{add-one}
use lib.ListN.{length, get_or, set, take, replicate, length-take, length-drop}
use lib.Seq.{set_at, take-suc, take_all, get_or-take, get_or-drop, length-take-le}
use Rattle.lines.specs.Line.{most_handles}
use Rattle.lines.specs.Forms.{most_fields}
use Rattle.lines.specs.Events.{padded}
use Rattle.lines.specs.Sizes.{named, slots_in}
use Rattle.lines.specs.declared.Event.{Event}

-- ---- how many

module _ (n : ℕ) (vs : List ℕ) (ten : length vs ≡ most_fields) where
  pub named_few : length (named n vs) ≤ most_handles
  named_few = omega (arith, length-drop 2 (take n vs), length-take n vs)

  pub named_more : (i : ℕ) → i < most_handles → i + 2 < n → i < length (named n vs)
  named_more i h l = omega (arith, length-drop 2 (take n vs), length-take n vs)

  pub named_all : (i : ℕ) → n ≤ i + 2 → length (named n vs) ≤ i
  named_all i l = omega (arith, length-drop 2 (take n vs), length-take n vs)

  pub named_at : (i : ℕ) → i < most_handles → i + 2 < n → get_or vs (i + 2) 0 ≡ get_or (named n vs) i 0
  named_at i h l =
      let k : i + 2 ≡ 2 + i = omega arith in
      ap (λ (j : ℕ). get_or vs j 0) k ∙ sym (get_or-drop 2 (take n vs) i 0 ∙ get_or-take n vs (2 + i) 0 (omega arith))

-- ---- one slot more

pub slot_put : (hs : List ℕ) (i : ℕ) {x : ℕ} → i < length hs → length hs ≤ most_handles → x ≡ get_or hs i 0
    → set (padded (take i hs)) i x ≡ padded (take (i + 1) hs)
slot_put hs i {x} h few e =
    let l = length-take-le i hs (omega arith) in
    let m = length-take-le (suc i) hs (omega arith) in
    let k : most_handles - length (take i hs) ≡ suc (most_handles - length (take (suc i) hs)) = omega arith in
    ap (λ (j : ℕ). set (take i hs ++ replicate j 0) i x) k
    ∙ set_at (take i hs) 0 (replicate (most_handles - length (take (suc i) hs)) 0) x i l
    ∙ sym (append_assoc (take i hs) (x ∷ []) (replicate (most_handles - length (take (suc i) hs)) 0))
    ∙ ap (λ (l : List ℕ). l ++ replicate (most_handles - length (take (suc i) hs)) 0) (ap (λ (y : ℕ). take i hs ++ (y ∷ [])) e ∙ sym (take-suc hs i 0 h))
    ∙ ap (λ (j : ℕ). padded (take j hs)) (sym (add-one i))

pub slots_put : (hs : List ℕ) (i : ℕ) → length hs ≤ i → padded (take i hs) ≡ padded hs
slots_put hs i h = ap padded (take_all i hs h)

-- ---- the slots beside an event that is not N

pub not_enter : (e : Event) (n : ℕ) (vs : List ℕ) → ((t env k : ℕ) → e ≡ Event.Enter t env k → ⊥) → padded [] ≡ slots_in e n vs
not_enter (Event.Enter t env k) n vs h = absurd (h t env k refl)
not_enter (Event.Leave t r) n vs h = refl
not_enter (Event.Call t env f a b c k) n vs h = refl
not_enter (Event.Return t f r s p) n vs h = refl
not_enter (Event.Attach t env) n vs h = refl
not_enter (Event.Detach t) n vs h = refl
not_enter (Event.Declare c s) n vs h = refl
not_enter (Event.State t k c) n vs h = refl
not_enter (Event.Identify x sort c static final) n vs h = refl
not_enter Event.End n vs h = refl
