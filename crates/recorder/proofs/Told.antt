-- What the C function answers is what is told: a line that was written is short, so the number of its bytes fits 32 bits. Assumes nothing.
use mathlib.Core.Path.{◌≡◌, refl, ap, sym, subst, ◌∙◌}
use mathlib.Core.Bool.{Bool, true, false, not, ◌&&◌, false≢true}
use mathlib.Core.List.{List}
use Prim.Native.Nat.{ℕ, suc, ◌≤◌}
use native.Mathlib.Omega.{arith}
use lib.Dec.{eqb, leb, ltb}
use lib.IntN.{pos}
use lib.ListN.{length, take, drop}
use mir.Syntax.{w32}
use mir.Val.{SFits, to_z}
use mir.ValLaws.{to_z_pos}
use borrow.Author.Rules.{sfits_of}
use Rattle.std.specs.Prelude.{Result, Ok, Err}
use Rattle.words.specs.Choice.{if_true◌then◌else◌}
use Rattle.words.specs.Lists.{any}
use Rattle.lines.specs.Line.{K, O, M, Line, N, X, C, R, A, D, Z, states, longest, most_handles, is_allowed, is_zero}
use Rattle.lines.specs.Reading.{Read, says, refused}
use Rattle.lines.specs.Writing.{written}
use Rattle.lines.specs.Events.{gives_status, not_zero, with_slots, meant_in, wrote}
use Rattle.lines.specs.declared.Event.{Event}
use Rattle.lines.specs.declared.refusal.Refusal.{Refusal}
use Rattle.lines.proofs.Fits.{length_written}
use Rattle.recorder.specs.Told.{told}

-- ---- a line has at most 224 bytes before LF

abbrev is_written : Result ℕ Refusal → Bool
is_written (Ok n) = true
is_written (Err k) = false

abbrev bytes : Result ℕ Refusal → ℕ
bytes (Ok n) = n
bytes (Err k) = 0

abbrev Short : List ℕ → Read → Type 0
Short d m = (n : ℕ) → wrote m d ≡ Ok n → n ≤ suc longest

refused_short : (d : List ℕ) (k : ℕ) → Short d (refused k)
refused_short d k n h = absurd (false≢true (ap is_written h))

says_short : (d : List ℕ) (x : Line) → is_allowed x ≡ true → Short d (says x)
says_short d x a n = go (ltb (length d) (length (written x)))
  where
    go : (t : Bool) → (if_true t then Err Refusal.NoRoom else Ok (length (written x))) ≡ Ok n → n ≤ suc longest
    go true h = absurd (false≢true (ap is_written h))
    go false h = subst (λ (m : ℕ). m ≤ suc longest) (ap bytes h) (length_written x a)

slots_short : (d : List ℕ) (i : ℕ) (hs : List ℕ) (x : Line) → Short d (with_slots i hs x)
slots_short d i hs x = go (leb i most_handles) (not (any not_zero (drop i hs))) (is_allowed x) refl
  where
    go : (a b c : Bool) → is_allowed x ≡ c → Short d (if_true a && b && c then says x else refused 3)
    go true true true r = says_short d x r
    go true true false r = refused_short d 3
    go true false c r = refused_short d 3
    go false b c r = refused_short d 3

meant_short : (d : List ℕ) (e : Event) (hs : List ℕ) → Short d (meant_in e hs)
meant_short d (Event.Enter t env n) hs = slots_short d n hs (N t env (take n hs))
meant_short d (Event.Leave t r) hs = slots_short d 0 hs (X t r)
meant_short d (Event.Call t env f a b c n) hs = slots_short d 0 hs (C t env f a b c n)
meant_short d (Event.Return t f r s p) hs = go (gives_status f) (eqb r 0) (is_zero s)
  where
    go : (x y z : Bool)
        → Short d (if_true x then (if_true y then with_slots 0 hs (R t f s p) else refused 3) else (if_true z then with_slots 0 hs (R t f (pos r) p) else refused 3))
    go true true z = slots_short d 0 hs (R t f s p)
    go true false z = refused_short d 3
    go false y true = slots_short d 0 hs (R t f (pos r) p)
    go false y false = refused_short d 3
meant_short d (Event.Attach t env) hs = slots_short d 0 hs (A t env)
meant_short d (Event.Detach t) hs = slots_short d 0 hs (D t)
meant_short d (Event.Declare c s) hs = slots_short d 0 hs (states (K c s))
meant_short d (Event.State t h c) hs = slots_short d 0 hs (states (O t h c))
meant_short d (Event.Identify x sort c static final) hs = slots_short d 0 hs (states (M x sort c static final))
meant_short d Event.End hs = slots_short d 0 hs Z

-- ---- by the writer's answer w

module _ (e : Event) (hs d : List ℕ) {w : Result ℕ Refusal} (a : w ≡ wrote (meant_in e hs) d) where
  pub bytes_fit : {n : ℕ} → w ≡ Ok n → SFits w32 (pos n)
  bytes_fit {n} h = let s = meant_short d e hs n (sym a ∙ h) in sfits_of (omega arith)

  pub bytes_told : {n : ℕ} → w ≡ Ok n → to_z w32 n ≡ told (wrote (meant_in e hs) d)
  bytes_told {n} h = to_z_pos w32 n (bytes_fit h).sfits ∙ ap told (sym h ∙ a)
