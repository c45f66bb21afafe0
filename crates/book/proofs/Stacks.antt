-- Stacks: n things, the last on top. Assumes nothing.
use Rattle.std.proofs.Common.{◌≡◌, ℕ, zero, suc, ◌-◌, ◌<◌, ◌≤◌, ◌⊎◌, List, ◌∷◌, length, drop, sym, refl, ap, ap₂, inl, inr, eq-or-lt_of_le, arith}
use Rattle.history.specs.Frames.{Frame, entered, pushed, without_native, without_pushed}
use Rattle.book.specs.Threads.{stack}

module _ {A : Type 0} where
  pub stack_ext : (f g : ℕ → A) (n : ℕ) → ((i : ℕ) → i < n → f i ≡ g i) → stack f n ≡ stack g n
  stack_ext f g zero h = refl
  stack_ext f g (suc n) h = ap₂ {C = List A} (λ x l. x ∷ l) (h n (omega arith)) (stack_ext f g n (λ i l. h i (omega arith)))

  pub length_stack : (f : ℕ → A) (n : ℕ) → length (stack f n) ≡ n
  length_stack f zero = refl
  length_stack f (suc n) = ap suc (length_stack f n)

  pub drop_stack : (f : ℕ → A) (d n : ℕ) → n ≤ d → drop (d - n) (stack f d) ≡ stack f n
  drop_stack f zero n h = let e : n ≡ 0 = omega arith in rw e
  drop_stack f (suc d) n h = go (eq-or-lt_of_le h) (drop_stack f d n)
    where
      go : (n ≡ suc d) ⊎ (n < suc d) → (n ≤ d → drop (d - n) (stack f d) ≡ stack f n) → drop (suc d - n) (stack f (suc d)) ≡ stack f n
      go (inl e) ih = let z : suc d - n ≡ 0 = omega arith in rw (z, e)
      go (inr l) ih = let z : suc d - n ≡ suc (d - n) = omega arith in rw z (ih (omega arith))

-- ---- of frames: X and C of 20 leave the lowest of them

-- a list is the lowest of what stands
pub record Lowest (f : ℕ → Frame) (d : ℕ) (fs : List Frame) : Type 0 where
  pub same : fs ≡ stack f (length fs)
  pub within : length fs ≤ d

all_lowest : (f : ℕ → Frame) (d n : ℕ) → n ≤ d → Lowest f d (stack f n)
all_lowest f d n h =
    record { same = ap (stack f) (sym (length_stack f n)); within = omega (arith, length_stack f n) }

higher : {f : ℕ → Frame} {d : ℕ} {fs : List Frame} → Lowest f d fs → Lowest f (suc d) fs
higher l = record { same = l.same; within = omega (arith, l.within) }

pub native_lowest : (f : ℕ → Frame) (d : ℕ) → Lowest f d (without_native (stack f d))
native_lowest f zero = all_lowest f 0 0 (omega arith)
native_lowest f (suc d) = go (f d) (native_lowest f d)
  where
    go : (x : Frame) → Lowest f d (without_native (stack f d)) → Lowest f (suc d) (without_native (x ∷ stack f d))
    go entered ih = all_lowest f (suc d) d (omega arith)
    go pushed ih = higher ih

pub pushed_lowest : (f : ℕ → Frame) (d : ℕ) → Lowest f d (without_pushed (stack f d))
pushed_lowest f zero = all_lowest f 0 0 (omega arith)
pushed_lowest f (suc d) = go (f d) refl
  where
    go : (x : Frame) → f d ≡ x → Lowest f (suc d) (without_pushed (x ∷ stack f d))
    go entered e = rw (← e) (all_lowest f (suc d) (suc d) (omega arith))
    go pushed e = all_lowest f (suc d) d (omega arith)
