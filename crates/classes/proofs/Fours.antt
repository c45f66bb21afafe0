-- Four numbers written one after another in a list. Assumes nothing.
use Prim.Native.Nat.{ℕ, ◌+◌, ◌<◌}
use mathlib.Core.Path.{◌≡◌, ◌∙◌}
use mathlib.Core.List.{List}
use native.Mathlib.Omega.{arith}
use lib.ListN.{length, get_or, set, length-set}
use lib.Seq.{get_or-set_same, get_or-set_other}

abbrev pub fours : List ℕ → ℕ → ℕ → ℕ → ℕ → ℕ → List ℕ
fours ls n a b c d = set (set (set (set ls n a) (n + 1) b) (n + 2) c) (n + 3) d

module _ (ls : List ℕ) (n a b c d : ℕ) where
  pub fours_length : length (fours ls n a b c d) ≡ length ls
  fours_length = simp length-set

  pub fours_apart : (m : ℕ) → ((k : ℕ) → k < 4 → m ≡ n + k → ⊥) → get_or (fours ls n a b c d) m 0 ≡ get_or ls m 0
  fours_apart m apart =
      get_or-set_other (set (set (set ls n a) (n + 1) b) (n + 2) c) (n + 3) m d 0 (apart 3 (omega arith))
      ∙ get_or-set_other (set (set ls n a) (n + 1) b) (n + 2) m c 0 (apart 2 (omega arith))
      ∙ get_or-set_other (set ls n a) (n + 1) m b 0 (apart 1 (omega arith))
      ∙ get_or-set_other ls n m a 0 (λ e. apart 0 (omega arith) (omega arith))

  module _ (l : n + 3 < length ls) where
    pub first_four : get_or (fours ls n a b c d) n 0 ≡ a
    first_four =
        get_or-set_other (set (set (set ls n a) (n + 1) b) (n + 2) c) (n + 3) n d 0 (λ e. omega arith)
        ∙ get_or-set_other (set (set ls n a) (n + 1) b) (n + 2) n c 0 (λ e. omega arith)
        ∙ get_or-set_other (set ls n a) (n + 1) n b 0 (λ e. omega arith)
        ∙ get_or-set_same ls n a 0 (omega arith)

    pub second_four : get_or (fours ls n a b c d) (n + 1) 0 ≡ b
    second_four =
        get_or-set_other (set (set (set ls n a) (n + 1) b) (n + 2) c) (n + 3) (n + 1) d 0 (λ e. omega arith)
        ∙ get_or-set_other (set (set ls n a) (n + 1) b) (n + 2) (n + 1) c 0 (λ e. omega arith)
        ∙ get_or-set_same (set ls n a) (n + 1) b 0 (simp length-set (omega arith))

    pub third_four : get_or (fours ls n a b c d) (n + 2) 0 ≡ c
    third_four =
        get_or-set_other (set (set (set ls n a) (n + 1) b) (n + 2) c) (n + 3) (n + 2) d 0 (λ e. omega arith)
        ∙ get_or-set_same (set (set ls n a) (n + 1) b) (n + 2) c 0 (simp length-set (omega arith))

    pub fourth_four : get_or (fours ls n a b c d) (n + 3) 0 ≡ d
    fourth_four = get_or-set_same (set (set (set ls n a) (n + 1) b) (n + 2) c) (n + 3) d 0 (simp length-set (omega arith))
