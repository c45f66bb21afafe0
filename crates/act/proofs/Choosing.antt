-- A choice by a test of which the value is known, and the value of a test.
use mathlib.Core.Path.{◌≡◌, sym, ap, ◌∙◌}
use mathlib.Core.Bool.{Bool, true, false, false≢true}
use Rattle.words.specs.Choice.{if_true◌then◌else◌}

module _ {A : Type 0} {z : A} where
  pub chosen : (test : Bool) (x y : A) → test ≡ true → z ≡ x → z ≡ (if_true test then x else y)
  chosen true x y h e = e
  chosen false x y h e = absurd (false≢true h)

  pub passed_over : (test : Bool) (x y : A) → test ≡ false → z ≡ y → z ≡ (if_true test then x else y)
  passed_over true x y h e = absurd (false≢true (sym h))
  passed_over false x y h e = e

-- a test of what was found to be k
pub told : {A : Type 0} (test : A → Bool) (x y k : A) → x ≡ y → x ≡ k → test k ≡ test y
told test x y k e q = ap test (sym q ∙ e)
