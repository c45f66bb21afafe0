-- A choice by a test, and tests of one number. Assumes nothing.
use Rattle.std.specs.Prelude.{ℕ, Bool, true, false, ◌&&◌, leb}

infixr 1 if_true◌then◌else◌
abbrev pub if_true◌then◌else◌ {ℓ} : {A : Type ℓ} → Bool → A → A → A
if_true true then a else b = a
if_true false then a else b = b

-- 1 where the test holds, else 0
abbrev pub one : Bool → ℕ
one true = 1
one false = 0

-- n is one of lo..hi
abbrev pub within : ℕ → ℕ → ℕ → Bool
within lo hi n = leb lo n && leb n hi
