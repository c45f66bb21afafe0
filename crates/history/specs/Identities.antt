-- What is stated of an identity by its last M, and which identities are stated. Assumes nothing.
use Rattle.std.specs.Prelude.{ℕ, List, [], ◌∷◌, eqb}
use Rattle.words.specs.Choice.{if_true◌then◌else◌}
use Rattle.words.specs.Lists.{any}
use Rattle.lines.specs.Line.{if_M◌then◌else◌}
use Rattle.history.specs.Past.{History}
use Rattle.history.specs.declared.Identity.{Identity}

abbrev pub identity : ℕ → ℕ → ℕ → Identity
identity sort static final = record { sort = sort; isstatic = static; isfinal = final }

-- no M stated it
abbrev pub not_stated : Identity
not_stated = identity 0 0 0

-- a second M for the same identity replaces the first from that line on
unfoldable pub identity_of : History → ℕ → Identity
identity_of [] x = not_stated
identity_of (e ∷ past) x =
    if_M e then (λ y sort c static final. if_true eqb x y then identity sort static final else identity_of past x)
    else identity_of past x

-- those stated, each once
unfoldable pub identities : History → List ℕ
identities [] = []
identities (e ∷ past) =
    if_M e then (λ x sort c static final. if_true any (eqb x) (identities past) then identities past else x ∷ identities past)
    else identities past
