-- The writer's own bookkeeping: an event taken apart into its letter and numbers; the law `apart_meant` (proofs/Taking.antt) ties it to what the event means. Assumes nothing.
use Rattle.std.specs.Prelude.{ℕ, ◌+◌, Bool, false, ◌&&◌, List, [], ◌∷◌, eqb, leb, ℤ, nat_abs, drop, Option}
use Rattle.std.specs.Bool.{then_some}
use Rattle.std.specs.List.{list_all}
use Prim.Native.Char.{code}
use Rattle.words.specs.Choice.{if_true◌then◌else◌}
use Rattle.numbers.specs.Signed.{is_negative}
use Rattle.lines.specs.Line.{is_zero, most_handles}
use Rattle.lines.specs.Events.{gives_status}
use Rattle.lines.specs.declared.Event.{Event}
use Rattle.writer.specs.declared.apart.Taken.{Taken}

-- nothing where it is not as an event is
abbrev pub taken : ℕ → ℕ → Bool → List ℕ → Bool → Option Taken
taken letter n minus vs good = then_some good (record { letter = letter; count = n; minus = minus; values = vs })

-- no slot from n on names a handle
abbrev pub are_empty : ℕ → List ℕ → Bool
are_empty n hs = list_all (λ h. eqb h 0) (drop n hs)

-- one of result and status is 0
unfoldable pub apart_return : ℕ → ℕ → ℕ → ℤ → ℕ → Bool → Option Taken
apart_return t f r s p empty =
    if_true gives_status f then taken (code "R") 4 (is_negative s) (t ∷ f ∷ nat_abs s ∷ p ∷ 0 ∷ 0 ∷ 0 ∷ 0 ∷ 0 ∷ 0 ∷ []) (eqb r 0 && empty)
    else taken (code "R") 4 false (t ∷ f ∷ r ∷ p ∷ 0 ∷ 0 ∷ 0 ∷ 0 ∷ 0 ∷ 0 ∷ []) (is_zero s && empty)

abbrev pub apart : Event → List ℕ → Option Taken
apart (Event.Enter t env n) hs = taken (code "N") (n + 2) false (t ∷ env ∷ hs) (leb n most_handles && are_empty n hs)
apart (Event.Leave t r) hs = taken (code "X") 2 false (t ∷ r ∷ 0 ∷ 0 ∷ 0 ∷ 0 ∷ 0 ∷ 0 ∷ 0 ∷ 0 ∷ []) (are_empty 0 hs)
apart (Event.Call t env f a b c n) hs = taken (code "C") 7 (is_negative n) (t ∷ env ∷ f ∷ a ∷ b ∷ c ∷ nat_abs n ∷ 0 ∷ 0 ∷ 0 ∷ []) (are_empty 0 hs)
apart (Event.Return t f r s p) hs = apart_return t f r s p (are_empty 0 hs)
apart (Event.Attach t env) hs = taken (code "A") 2 false (t ∷ env ∷ 0 ∷ 0 ∷ 0 ∷ 0 ∷ 0 ∷ 0 ∷ 0 ∷ 0 ∷ []) (are_empty 0 hs)
apart (Event.Detach t) hs = taken (code "D") 1 false (t ∷ 0 ∷ 0 ∷ 0 ∷ 0 ∷ 0 ∷ 0 ∷ 0 ∷ 0 ∷ 0 ∷ []) (are_empty 0 hs)
apart (Event.Declare c s) hs = taken (code "K") 2 false (c ∷ s ∷ 0 ∷ 0 ∷ 0 ∷ 0 ∷ 0 ∷ 0 ∷ 0 ∷ 0 ∷ []) (are_empty 0 hs)
apart (Event.State t h c) hs = taken (code "O") 3 false (t ∷ h ∷ c ∷ 0 ∷ 0 ∷ 0 ∷ 0 ∷ 0 ∷ 0 ∷ 0 ∷ []) (are_empty 0 hs)
apart (Event.Identify x sort c static final) hs = taken (code "M") 5 false (x ∷ sort ∷ c ∷ static ∷ final ∷ 0 ∷ 0 ∷ 0 ∷ 0 ∷ 0 ∷ []) (are_empty 0 hs)
apart Event.End hs = taken (code "Z") 0 false (0 ∷ 0 ∷ 0 ∷ 0 ∷ 0 ∷ 0 ∷ 0 ∷ 0 ∷ 0 ∷ 0 ∷ []) (are_empty 0 hs)
