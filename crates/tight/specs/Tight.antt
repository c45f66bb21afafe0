-- When the promise of a function leaves nothing open. Assumes nothing.
-- It is said of the contract itself: of a function f the checker makes `f.ended`, its signature, and from the text of its `requires` and `ensures`
-- `f.Reads.Asked` and `f.Reads.Learnt`, what a caller has to show and what it learns.
use Rattle.std.specs.Prelude.{◌≡◌, ℕ, List}
use contract.Lifetimes.{Lfts}
use denote.Triple.Entry.{Args, Res}
use denote.Triple.Clauses.{Ended, Lasts, AtExit, at_exit}
use Rattle.tables.specs.Tables.{Tables}
use Rattle.tables.specs.declared.Lent.{Lent}
use Rattle.tables.specs.Lent.{tables_of}

-- all that a call gives: its reply, and what it leaves in what was lent to it to be written
pub record Given (Reply Left : Type 0) : Type 0 where
  pub reply : Reply
  pub left : Left

abbrev pub given : {Reply Left : Type 0} → Reply → Left → Given Reply Left
given r l = record { reply = r; left = l }

module _ (f : Ended) where
  -- what is asked of the arguments
  abbrev pub Asks : Type 1
  Asks = (κs : Lfts f.signature.lifetimes) → Args f.signature κs → Type 0

  -- what is promised of the reply, and of the parameters at exit
  abbrev pub Promises : Type 1
  Promises = (κs : Lfts f.signature.lifetimes) → Args f.signature κs → Res f.signature κs → AtExit f κs → Type 0

  -- any two outcomes that the promise allows at these arguments are equal
  abbrev pub One : Promises → (κs : Lfts f.signature.lifetimes) → Args f.signature κs → Type 0
  One promised κs args =
      (x y : Given (Res f.signature κs) (Lasts f κs args))
      → promised κs args x.reply (at_exit f κs args x.left)
      → promised κs args y.reply (at_exit f κs args y.left)
      → x ≡ y

  -- whatever the arguments: nothing is asked of them, and there is one outcome
  abbrev pub Tight : Asks → Promises → Type 0
  Tight asked promised = (κs : Lfts f.signature.lifetimes) (args : Args f.signature κs) → asked κs args × One promised κs args

  -- nothing is asked of them, and where they are fit there is one outcome
  abbrev pub TightWhere : Asks → Asks → Promises → Type 0
  TightWhere fit asked promised = (κs : Lfts f.signature.lifetimes) (args : Args f.signature κs) → asked κs args × (fit κs args → One promised κs args)

  -- one reply, and one sight of what is left: but for what is not seen of it, as guides
  module _ {Sight : Type 0} (seen : (κs : Lfts f.signature.lifetimes) (args : Args f.signature κs) → Lasts f κs args → Sight) where
    abbrev pub OneBut : Promises → (κs : Lfts f.signature.lifetimes) → Args f.signature κs → Type 0
    OneBut promised κs args =
        (x y : Given (Res f.signature κs) (Lasts f κs args))
        → promised κs args x.reply (at_exit f κs args x.left)
        → promised κs args y.reply (at_exit f κs args y.left)
        → given x.reply (seen κs args x.left) ≡ given y.reply (seen κs args y.left)

    abbrev pub TightBut : Asks → Asks → Promises → Type 0
    TightBut fit asked promised = (κs : Lfts f.signature.lifetimes) (args : Args f.signature κs) → asked κs args × (fit κs args → OneBut promised κs args)

-- all that the slices of lent tables hold, with their guides
pub record Held : Type 0 where
  pub tables : Tables
  pub guide : List ℕ
  pub pinguide : List ℕ

abbrev pub held_of : Lent → Held
held_of l = record { tables = tables_of l; guide = l.guide.now; pinguide = l.pinguide.now }
