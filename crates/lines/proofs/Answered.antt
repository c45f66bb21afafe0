-- What the reader answers: a refusal, or the event of the line that was read. Assumes nothing.
use mathlib.Core.Path.{◌≡◌, refl}
use Prim.Native.Nat.{ℕ}
use native.Mathlib.Omega.{arith}
use Rattle.std.specs.Prelude.{Ok, Err}
use Rattle.lines.specs.Line.{Line}
use Rattle.lines.specs.Reading.{Read, says, refused}
use Rattle.lines.specs.Numbered.{number_of, refusal_of}
use Rattle.lines.specs.Events.{event_in, event_of}
use Rattle.lines.specs.declared.Event.{Event}
use Rattle.lines.specs.declared.refusal.Refusal.{Refusal}

pub number_back : (k : Refusal) → refusal_of (number_of k) ≡ k
number_back Refusal.Length = refl
number_back Refusal.Form = refl
number_back Refusal.Range = refl
number_back Refusal.OutOfStep = refl
number_back Refusal.WrongEnv = refl
number_back Refusal.AlreadyAlive = refl
number_back Refusal.NoRoom = refl
number_back Refusal.Unfit = refl
number_back Refusal.WrongClass = refl
number_back Refusal.NotAlive = refl

pub event_refused : (x : Read) (k : Refusal) → event_of x ≡ Err k → (j : ℕ) × (x ≡ refused j) × (refusal_of j ≡ k)
event_refused (refused j) k h = (j, refl, cc)
event_refused (says e) k h = let z : ◌≡◌ {A = ℕ} 0 1 = cc in absurd (omega arith)

pub event_said : (x : Read) (e : Event) → event_of x ≡ Ok e → (l : Line) × (x ≡ says l) × (event_in l ≡ e)
event_said (refused j) e h = let z : ◌≡◌ {A = ℕ} 0 1 = cc in absurd (omega arith)
event_said (says l) e h = (l, refl, cc)
