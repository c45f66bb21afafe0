-- Each letter stands for what it was made of, and each 1 or 0 for its test. Assumes nothing.
use mathlib.Core.Path.{◌≡◌, refl}
use mathlib.Core.Bool.{Bool, true, false}
use native.Mathlib.Omega.{arith}
use Rattle.words.specs.Choice.{one}
use Rattle.facts.specs.Table.{place, result_in}
use Rattle.facts.specs.Letters.{place_letter, result_letter, wanted_letter, wanted_in}
use Rattle.facts.specs.declared.identities.Wanted.{Wanted}
use Rattle.facts.specs.declared.Place.{Place}
use Rattle.facts.specs.declared.Result.{Result}

pub place_back : (p : Place) → place (place_letter p) ≡ p
place_back Place.Handle = refl
place_back Place.HandleOrNull = refl
place_back Place.LocalOrNull = refl
place_back Place.GlobalOrNull = refl
place_back Place.WeakOrNull = refl
place_back Place.Identity = refl
place_back Place.Buffer = refl
place_back Place.Unused = refl

pub result_back : (x : Result) → result_in (result_letter x) ≡ x
result_back Result.Local = refl
result_back Result.Global = refl
result_back Result.Weak = refl
result_back Result.Identity = refl
result_back Result.Buffer = refl
result_back Result.Status = refl
result_back Result.Nothing = refl

pub wanted_back : (w : Wanted) → wanted_in (wanted_letter w) ≡ w
wanted_back Wanted.ObjectMethod = refl
wanted_back Wanted.StaticMethod = refl
wanted_back Wanted.ObjectField = refl
wanted_back Wanted.StaticField = refl
wanted_back Wanted.AnyMethod = refl
wanted_back Wanted.AnyField = refl
wanted_back Wanted.Nothing = refl

pub one_back : (t u : Bool) → one t ≡ one u → t ≡ u
one_back true true e = refl
one_back true false e = absurd (omega arith)
one_back false true e = absurd (omega arith)
one_back false false e = refl
