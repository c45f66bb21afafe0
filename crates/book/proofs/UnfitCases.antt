-- Refusal 8 by computation: natives are counted among the open items, and nowhere else. Assumes nothing.
use Rattle.std.proofs.Common.{◌≡◌, ℕ, true, false, List, [], ◌∷◌, map, replicate, refl}
use Rattle.history.specs.Items.{in_native, in_call, attached}
use Rattle.book.specs.Layout.{whole, frames_at, items_at, natives_at, function_at, cell, put, Write, into, wrote}
use Rattle.book.specs.Threads.{opened, no_function, attached_function, item_is, items_of, items_in}
use Rattle.book.specs.Unfit.{overdone_in, unfit}
use Rattle.rows.specs.Marks.{bit}

-- a cleared book, but for thread 1
abbrev with_thread : List Write → List ℕ
with_thread ws = wrote (replicate whole 0) 1 ws

-- two natives and one frame: a line is refused before one of them could end
two_natives : unfit (with_thread (into frames_at 1 ∷ into items_at 2 ∷ into natives_at 3 ∷ [])) ≡ true
unfolding unfit overdone_in items_in items_of opened item_is bit cell put wrote
two_natives = refl

-- a native and a call: as many natives as frames
native_and_call : unfit (with_thread (into frames_at 1 ∷ into items_at 2 ∷ into natives_at 1 ∷ [])) ≡ false
unfolding unfit overdone_in items_in items_of opened item_is bit cell put wrote
native_and_call = refl

-- an attached item and a call, and two attached items: they are counted as natives
attached_and_call : unfit (with_thread (into frames_at 1 ∷ into items_at 2 ∷ into natives_at 1 ∷ into (function_at 0) attached_function ∷ [])) ≡ false
unfolding unfit overdone_in items_in items_of opened item_is bit cell put wrote
attached_and_call = refl

two_attached : unfit (with_thread (into frames_at 1 ∷ into items_at 2 ∷ into natives_at 3 ∷ into (function_at 0) attached_function ∷ into (function_at 1) attached_function ∷ [])) ≡ true
unfolding unfit overdone_in items_in items_of opened item_is bit cell put wrote
two_attached = refl

-- a marked item of function 1 is attached, of 0 or of any other number a native; without its mark it is a call
by_function : map (λ (f : ℕ). item_is true f 0) (attached_function ∷ no_function ∷ 2 ∷ 4 ∷ 4294967297 ∷ 18446744073709551615 ∷ []) ≡ attached ∷ in_native ∷ in_native ∷ in_native ∷ in_native ∷ in_native ∷ []
unfolding item_is
by_function = refl

by_mark : item_is false attached_function 0 ≡ in_call 1 0
unfolding item_is
by_mark = refl

-- two marks and one frame without an item, and with one
no_item : unfit (with_thread (into frames_at 1 ∷ into natives_at 3 ∷ [])) ≡ false
unfolding unfit overdone_in items_in items_of opened item_is bit cell put wrote
no_item = refl

one_item : unfit (with_thread (into frames_at 1 ∷ into items_at 1 ∷ into natives_at 3 ∷ [])) ≡ false
unfolding unfit overdone_in items_in items_of opened item_is bit cell put wrote
one_item = refl
