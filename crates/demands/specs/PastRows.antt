-- The rows as the history alone fixes them, without end: which row each handle alive and each buffer outstanding stands in, and the line that made it. Assumes nothing.
use Rattle.std.specs.Prelude.{ℕ, zero, suc, List, [], ◌∷◌, map, length, Option, None, Some}
use Rattle.rows.specs.Slots.{wipe, wipe_first}
use Rattle.history.specs.Past.{History, thread_of}
use Rattle.history.specs.Frames.{depth}
use Rattle.history.specs.Handles.{Alive, makes, deletes, frame_gone}
use Rattle.history.specs.Buffers.{Pin, gets, releases}
use Rattle.history.specs.Leaks.{Made, made_at, by_what}

module _ {A : Type 0} where
  -- a new row is the lowest free one; where none is free, one more
  abbrev pub put_or_add : A → List (Option A) → List (Option A)
  put_or_add x [] = Some x ∷ []
  put_or_add x (None ∷ s) = Some x ∷ s
  put_or_add x (Some y ∷ s) = Some y ∷ put_or_add x s

  -- N's handles take rows in their order
  abbrev pub put_or_add_all : List A → List (Option A) → List (Option A)
  put_or_add_all [] s = s
  put_or_add_all (x ∷ xs) s = put_or_add_all xs (put_or_add x s)

  -- the first n rows, with free ones where there are fewer
  abbrev pub padded : ℕ → List (Option A) → List (Option A)
  padded zero s = []
  padded (suc n) [] = None ∷ padded n []
  padded (suc n) (r ∷ s) = r ∷ padded n s

-- a delete ends the lowest matching row, and a local ends with its frame; then what the line makes takes rows
unfoldable pub reference_rows : History → List (Option (Made Alive))
reference_rows [] = []
reference_rows (e ∷ past) =
    put_or_add_all
    (map (made_at (suc (length past))) (makes e (depth (thread_of e) past)))
    (wipe (by_what (frame_gone (e ∷ past))) (wipe_first (by_what (deletes e)) (reference_rows past)))

-- a release ends the lowest matching row
unfoldable pub pin_rows : History → List (Option (Made Pin))
pin_rows [] = []
pin_rows (e ∷ past) = put_or_add_all (map (made_at (suc (length past))) (gets e)) (wipe_first (by_what (releases e)) (pin_rows past))
