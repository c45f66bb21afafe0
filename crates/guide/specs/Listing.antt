-- Each row that is used is listed at one of two places of a guide, or both are full. Assumes nothing.
use Rattle.std.specs.Prelude.{◌≡◌, Bool, true, not, ◌&&◌, ◌||◌, List, ℕ, ◌<◌, eqb, get_or, set, Option, None, Some}
use Rattle.words.specs.Choice.{if_true◌then◌else◌}
use Rattle.rows.specs.Scan.{lowest}
use Rattle.rows.specs.Slots.{holding}
use Rattle.rows.specs.Table.{Layout, Table, room}
use Rattle.rows.specs.View.{slot, view}
use Rattle.guide.specs.Words.{full_word, name_a, name_b, name_c, above, is_full, word_of, named}

-- past the end every word is full
unfoldable pub word_at : List ℕ → ℕ → ℕ
word_at G s = get_or G s full_word

-- row r is listed at the first place, or, where that is full, at the second, or that is full too
unfoldable pub lists : List ℕ → ℕ → ℕ → ℕ → Bool
lists G a b r = named (word_at G a) r || (is_full (word_at G a) && (named (word_at G b) r || is_full (word_at G b)))

module _ {A : Type 0} (L : Layout A) where
  -- the lowest used row that passes the test and is listed at a or b, or the room
  unfoldable pub found_by : List ℕ → ℕ → ℕ → (A → Bool) → Table → ℕ
  found_by G a b q T = lowest (λ r. holding q (slot L T r) && lists G a b r) (room L T)

  module _ (first second : A → ℕ) where
    -- row r is used, and s is one of its two places
    unfoldable pub wants : Table → ℕ → ℕ → Bool
    wants T s r = holding (λ x. eqb (first x) s || eqb (second x) s) (get_or (view L T) r None)

    -- word w of place s with row r instead of one that does not want it; where all three do, w is full
    unfoldable pub with_row : Table → ℕ → ℕ → ℕ → ℕ
    with_row T s w r =
        if_true not (wants T s (name_a w)) then word_of r (name_b w) (name_c w) (above w)
        else if_true not (wants T s (name_b w)) then word_of (name_a w) r (name_c w) (above w)
        else if_true not (wants T s (name_c w)) then word_of (name_a w) (name_b w) r (above w)
        else word_of (name_a w) (name_b w) (name_c w) 1

    abbrev pub put_row_at : Table → List ℕ → ℕ → ℕ → List ℕ
    put_row_at T G s r = set G s (with_row T s (word_at G s) r)

    -- row r listed at place a, or at b where a is full
    unfoldable pub with_listed : Table → List ℕ → ℕ → ℕ → ℕ → List ℕ
    with_listed T G a b r =
        if_true named (with_row T a (word_at G a) r) r then put_row_at T G a r
        else put_row_at T (put_row_at T G a r) b r

    -- what the guide is for: of the first n rows, each that is used is listed
    abbrev pub Listed : (ℕ → Option A) → ℕ → List ℕ → Type 0
    Listed S n G = (r : ℕ) (x : A) → r < n → S r ≡ Some x → lists G (first x) (second x) r ≡ true
