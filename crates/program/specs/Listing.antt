-- The leaks as they are listed in a slice of records, and as they are printed from there. Assumes nothing.
use Rattle.std.specs.Prelude.{ℕ, zero, suc, ◌+◌, ◌*◌, ◌≡◌, Bool, List, [], ◌∷◌, get_or}
use Rattle.words.specs.Choice.{if_true◌then◌else◌}
use Rattle.words.specs.Lists.{joined}
use Rattle.history.specs.Leaks.{Leak, shown_leak}
use Rattle.report.specs.Shown.{leak}
use Rattle.tables.specs.Tables.{Tables}
use Rattle.tables.specs.Listing.{leak_numbers, Listed, written, not_written, Listing, lists, list_of}

-- none are listed where none are asked for
unfoldable pub listing_of : Bool → Tables → List ℕ → Listing
listing_of asked T ns = if_true asked then list_of T ns else lists (written 0) ns

-- so many records stand in the slice
abbrev pub records_in : Listed → ℕ
records_in (written n) = n
records_in (not_written k) = 0

pub record Lists (asked : Bool) (T : Tables) (ns : List ℕ) (n : ℕ) (ns' : List ℕ) : Type 0 where
  pub count : n ≡ records_in (listing_of asked T ns).reply
  pub left : ns' ≡ (listing_of asked T ns).left

-- ---- what is printed of them

-- record i
abbrev pub leak_at : List ℕ → ℕ → Leak
leak_at ns i = leak (get_or ns (i * leak_numbers) 0) (get_or ns (i * leak_numbers + 1) 0) (get_or ns (i * leak_numbers + 2) 0) (get_or ns (i * leak_numbers + 3) 0)

-- n records from number i on
abbrev pub leaks_from : List ℕ → ℕ → ℕ → List Leak
leaks_from ns i zero = []
leaks_from ns i (suc n) = leak_at ns i ∷ leaks_from ns (suc i) n

unfoldable pub shown_from : List ℕ → ℕ → ℕ → List ℕ
shown_from ns i n = joined (leaks_from ns i n) shown_leak
