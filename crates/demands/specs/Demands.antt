-- What is demanded of the judge over lent tables, each demand as one statement: whoever doubts the judge reads these. Assumes nothing.
use Rattle.std.specs.Prelude.{ℕ, ◌*◌, ◌/◌, ◌≤◌, ◌<◌, ◌≡◌, ◌⊎◌, ◌↔◌, Bool, true, false, length, drop}
use mathlib.Core.List.{List, [], ◌∷◌, ◌++◌, Memᴰ}
use Rattle.words.specs.Lists.{count, joined}
use Rattle.lines.specs.Line.{Line, Z}
use Rattle.lines.specs.Reading.{says, refused, read}
use Rattle.rows.specs.Slots.{held}
use Rattle.rows.specs.Table.{alive}
use Rattle.rows.specs.Exact.{Exact}
use Rattle.rows.specs.References.{references}
use Rattle.rows.specs.Pins.{pins}
use Rattle.history.specs.Past.{History}
use Rattle.history.specs.Handles.{Alive, is_shared, living}
use Rattle.history.specs.Buffers.{Pin, outstanding}
use Rattle.history.specs.Leaks.{Leak, by_what}
use Rattle.history.specs.LeakOrder.{Ascending}
use Rattle.history.specs.Paper.{Broken}
use Rattle.history.specs.Acceptance.{Room}
use Rattle.history.specs.Findings.{findings}
use Rattle.history.specs.Replies.{not_accepted, most_lines, reply, heard}
use Rattle.history.specs.Refusals.{InStep, WrongEnv, MadeAgain, WrongClass, NamesDead, Exceeds}
use Rattle.history.specs.Verdicts.{Weighs}
use Rattle.history.specs.Report.{report}
use Rattle.history.specs.Classes.{super_of}
use Rattle.history.specs.Identities.{identity_of, identities}
use Rattle.classes.specs.Supers.{super_in}
use Rattle.classes.specs.Identities.{identity_in, used_places}
use Rattle.book.specs.Unfit.{unfit}
use Rattle.tables.specs.Tables.{Tables}
use Rattle.tables.specs.Stepping.{unfit_tables, step_of, start_of}
use Rattle.tables.specs.Listing.{leak_numbers, written, not_written, lists as listing, list_of}
use Rattle.demands.specs.PastRows.{reference_rows, pin_rows}
use Rattle.demands.specs.Tied.{past_references, past_pins, past_classes, Tied, ItemsTied}
use Rattle.demands.specs.Leaks.{leaks, list_after}
use Rattle.demands.specs.Leaked.{Leaked, LineOfR, of_rule, is_leak, is_owned}
use Rattle.demands.specs.Calls.{room_of, Long, Alike, from_start, heard_by, all_found, report_in}

-- the bytes are a line that passes all tests before that of the room, and after it the room would be exceeded
pub record OutOfRoom (room : Room) (past : History) (bs : List ℕ) : Type 0 where
  pub line : Line
  pub said : read bs ≡ says line
  pub in_time : length past < most_lines
  pub turn : InStep past line
  pub its_env : ¬ WrongEnv past line
  pub anew : ¬ MadeAgain past line
  pub right_classes : ¬ WrongClass past line
  pub alive : ¬ NamesDead past line
  pub over : Exceeds room (line ∷ past)

-- of lent tables, whatever they hold
pub record OfAnyTables (T : Tables) : Type 0 where
  -- "Each leaves rows, marks, book and findings untouched and returns only its number."
  pub refusal_changes_nothing : (bs : List ℕ) (k : ℕ) → (step_of T bs).reply ≡ not_accepted k → (step_of T bs).left ≡ T
  -- its number is one of the paper's
  pub refusal_numbered : (bs : List ℕ) (k : ℕ) → (step_of T bs).reply ≡ not_accepted k → (1 ≤ k) × (k ≤ 10)
  -- 8 is "given exactly when" the lent thread book is not fit or the class table is short, whatever the line
  pub eight_exactly : (bs : List ℕ) → ((step_of T bs).reply ≡ not_accepted 8) ↔ (unfit_tables T ≡ true)
  -- of the list: 8, then 4 before Z, then 7, "nothing written", and nothing else
  pub list_untouched : (ns : List ℕ) (k : ℕ) → (list_of T ns).reply ≡ not_written k → (list_of T ns).left ≡ ns
  pub list_numbered : (ns : List ℕ) (k : ℕ) → (list_of T ns).reply ≡ not_written k → (k ≡ 8) ⊎ (k ≡ 4) ⊎ (k ≡ 7)
  pub list_eight : (ns : List ℕ) → ((list_of T ns).reply ≡ not_written 8) ↔ (unfit T.book ≡ true)
  -- "A start call clears all rows, marks and book", and the class table: it forgets whatever stood there
  pub start_forgets : (S : Tables) → Alike S T → start_of S ≡ start_of T

-- of the rows of the past, after any calls
pub record OfPastRows (room : Room) (calls : List (List ℕ)) : Type 0 where
  -- they hold what is alive, by whatever test it is counted
  pub rows_hold : (test : Alive → Bool) → count (by_what test) (held (reference_rows (heard room calls))) ≡ count test (living (heard room calls))
  -- and what is outstanding
  pub pin_rows_hold : (test : Pin → Bool) → count (by_what test) (held (pin_rows (heard room calls))) ≡ count test (outstanding (heard room calls))

-- of the leaks of the lines heard
pub record OfLeaks (room : Room) (calls : List (List ℕ)) : Type 0 where
  -- "ordered by making line, then rule and row": no two are of one line, since an R makes one thing at most
  pub ascending : Ascending (leaks (heard room calls))
  -- "one record for each outstanding buffer and each global or weak alive": "two equal buffers are two records"
  pub buffers_listed : (t b : ℕ) → count (is_leak 8 t b) (leaks (heard room calls)) ≡ count (is_owned t b) (outstanding (heard room calls))
  pub handles_listed : (h : ℕ) → count (is_leak 10 0 h) (leaks (heard room calls)) ≡ count (is_shared h) (living (heard room calls))
  -- and nothing besides, each with the line of the R that made it
  pub each_leaked : (x : Leak) → Memᴰ x (leaks (heard room calls)) → Leaked (heard room calls) x
  pub made_by_R : (x : Leak) → Memᴰ x (leaks (heard room calls)) → LineOfR x.line (heard room calls)
  -- "The Z findings stay, and those of rules 8 and 10 count the records of their rule"
  pub buffers_counted : (k : ℕ) → Broken (heard room calls) Z 8 0 k ↔ ((k ≡ count (of_rule 8) (leaks (Z ∷ heard room calls))) × (0 < k))
  pub handles_counted : (k : ℕ) → Broken (heard room calls) Z 10 0 k ↔ ((k ≡ count (of_rule 10) (leaks (Z ∷ heard room calls))) × (0 < k))

-- of lent tables after a start and any calls, refused ones among them
pub record FromAStart (T : Tables) (calls : List (List ℕ)) : Type 0 where
  -- "breach and room are tied to history": no judge that works on the first line and pretends after, none that refuses always or has one reply
  pub replies : (bs : List ℕ) → (step_of (from_start T calls) bs).reply ≡ reply (room_of T) (heard_by T calls) bs
  -- all the breaches of the lines heard and nothing besides, in their order
  pub all_breaches : all_found (start_of T) calls ≡ findings (heard_by T calls)
  -- "Numbers given instead of an event": each of 1 to 7, 9 and 10 "given exactly when", "tested in this order"
  pub refused_exactly : (bs : List ℕ) (k : ℕ)
      → ((step_of (from_start T calls) bs).reply ≡ not_accepted k) ↔ Weighs (room_of T) (heard_by T calls) bs (refused k)
  -- 7: "after it the alive handles, the outstanding buffers, or a thread's items or frames would exceed room", or the identities stated
  pub seven_exactly : (bs : List ℕ) → ((step_of (from_start T calls) bs).reply ≡ not_accepted 7) ↔ OutOfRoom (room_of T) (heard_by T calls) bs
  -- the list is the history's: its leaks, all and nothing besides
  pub lists : (ns : List ℕ) → list_of (from_start T calls) ns ≡ list_after (heard_by T calls) ns
  -- "4 when asked before Z"
  pub four_before_Z : (ns : List ℕ) → ((list_of (from_start T calls) ns).reply ≡ not_written 4) ↔ (¬ Memᴰ Z (heard_by T calls))
  -- "7 when the slice holds fewer records than there are leaks"
  pub seven_listed : (ns : List ℕ)
      → ((list_of (from_start T calls) ns).reply ≡ not_written 7)
      ↔ (Memᴰ Z (heard_by T calls) × (length ns / leak_numbers < length (leaks (heard_by T calls))))
  -- "The list is written to a lent slice": where that has four numbers for each, they are rule, thread, value and line of each, how many is told, and what is behind them stays
  pub listed : (ns : List ℕ) → Memᴰ Z (heard_by T calls) → length (leaks (heard_by T calls)) * 4 ≤ length ns
      → list_of (from_start T calls) ns
      ≡ listing (written (length (leaks (heard_by T calls))))
      (joined (leaks (heard_by T calls)) (λ x. x.rule ∷ x.thread ∷ x.value ∷ x.line ∷ []) ++ drop (length (leaks (heard_by T calls)) * 4) ns)
  -- 8 never comes
  pub never_eight : unfit_tables (from_start T calls) ≡ false
  -- "all it leaves in lent rows, marks and book": the rows of the past, and each thread's record by the history
  pub tables_are : Tied (room_of T) (from_start T calls) (heard_by T calls)
  -- and its open items
  pub items_are : ItemsTied (from_start T calls).book (heard_by T calls)
  -- as many rows are used as handles are alive: room is not counted from handles ever made
  pub rows_used : alive references (from_start T calls).references ≡ length (living (heard_by T calls))
  -- and as many pin rows as buffers are outstanding
  pub pin_rows_used : alive pins (from_start T calls).pins ≡ length (outstanding (heard_by T calls))
  -- "a new row is the lowest free one, an ended row is zeroed": each row number by number, and each mark, also those past the room
  pub reference_numbers : Exact references (from_start T calls).references (past_references (room_of T).references (heard_by T calls))
  -- and each pin row
  pub pin_numbers : Exact pins (from_start T calls).pins (past_pins (room_of T).pins (heard_by T calls))
  -- each number of the class table is the one that the lines heard leave there
  pub class_numbers : (from_start T calls).classes ≡ past_classes (length T.classes) (heard_by T calls)
  -- that of a class is the super declared of it, or 0
  pub supers_are : (c : ℕ) → super_in (from_start T calls).classes c ≡ super_of (heard_by T calls) c
  -- what is found of an identity is what its last M stated
  pub identities_are : (x : ℕ) → identity_in (from_start T calls).classes x ≡ identity_of (heard_by T calls) x
  -- as many places are used as identities are stated: room is not counted from M lines
  pub places_used : used_places (from_start T calls).classes ≡ length (identities (heard_by T calls))
  -- every number of rows, marks, book and class table is fixed by the lines heard, whatever stood there before the start and whatever was refused since
  pub fixed_by_history : (S : Tables) → Alike S T → (others : List (List ℕ)) → heard_by T others ≡ heard_by T calls → from_start S others ≡ from_start T calls

pub record Demands : Type 0 where
  pub of_any_tables : (T : Tables) → OfAnyTables T
  pub of_past_rows : (room : Room) (calls : List (List ℕ)) → OfPastRows room calls
  pub of_leaks : (room : Room) (calls : List (List ℕ)) → OfLeaks room calls
  pub from_a_start : (T : Tables) → Long T → (calls : List (List ℕ)) → FromAStart T calls
  -- "The program stops at it": the report of a whole input, down to its bytes, is the history's; no invented Z or `end` counts
  pub reports : (T : Tables) → Long T → (input : List ℕ) → report_in T input ≡ report (room_of T) input
