-- What is demanded of the code, each demand as one statement about calls of its public functions. Assumes nothing.
use Rattle.std.specs.Prelude.{ℕ, ◌≤◌, ◌≡◌, ◌⊎◌, List, length, take, Result, Ok, Err}
use Rattle.lines.specs.Line.{most_handles}
use Rattle.lines.specs.declared.Event.{Event}
use Rattle.lines.specs.declared.refusal.Refusal.{Refusal}
use Rattle.lines.specs.Numbered.{number_of}
use Rattle.history.specs.Replies.{not_accepted, reply}
use Rattle.answers.specs.Answer.{Answer, answered}
use Rattle.tables.specs.Tables.{Tables}
use Rattle.tables.specs.Listing.{lists}
use Rattle.leaks.specs.Reply.{reply_of}
use Rattle.demands.specs.Leaks.{list_after}
use Rattle.demands.specs.Calls.{room_of, Long, from_start, heard_by}
use Rattle.promises.specs.Calls.{Reads, Writes, Steps, Lists, Called}

-- demand 1: "A refusal gives its number from document 01 and changes no table, no count and no finding", whatever the tables hold
abbrev pub RefusalChangesNothing : Type 0
RefusalChangesNothing = (T S : Tables) (bs : List ℕ) (r : Answer) (k : Refusal) → Steps T bs r S → r ≡ Err k → S ≡ T

abbrev pub RefusalNumber : Type 0
RefusalNumber = (T S : Tables) (bs : List ℕ) (k : Refusal) → Steps T bs (Err k) S → number_of k ≤ 10

-- demand 2: "Writing an event and reading it gives that event"
abbrev pub WrittenIsRead : Type 0
WrittenIsRead = (d d' hs gs : List ℕ) (e x : Result Event Refusal) (n : ℕ) → length hs ≡ most_handles
    → Writes d e hs (Ok n) d' → Reads (take n d') x gs → (x ≡ e) × (gs ≡ hs)

-- "reading an allowed line and writing it gives those bytes", where they have room
abbrev pub ReadIsWritten : Type 0
ReadIsWritten = (bs d d' hs : List ℕ) (e : Event) (r : Result ℕ Refusal) → length bs ≤ length d
    → Reads bs (Ok e) hs → Writes d (Ok e) hs r d' → (r ≡ Ok (length bs)) × (take (length bs) d' ≡ bs)

-- demand 3: after a start and any calls the step's answer is the history's reply to the lines heard, whatever stood in the tables before
abbrev pub Answers : Type 0
Answers = (T S S' : Tables) (calls : List (List ℕ)) (bs : List ℕ) (r : Answer) → Long T → Called T calls S → Steps S bs r S'
    → r ≡ answered (reply (room_of T) (heard_by T calls) bs)

-- a refusal's number is the one that the history's reply gives
abbrev pub RefusalAnswers : Type 0
RefusalAnswers = (T S S' : Tables) (calls : List (List ℕ)) (bs : List ℕ) (k : Refusal) → Long T → Called T calls S → Steps S bs (Err k) S'
    → reply (room_of T) (heard_by T calls) bs ≡ not_accepted (number_of k)

-- and the tables are those of which `demands: From-a-start` speaks
abbrev pub TablesAre : Type 0
TablesAre = (T S : Tables) (calls : List (List ℕ)) → Called T calls S → S ≡ from_start T calls

-- the list after them is that of the leaks of the lines heard: 4 before Z, then 7, and else all of them and nothing besides
abbrev pub LeaksListed : Type 0
LeaksListed = (T S : Tables) (calls : List (List ℕ)) (ns ns' : List ℕ) (r : Result ℕ Refusal) → Long T → Called T calls S → Lists S ns r ns'
    → lists (reply_of r) ns' ≡ list_after (heard_by T calls) ns

-- and a list that is not written leaves the slice as it was, whatever the tables hold
abbrev pub UnlistedChangesNothing : Type 0
UnlistedChangesNothing = (T : Tables) (ns ns' : List ℕ) (k : Refusal) → Lists T ns (Err k) ns' → (ns' ≡ ns) × ((number_of k ≡ 8) ⊎ (number_of k ≡ 4) ⊎ (number_of k ≡ 7))

pub record Promises : Type 0 where
  pub refusal_changes_nothing : RefusalChangesNothing
  pub refusal_number : RefusalNumber
  pub written_is_read : WrittenIsRead
  pub read_is_written : ReadIsWritten
  pub answers : Answers
  pub refusal_answers : RefusalAnswers
  pub tables_are : TablesAre
  pub leaks_listed : LeaksListed
  pub unlisted_changes_nothing : UnlistedChangesNothing
