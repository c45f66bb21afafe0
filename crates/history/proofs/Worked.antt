-- A worked case: an input and the report on it, written as document 01 prints them. Assumes nothing.
use Prim.Native.Nat.{ℕ, pred}
use Prim.Native.String.{String}
use mathlib.Core.List.{List, [], ◌∷◌, ◌++◌}
use lib.ListN.{length, take}
use Rattle.words.specs.Lists.{joined}
use Rattle.words.specs.Text.{bytes, with_tabs, line_feed}
use Rattle.facts.specs.Table.{table, fact_of, is_allowed_pending, is_allowed_critical, family, is_critical}
use Rattle.facts.specs.Classes.{class_a, class_b}
use Rattle.facts.specs.Identities.{wanted_of, writes_field}
use Rattle.numbers.specs.Decimal.{digits_in, digits, read_on}
use Rattle.lines.specs.Line.{Line}
use Rattle.lines.specs.Forms.{of_letter}
use Rattle.lines.specs.Reading.{fields, numbers, line_of, of_fields, read}
use Rattle.history.specs.Past.{History, through, closed}
use Rattle.history.specs.Items.{items}
use Rattle.history.specs.Frames.{frames, depth}
use Rattle.history.specs.Handles.{makes, deletes, ends, living, alive_in}
use Rattle.history.specs.Capacities.{capacities}
use Rattle.history.specs.Buffers.{pin, gets, releases, outstanding}
use Rattle.history.specs.Thread.{pending, monitors, env_of}
use Rattle.history.specs.Statements.{names, class_stated}
use Rattle.history.specs.Identities.{identity_of, identities}
use Rattle.history.specs.Classes.{super_of, super, leads, class_fits}
use Rattle.history.specs.Seen.{seen, handle_alive}
use Rattle.history.specs.Acceptance.{Room, in_step, env_right, made_by, makes_anew, classes_right, names_alive, has_room, refusal}
use Rattle.history.specs.Breaches.{handle_rule, kind_rule, place_rule, is_there, rule_at, in_critical, overflows, call_rule, end_rule, detach_rule, line_rule, breach}
use Rattle.history.specs.Findings.{of_line, findings}
use Rattle.history.specs.Replies.{verdict, Reply, reply, heard}
use Rattle.history.specs.Report.{run, lines_of, shown_end, shown, report}

-- these lines as bytes: tabs for spaces, and an LF after each
abbrev pub typed : List String → List ℕ
typed ls = joined ls λ l. with_tabs (bytes l) ++ (line_feed ∷ [])

pub record Case : Type 0 where
  pub name : String
  pub room : Room
  pub input : List ℕ
  pub report : List ℕ

-- the program lends 1,024 reference and 256 pin rows, and room for 1,024 identities
abbrev pub program : Room
program = record { references = 1024; pins = 256; identities = 1024 }

infixr 1 case◌reads◌prints◌
abbrev pub case◌reads◌prints◌ : String → List String → List String → Case
case name reads input prints report = record { name = name; room = program; input = typed input; report = typed report }

-- the case, where so many reference and pin rows are lent, and no room for identities
abbrev pub lent : ℕ → ℕ → Case → Case
lent references pins c =
    record { name = c.name; room = record { references = references; pins = pins; identities = 0 }; input = c.input; report = c.report }

-- the case, where there is room for so many identities
abbrev pub with_places : ℕ → Case → Case
with_places identities c =
    record { name = c.name; room = record { references = c.room.references; pins = c.room.pins; identities = identities }; input = c.input; report = c.report }

-- the case, where the input's last LF is missing
abbrev pub unended : Case → Case
unended c = record { name = c.name; room = c.room; input = take (pred (length c.input)) c.input; report = c.report }

-- ---- locals that thread 1 makes, one after another

abbrev pub sixteen_new_locals : List String
sixteen_new_locals =
    "C 1 100 6 0 0 0 0" ∷ "R 1 6 101 0"
    ∷ "C 1 100 6 0 0 0 0" ∷ "R 1 6 105 0"
    ∷ "C 1 100 6 0 0 0 0" ∷ "R 1 6 109 0"
    ∷ "C 1 100 6 0 0 0 0" ∷ "R 1 6 113 0"
    ∷ "C 1 100 6 0 0 0 0" ∷ "R 1 6 117 0"
    ∷ "C 1 100 6 0 0 0 0" ∷ "R 1 6 121 0"
    ∷ "C 1 100 6 0 0 0 0" ∷ "R 1 6 125 0"
    ∷ "C 1 100 6 0 0 0 0" ∷ "R 1 6 129 0"
    ∷ "C 1 100 6 0 0 0 0" ∷ "R 1 6 133 0"
    ∷ "C 1 100 6 0 0 0 0" ∷ "R 1 6 137 0"
    ∷ "C 1 100 6 0 0 0 0" ∷ "R 1 6 141 0"
    ∷ "C 1 100 6 0 0 0 0" ∷ "R 1 6 145 0"
    ∷ "C 1 100 6 0 0 0 0" ∷ "R 1 6 149 0"
    ∷ "C 1 100 6 0 0 0 0" ∷ "R 1 6 153 0"
    ∷ "C 1 100 6 0 0 0 0" ∷ "R 1 6 157 0"
    ∷ "C 1 100 6 0 0 0 0" ∷ "R 1 6 161 0"
    ∷ []

abbrev pub the_17th : List String
the_17th = "C 1 100 6 0 0 0 0" ∷ "R 1 6 165 0" ∷ []

abbrev pub the_18th : List String
the_18th = "C 1 100 6 0 0 0 0" ∷ "R 1 6 169 0" ∷ []

-- ---- what the definitions say, computed: each line names all that is computed with

-- the number 4 to 7, 9 or 10 given to a line after a history, or 0
unfoldable pub refused_by : Room → Line → History → ℕ
unfolding table fact_of family is_critical through closed items frames depth makes deletes ends living alive_in capacities pin gets releases outstanding pending monitors env_of names class_stated super_of identity_of identities seen in_step env_right made_by makes_anew classes_right names_alive has_room refusal
refused_by = refusal

-- the reply to a line after calls, which stand newest first
unfoldable pub replied : Room → List (List ℕ) → List ℕ → Reply
unfolding refused_by is_allowed_pending is_allowed_critical read_on fields numbers line_of of_letter of_fields read handle_rule kind_rule place_rule handle_alive super leads class_fits class_a class_b wanted_of writes_field is_there rule_at in_critical overflows call_rule end_rule detach_rule line_rule breach of_line verdict reply heard
replied room before bs = reply room (heard room before) bs

-- the report
unfoldable pub judged : Case → List ℕ
unfolding replied digits_in digits findings run lines_of shown_end shown report
judged c = report c.room c.input

abbrev pub printed : Case → List ℕ
printed c = c.report
