-- Judges that are shut out: one that refuses always, one with one reply, one whose step does nothing, one that works on the first line only. Assumes nothing.
use mathlib.Core.Path.{◌≡◌, refl}
use mathlib.Core.List.{[], ◌∷◌}
use native.Mathlib.Omega.{arith}
use lib.Dec.{leb-zero}
use lib.IntN.{pos}
use Rattle.numbers.specs.Decimal.{read_on}
use Rattle.facts.specs.Table.{table, fact_of, is_allowed_pending, is_allowed_critical}
use Rattle.facts.specs.Classes.{class_a, class_b}
use Rattle.facts.specs.Identities.{wanted_of, writes_field}
use Rattle.lines.specs.Line.{N, X, C, R, A, D, Z, states, K, O, M}
use Rattle.lines.specs.Forms.{of_letter}
use Rattle.lines.specs.Reading.{fields, numbers, line_of, of_fields, read}
use Rattle.history.specs.Past.{History, through, closed}
use Rattle.history.specs.Items.{items}
use Rattle.history.specs.Frames.{frames, depth}
use Rattle.history.specs.Handles.{makes, deletes, ends, living, alive_in}
use Rattle.history.specs.Capacities.{capacities}
use Rattle.history.specs.Buffers.{pin, gets, releases, outstanding}
use Rattle.history.specs.Thread.{pending, monitors, env_of}
use Rattle.history.specs.Statements.{names, class_stated}
use Rattle.history.specs.Identities.{identity_of, identities}
use Rattle.history.specs.Classes.{super_of, super, leads, class_fits}
use Rattle.history.specs.Seen.{seen, handle_alive}
use Rattle.history.specs.Acceptance.{Room, in_step, env_right, made_by, makes_anew, classes_right, names_alive, has_room, refusal}
use Rattle.history.specs.Breaches.{handle_rule, kind_rule, place_rule, is_there, rule_at, in_critical, overflows, call_rule, detach_rule, end_rule, line_rule, breach}
use Rattle.history.specs.Findings.{of_line}
use Rattle.history.specs.Replies.{verdict, accepted, not_accepted, reply, heard}
use Rattle.history.specs.Accepted.{Accepted, at_start, and_line}
use Rattle.history.specs.Runs.{line, program_room}

-- what a worked case computes with: the reader and the table
reads : Unit {0}
unfolding read of_fields fields numbers read_on line_of of_letter fact_of table is_allowed_pending is_allowed_critical
reads = tt

-- the history
tells : Unit {0}
unfolding items frames through depth makes deletes ends living alive_in capacities pin gets releases outstanding pending monitors env_of names class_stated super_of identity_of identities closed seen
tells = tt

-- acceptance, breaches and replies
judges : Unit {0}
unfolding in_step env_right made_by makes_anew classes_right names_alive has_room refusal super leads class_fits class_a class_b wanted_of writes_field handle_rule kind_rule place_rule handle_alive is_there rule_at in_critical overflows call_rule detach_rule end_rule line_rule breach of_line verdict reply heard
judges = tt

module _ (room : Room) where
  -- a Z is accepted at the start: a judge that refuses always is shut out
  pub not_always_refused : reply room [] (line "Z") ≡ accepted []
  unfolding reads tells judges
  not_always_refused = rw (leb-zero room.references, leb-zero room.pins, leb-zero room.identities)

  -- after it a Z is refused: a judge with one reply is shut out, and a step that does nothing
  pub not_one_reply : reply room (heard room (line "Z" ∷ [])) (line "Z") ≡ not_accepted 4
  unfolding reads tells judges
  not_one_reply = rw (leb-zero room.references, leb-zero room.pins, leb-zero room.identities)

  -- a line of each letter is accepted
  pub each_letter : Accepted room (Z ∷ X 1 0 ∷ R 1 6 (pos 0) 0 ∷ C 1 100 6 0 0 0 (pos 0) ∷ N 1 100 [] ∷ [])
  unfolding reads tells judges
  each_letter =
      let n : History = N 1 100 [] ∷ [] in
      let c : History = C 1 100 6 0 0 0 (pos 0) ∷ n in
      let r : History = R 1 6 (pos 0) 0 ∷ c in
      let x : History = X 1 0 ∷ r in
      and_line Z x (omega arith) refl (rw (leb-zero room.references, leb-zero room.pins, leb-zero room.identities))
      (and_line (X 1 0) r (omega arith) refl (rw (leb-zero room.references, leb-zero room.pins, leb-zero room.identities))
      (and_line (R 1 6 (pos 0) 0) c (omega arith) refl (rw (leb-zero room.references, leb-zero room.pins, leb-zero room.identities))
      (and_line (C 1 100 6 0 0 0 (pos 0)) n (omega arith) refl (rw (leb-zero room.references, leb-zero room.pins, leb-zero room.identities))
      (and_line (N 1 100 []) [] (omega arith) refl (rw (leb-zero room.references, leb-zero room.pins, leb-zero room.identities)) at_start))))

  -- A and D too
  pub attached_accepted : Accepted room (D 1 ∷ R 1 6 (pos 0) 0 ∷ C 1 100 6 0 0 0 (pos 0) ∷ A 1 100 ∷ [])
  unfolding reads tells judges
  attached_accepted =
      let a : History = A 1 100 ∷ [] in
      let c : History = C 1 100 6 0 0 0 (pos 0) ∷ a in
      let r : History = R 1 6 (pos 0) 0 ∷ c in
      and_line (D 1) r (omega arith) refl (rw (leb-zero room.references, leb-zero room.pins, leb-zero room.identities))
      (and_line (R 1 6 (pos 0) 0) c (omega arith) refl (rw (leb-zero room.references, leb-zero room.pins, leb-zero room.identities))
      (and_line (C 1 100 6 0 0 0 (pos 0)) a (omega arith) refl (rw (leb-zero room.references, leb-zero room.pins, leb-zero room.identities))
      (and_line (A 1 100) [] (omega arith) refl (rw (leb-zero room.references, leb-zero room.pins, leb-zero room.identities)) at_start)))

-- K, O and M too, where there is a row and a place
pub statements_accepted : Accepted program_room (states (M 8 1 5 0 0) ∷ states (O 1 5 5) ∷ N 1 100 (5 ∷ []) ∷ states (K 5 1) ∷ [])
unfolding tells judges
statements_accepted =
    let k : History = states (K 5 1) ∷ [] in
    let n : History = N 1 100 (5 ∷ []) ∷ k in
    let o : History = states (O 1 5 5) ∷ n in
    and_line (states (M 8 1 5 0 0)) o (omega arith) refl refl
    (and_line (states (O 1 5 5)) n (omega arith) refl refl (and_line (N 1 100 (5 ∷ [])) k (omega arith) refl refl (and_line (states (K 5 1)) [] (omega arith) refl refl at_start)))

-- after the same first line the reply to the same later bytes differs, by what came between: a judge that works on the first line only is shut out
pub not_first_only : (reply program_room (heard program_room (line "R 1 4 0 0" ∷ line "C 1 100 4 0 0 0 0" ∷ line "N 1 100 5" ∷ [])) (line "C 1 100 31 5 0 0 0")
    ≡ accepted [])
    × (reply program_room (heard program_room (line "R 1 23 0 0" ∷ line "C 1 100 23 5 0 0 0" ∷ line "N 1 100 5" ∷ [])) (line "C 1 100 31 5 0 0 0")
    ≡ accepted (record { line = 4; rule = 11; place = 1; thing = 5 } ∷ []))
unfolding reads tells judges
not_first_only = (refl, refl)
