-- The judge over lent tables has all that is demanded of it. Assumes nothing.
use Prim.Native.Nat.{ℕ, suc, ◌<◌}
use mathlib.Core.Path.{◌≡◌, refl, sym, ap, ap₂, ◌∙◌}
use mathlib.Core.Logic.{◌↔◌}
use mathlib.Core.List.{List, [], ◌∷◌, ◌++◌}
use native.Mathlib.Omega.{arith}
use lib.ListN.{length, length-replicate}
use Rattle.lines.specs.Reading.{Read, says, refused, read}
use Rattle.lines.specs.Line.{Line}
use Rattle.lines.proofs.Refusals.{refused_by_number}
use Rattle.history.specs.Past.{History}
use Rattle.history.specs.Seen.{seen}
use Rattle.history.specs.Acceptance.{Room}
use Rattle.history.specs.Findings.{of_line}
use Rattle.history.specs.Replies.{Reply, not_accepted, most_lines, verdict, reply_of, reply, with_line, heard}
use Rattle.history.specs.Runs.{findings_in, told}
use Rattle.history.specs.Refusals.{Given, four, five, six, nine, ten, seven, none}
use Rattle.history.specs.Verdicts.{Weighs, too_many, not_read, refuses, takes}
use Rattle.history.specs.declared.Finding.{Finding}
use Rattle.history.proofs.Replies.{verdict_is, heard_accepted, told_all}
use Rattle.tables.specs.Tables.{Tables}
use Rattle.tables.specs.Acting.{acted}
use Rattle.tables.specs.Stepping.{Stepped, step_of, start_of}
use Rattle.demands.specs.Tied.{past_classes}
use Rattle.demands.specs.Calls.{room_of, Long, after, from_start, heard_by, all_found}
use Rattle.demands.specs.Demands.{OutOfRoom, FromAStart, Demands}
use Rattle.demands.proofs.PastRows.{rows_hold, pin_rows_hold}
use Rattle.demands.proofs.Weighed.{super_tied, identity_tied, used_identities, used_rows, used_pin_rows}
use Rattle.demands.proofs.Started.{fit}
use Rattle.demands.proofs.Next.{same_length}
use Rattle.demands.proofs.Stepped.{with_line_in, answered, step_is, follows}
use Rattle.demands.proofs.Foreign.{numbered, accepted_not, refusal_keeps, eight_is, start_is}
use Rattle.demands.proofs.Listed.{list_tied, list_keeps, list_is_numbered, list_eight_is, four_is, seven_is_listed, after_listed}
use Rattle.demands.proofs.Leaks.{leaks_ascend, buffers_are_listed, handles_are_listed, each_is_leaked, leaked_by_R, buffers_are_counted, handles_are_counted}
use Rattle.demands.proofs.Numbers.{references_exact, pins_exact}
use Rattle.demands.proofs.Runs.{reports_are}

-- ---- replies

replied : (past : History) (v : Read) (T : Tables) → (answered past v T).reply ≡ reply_of past v
replied past (refused k) T = refl
replied past (says e) T = refl

module _ (T : Tables) (long : Long T) where
  -- the step after these calls
  next_step : (calls : List (List ℕ)) (bs : List ℕ)
      → step_of (after (start_of T) calls) bs ≡ answered (heard (room_of T) calls) (verdict (room_of T) (heard (room_of T) calls) bs) (after (start_of T) calls)
  next_step calls bs = step_is (room_of T) (after (start_of T) calls) (heard (room_of T) calls) (follows T long calls) (heard_accepted (room_of T) calls) bs

  replies_are : (calls : List (List ℕ)) (bs : List ℕ) → (step_of (after (start_of T) calls) bs).reply ≡ reply (room_of T) (heard (room_of T) calls) bs
  unfolding reply
  replies_are calls bs =
      ap (λ (s : Stepped). s.reply) (next_step calls bs)
      ∙ replied (heard (room_of T) calls) (verdict (room_of T) (heard (room_of T) calls) bs) (after (start_of T) calls)

  told_so : (calls : List (List ℕ)) → all_found (start_of T) calls ≡ told (room_of T) calls
  unfolding all_found told
  told_so [] = refl
  told_so (bs ∷ before) = ap₂ (λ (fs : List Finding) (r : Reply). fs ++ findings_in r) (told_so before) (replies_are before bs)

  -- ---- numbers

  refused_so : (past : History) (v : Read) (k : ℕ) → reply_of past v ≡ not_accepted k → v ≡ refused k
  refused_so past (refused j) k h = cc
  refused_so past (says e) k h = absurd (accepted_not (of_line (suc (length past)) e (seen past)) k h)

  refused_are : (calls : List (List ℕ)) (bs : List ℕ) (k : ℕ)
      → ((step_of (after (start_of T) calls) bs).reply ≡ not_accepted k) ↔ Weighs (room_of T) (heard (room_of T) calls) bs (refused k)
  unfolding reply
  refused_are calls bs k =
      let past = heard (room_of T) calls in
      let weighs = verdict_is (room_of T) past bs (heard_accepted (room_of T) calls) (refused k) in
      (λ h. weighs.0 (refused_so past (verdict (room_of T) past bs) k (sym (replies_are calls bs) ∙ h)), λ w. replies_are calls bs ∙ ap (reply_of past) (weighs.1 w))

-- the one number that the room gives
given_seven : (room : Room) (past : History) (bs : List ℕ) (e : Line) (k : ℕ) → read bs ≡ says e → length past < most_lines → Given room past e k → k ≡ 7
    → OutOfRoom room past bs
given_seven room past bs e _ said few (four s) is = absurd (omega (arith, is))
given_seven room past bs e _ said few (five s w) is = absurd (omega (arith, is))
given_seven room past bs e _ said few (six s w m) is = absurd (omega (arith, is))
given_seven room past bs e _ said few (nine s w m c) is = absurd (omega (arith, is))
given_seven room past bs e _ said few (ten s w m c d) is = absurd (omega (arith, is))
given_seven room past bs e _ said few (seven s w m c d x) is =
    record { line = e; said = said; in_time = few; turn = s; its_env = w; anew = m; right_classes = c; alive = d; over = x }
given_seven room past bs e _ said few (none s w m c d x) is = absurd (omega (arith, is))

number_of : (j k : ℕ) → refused j ≡ refused k → j ≡ k
number_of j k h = cc

weighs_seven : (room : Room) (past : History) (bs : List ℕ) (v : Read) → Weighs room past bs v → v ≡ refused 7 → OutOfRoom room past bs
weighs_seven room past bs _ (too_many l) is = absurd (omega (arith, number_of 1 7 is))
weighs_seven room past bs _ (not_read k l h) is = absurd (omega (arith, number_of k 7 is, refused_by_number bs k h))
weighs_seven room past bs _ (refuses e k l h d g) is = given_seven room past bs e k h l g (number_of k 7 is)
weighs_seven room past bs _ (takes e l h g) is = let z : ◌≡◌ {A = ℕ} 0 1 = cc in absurd (omega arith)

seven_is : (room : Room) (past : History) (bs : List ℕ) → Weighs room past bs (refused 7) ↔ OutOfRoom room past bs
seven_is room past bs = (
  λ w. weighs_seven room past bs (refused 7) w refl,
  λ x. refuses x.line 7 x.in_time x.said (λ z. omega (arith, z)) (seven x.turn x.its_env x.anew x.right_classes x.alive x.over),
)

-- ---- what is left

-- the tables that accepted lines make of others, one after another
abbrev built : Tables → History → Tables
built T [] = T
built T (e ∷ past) = with_line_in e past (built T past)

built_is : (T : Tables) → Long T → (calls : List (List ℕ)) → after (start_of T) calls ≡ built (start_of T) (heard (room_of T) calls)
unfolding after heard
built_is T long [] = refl
built_is T long (bs ∷ before) =
    ap (λ (s : Stepped). s.left) (next_step T long before bs) ∙ go (verdict (room_of T) (heard (room_of T) before) bs) (built_is T long before)
  where
    go : (v : Read) → after (start_of T) before ≡ built (start_of T) (heard (room_of T) before)
        → (answered (heard (room_of T) before) v (after (start_of T) before)).left ≡ built (start_of T) (with_line (heard (room_of T) before) v)
    go (refused k) ih = ih
    go (says e) ih = ap (with_line_in e (heard (room_of T) before)) ih

-- no line makes the class table longer or shorter
built_classes : (T : Tables) (past : History) → length (built T past).classes ≡ length T.classes
unfolding acted
built_classes T [] = refl
built_classes T (e ∷ past) = same_length e (built T past).classes ∙ built_classes T past

as_many : (T : Tables) → Long T → (calls : List (List ℕ)) → length (after (start_of T) calls).classes ≡ length T.classes
unfolding start_of
as_many T long calls =
    ap (λ (S : Tables). length S.classes) (built_is T long calls)
    ∙ built_classes (start_of T) (heard (room_of T) calls) ∙ length-replicate {A = ℕ} (length T.classes) 0

-- ---- all that is demanded

from_a_start_has : (T : Tables) → Long T → (calls : List (List ℕ)) → FromAStart T calls
from_a_start_has T long calls =
    let S = from_start T calls in
    let past = heard_by T calls in
    let k = follows T long calls in
    let so_far = heard_accepted (room_of T) calls in
    record {
      replies = replies_are T long calls;
      all_breaches = told_so T long calls ∙ told_all (room_of T) calls;
      refused_exactly = refused_are T long calls;
      seven_exactly =
          λ bs.
          let by_number = refused_are T long calls bs 7 in
          let by_room = seven_is (room_of T) past bs in
          (λ h. by_room.0 (by_number.0 h), λ x. by_number.1 (by_room.1 x));
      lists = list_tied (room_of T) S past k so_far;
      four_before_Z = λ ns. rw (list_tied (room_of T) S past k so_far ns) (four_is past ns);
      seven_listed = λ ns. rw (list_tied (room_of T) S past k so_far ns) (seven_is_listed past ns);
      listed = λ ns m few. list_tied (room_of T) S past k so_far ns ∙ after_listed past ns m few;
      never_eight = fit (room_of T) S past k.tables k.opened so_far;
      tables_are = k.tables;
      items_are = k.opened;
      rows_used = used_rows (room_of T) S past k.tables so_far;
      pin_rows_used = used_pin_rows (room_of T) S past k.tables so_far;
      reference_numbers = references_exact (room_of T) T calls past k.tables;
      pin_numbers = pins_exact (room_of T) T calls past k.tables;
      class_numbers = k.tables.class_table ∙ ap (λ (n : ℕ). past_classes n past) (as_many T long calls);
      supers_are = super_tied (room_of T) S past k.tables so_far;
      identities_are = identity_tied (room_of T) S past k.tables so_far;
      places_used = used_identities (room_of T) S past k.tables so_far;
      fixed_by_history =
          λ R alike others same.
          ap (λ (X : Tables). after X others) (start_is R T alike)
          ∙ built_is T long others ∙ ap (built (start_of T)) same ∙ sym (built_is T long calls);
    }

pub demands : Demands
demands =
    record {
      of_any_tables = λ T. record { refusal_changes_nothing = refusal_keeps T; refusal_numbered = numbered T; eight_exactly = eight_is T; list_untouched = list_keeps T; list_numbered = list_is_numbered T; list_eight = list_eight_is T; start_forgets = λ S. start_is S T };
      of_past_rows =
          λ room calls.
          record { rows_hold = rows_hold room (heard room calls) (heard_accepted room calls); pin_rows_hold = pin_rows_hold (heard room calls) };
      of_leaks =
          λ room calls.
          let past = heard room calls in
          let so_far = heard_accepted room calls in
          record {
            ascending = leaks_ascend past;
            buffers_listed = buffers_are_listed past;
            handles_listed = handles_are_listed room past so_far;
            each_leaked = each_is_leaked room past so_far;
            made_by_R = λ x m. leaked_by_R past x (each_is_leaked room past so_far x m);
            buffers_counted = buffers_are_counted past;
            handles_counted = handles_are_counted room past so_far;
          };
      from_a_start = from_a_start_has;
      reports = reports_are;
    }
