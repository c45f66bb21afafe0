-- From a start the tables follow a history, and each accepted line makes it longer by one. Assumes nothing.
use Prim.Native.Nat.{ℕ, suc, ◌<◌}
use mathlib.Core.Path.{◌≡◌, refl, sym, ap, subst, ◌∙◌}
use mathlib.Core.Bool.{Bool, true, false, false≢true}
use mathlib.Core.List.{List, [], ◌∷◌}
use native.Mathlib.Omega.{arith}
use lib.ListN.{length}
use Rattle.lines.specs.Line.{Line}
use Rattle.lines.specs.Reading.{Read, says, refused}
use Rattle.history.specs.Past.{History}
use Rattle.history.specs.Acceptance.{Room}
use Rattle.history.specs.Accepted.{Accepted, at_start, and_line}
use Rattle.history.specs.Replies.{Reply, accepted, not_accepted, most_lines, verdict}
use Rattle.history.specs.declared.Finding.{Finding}
use Rattle.tables.specs.Tables.{Tables}
use Rattle.tables.specs.Stepping.{Stepped, step_of, start_of}
use Rattle.demands.specs.Calls.{room_of, Long}
use Rattle.demands.proofs.Started.{started, items_started}
use Rattle.demands.proofs.Stepped.{answered, line_accepted, all_next, step_is}
use Rattle.run.specs.Following.{Follows}

pub start_follows : (T : Tables) → Long T → Follows (start_of T) 0
start_follows T long = record { room = room_of T; past = []; tied = record { tables = started T long; opened = items_started T }; accepts = at_start; count = refl }

abbrev is_accepted : Reply → Bool
is_accepted (accepted fs) = true
is_accepted (not_accepted k) = false

few_lines : (room : Room) (e : Line) (past : History) → Accepted room (e ∷ past) → length past < most_lines
few_lines room e past (and_line _ _ few _ _ _) = few

-- an accepted line
pub record Next (T S : Tables) (n : ℕ) (fs : List Finding) : Type 0 where
  pub follows : Follows S (suc n)
  pub few : n < most_lines

pub next_follows : (T : Tables) (n : ℕ) (bs : List ℕ) (fs : List Finding) → Follows T n → (step_of T bs).reply ≡ accepted fs → Next T (step_of T bs).left n fs
next_follows T n bs fs k is =
    subst (λ (s : Stepped). Next T s.left n fs) (sym same) (go (verdict k.room k.past bs) refl (sym (ap (λ (s : Stepped). s.reply) same) ∙ is))
  where
    same : step_of T bs ≡ answered k.past (verdict k.room k.past bs) T
    same = step_is k.room T k.past k.tied k.accepts bs

    go : (v : Read) → verdict k.room k.past bs ≡ v → (answered k.past v T).reply ≡ accepted fs → Next T (answered k.past v T).left n fs
    go (refused j) q h = absurd (false≢true (ap is_accepted h))
    go (says e) q h =
        let more = line_accepted k.room k.past bs e k.accepts q in
        record {
          follows = record {
            room = k.room;
            past = e ∷ k.past;
            tied = all_next k.room T e k.past k.tied more;
            accepts = more;
            count = ap suc k.count;
          };
          few = omega (arith, few_lines k.room e k.past more, k.count);
        }
