-- The unread bytes moved to the front, and more read behind them. Assumes nothing.
use Prim.Native.Nat.{ℕ, ◌+◌, ◌-◌, ◌≤◌}
use mathlib.Core.Path.{◌≡◌, refl, sym, ap, ◌∙◌}
use mathlib.Core.Bool.{Bool, true, false, false≢true}
use mathlib.Core.List.{List}
use native.Mathlib.Omega.{arith}
use lib.ListN.{length, take}
use Rattle.std.specs.Prelude.{Option, Some, None, IfSome}
use Rattle.pieces.specs.Shifted.{shifted}
use Rattle.pieces.proofs.Shifts.{shifted_front}
use Rattle.run.specs.declared.Passed.{Passed}
use Rattle.run.specs.declared.Stop.TheVariants as Stop
use Rattle.program.specs.declared.Run.{Run}
use Rattle.program.specs.declared.streams.Streams.{Streams}
use Rattle.program.specs.Progress.{buffer_size}
use Rattle.program.specs.Printing.{with_read, HasRead}
use Rattle.program.specs.Running.{at_failure, not_read, Unread, MoreRead, has_read, has_failed, PassesOn, Turned, wants_more, failed}

keeps_leaks : {s q : Streams} {room : ℕ} → HasRead s room q → q.leaks ≡ s.leaks
keeps_leaks {s} {q} h = go h.answer h.after
  where
    go : (z : Option ℕ) → q ≡ with_read s z → q.leaks ≡ s.leaks
    go (Some n) a = ap (λ (x : Streams). x.leaks) a
    go None a = ap (λ (x : Streams). x.leaks) a

pub more_failed : {r q : Run} {s : Streams} {room : ℕ} {b : Bool} {buf buf' : List ℕ} → HasRead r.streams room s → q.stop ≡ at_failure → q.streams ≡ s → b ≡ s.unreadable → b ≡ true
    → MoreRead r buf q buf'
more_failed h stop is e t =
    has_failed (record { stop = stop; why = not_read (ap (λ (x : Streams). x.unreadable) is ∙ sym e ∙ t); leaks = ap (λ (x : Streams). x.leaks) is ∙ keeps_leaks h })

-- a read that did not fail gave so many bytes
record Gave (s : Streams) (room : ℕ) (q : Streams) : Type 0 where
  bytes : ℕ
  few : bytes ≤ room
  after : q ≡ with_read s (Some bytes)

gave : {s q : Streams} {room : ℕ} → HasRead s room q → q.unreadable ≡ false → Gave s room q
gave {s} {q} {room} h good = go h.answer h.moved h.after
  where
    go : (z : Option ℕ) → IfSome z (λ n. n ≤ room) → q ≡ with_read s z → Gave s room q
    go (Some n) m a = record { bytes = n; few = m; after = a }
    go None m a = absurd (false≢true (sym good ∙ ap (λ (x : Streams). x.unreadable) a))

module _ {r : Run} {q : Streams} {b : Bool} {x y : ℕ} (u : Unread r) (h : HasRead r.streams (buffer_size - (r.to - r.from)) q) (e : b ≡ q.unreadable) (good : b ≡ false)
    (ex : x ≡ q.read) (ey : y ≡ r.streams.read) where
  its : Gave r.streams (buffer_size - (r.to - r.from)) q
  its = gave h (sym e ∙ good)

  sum : q.read ≡ r.streams.read + its.bytes
  unfolding its
  sum = ap (λ (s : Streams). s.read) its.after

  pub no_fewer : y ≤ x
  no_fewer = omega (arith, sum, ex, ey)

  counted : x - y ≡ its.bytes
  counted = omega (arith, sum, ex, ey)

  pub stand_within : (r.to - r.from) + (x - y) ≤ buffer_size
  unfolding its
  stand_within = omega (arith, counted, its.few, u.few)

  pub more_read : (buf mid buf' : List ℕ) → length buf ≡ buffer_size → mid ≡ shifted buf r.from r.to → take (r.to - r.from) buf' ≡ take (r.to - r.from) mid
      → MoreRead r buf (record { from = 0; to = (r.to - r.from) + (x - y); streams = q; findings = r.findings; refusal = r.refusal; stop = r.stop }) buf'
  more_read buf mid buf' size m kept =
      has_read its.bytes
      (record {
        from = refl;
        to = ap (λ (n : ℕ). (r.to - r.from) + n) counted;
        within = stand_within;
        kept = kept ∙ ap (take (r.to - r.from)) m ∙ shifted_front buf r.from r.to (omega (arith, size, u.within)) u.ordered;
        streams = its.after;
        findings = refl;
        refusal = refl;
        stop = refl;
      })

pub read_turned : {r w q : Run} {p : Passed} {buf buf' : List ℕ} → p.stop ≡ Stop.More → PassesOn r p w → MoreRead w buf q buf' → Turned r p buf q buf'
read_turned {w = w} h on (has_read n reads) = wants_more h w on n reads
read_turned h on (has_failed fails) = failed (record { stop = fails.stop; why = fails.why; leaks = fails.leaks ∙ ap (λ (x : Streams). x.leaks) on.streams })
