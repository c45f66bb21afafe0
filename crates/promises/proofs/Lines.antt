-- Calls of the reader and of the writer: each gives back what the other was given. Assumes nothing.
use Prim.Native.Nat.{ℕ}
use mathlib.Core.Path.{◌≡◌, refl, ap, ap₂, sym, ◌∙◌}
use mathlib.Core.Bool.{Bool, true, false, true≢false}
use mathlib.Core.List.{List, ◌++◌}
use Rattle.std.specs.Prelude.{Result, Ok, Err}
use lib.Dec.{ltb}
use lib.ListN.{length, take, drop}
use lib.Seq.{take-append_seam}
use borrow.Author.Tests.{le-ltb}
use Rattle.words.specs.Choice.{if_true◌then◌else◌}
use Rattle.lines.specs.Line.{Line}
use Rattle.lines.specs.Reading.{Read, says, refused, read}
use Rattle.lines.specs.Writing.{written}
use Rattle.lines.specs.Events.{event_of, slots_of, meant, wrote, left}
use Rattle.lines.specs.declared.Event.{Event}
use Rattle.lines.specs.declared.refusal.Refusal.{Refusal}
use Rattle.lines.proofs.RoundTrip.{read_written, written_read}
use Rattle.lines.proofs.Meant.{meant_read, read_meant}
use Rattle.promises.specs.Calls.{Reads, Writes}
use Rattle.promises.specs.Promises.{WrittenIsRead, ReadIsWritten}

-- ---- what the contracts say

read_is : {bs hs : List ℕ} {e : Result Event Refusal} → Reads bs e hs → (e ≡ event_of (read bs)) × (hs ≡ slots_of (read bs))
read_is c = (
  c.promised.0 ∙ ap (λ (x : List ℕ). event_of (read x)) c.line,
  sym c.slots ∙ c.promised.1 ∙ ap (λ (x : List ℕ). slots_of (read x)) c.line,
)

wrote_is : {d d' hs : List ℕ} {e : Result Event Refusal} {r : Result ℕ Refusal} → Writes d e hs r d' → (r ≡ wrote (meant e hs) d) × (d' ≡ left (meant e hs) d)
wrote_is {d} {d'} {hs} {e} {r} c = (
  c.promised.0 ∙ same wrote,
  sym c.written ∙ c.promised.1 ∙ same left,
)
  where
    same : {A : Type 0} (f : Read → List ℕ → A) → f (meant c.args.1.0 c.args.1.1.0.now) c.args.0.now ≡ f (meant e hs) d
    same f = rw (c.event, c.slots, c.buffer)

-- ---- what was written is read

-- a writer that wrote n bytes wrote a line, and n are its bytes
record Written (x : Read) (d d' : List ℕ) (n : ℕ) : Type 0 where
  line : Line
  is : x ≡ says line
  bytes : take n d' ≡ written line

abbrev is_ok : {A : Type 0} → Result A Refusal → Bool
is_ok (Ok x) = true
is_ok (Err k) = false

wrote_bytes : (x : Read) (d : List ℕ) {d' : List ℕ} {n : ℕ} → Ok n ≡ wrote x d → d' ≡ left x d → Written x d d' n
wrote_bytes (refused k) d h g = absurd (true≢false (ap is_ok h))
wrote_bytes (says e) d {d'} {n} h g = go (ltb (length d) (length (written e))) h g
  where
    bytes_of : Result ℕ Refusal → ℕ
    bytes_of (Ok m) = m
    bytes_of (Err k) = n

    go : (t : Bool) → Ok n ≡ (if_true t then Err Refusal.NoRoom else Ok (length (written e)))
        → d' ≡ (if_true t then d else written e ++ drop (length (written e)) d) → Written (says e) d d' n
    go true h g = absurd (true≢false (ap is_ok h))
    go false h g =
        let k : n ≡ length (written e) = ap bytes_of h in
        record { line = e; is = refl; bytes = rw (k, g) (take-append_seam (written e) (drop (length (written e)) d)) }

pub written_is_read : WrittenIsRead
written_is_read d d' hs gs e x n l w r =
    let c = wrote_is w in
    let k = wrote_bytes (meant e hs) d c.0 c.1 in
    let m = read_meant e hs k.line l k.is in
    let s : read (take n d') ≡ says k.line = ap read k.bytes ∙ read_written k.line m.2 in
    let q = read_is r in
    (q.0 ∙ ap event_of s ∙ m.0, q.1 ∙ ap slots_of s ∙ m.1)

-- ---- what was read is written

-- an answer that is no refusal is of a line
said : (x : Read) (e : Event) → Ok e ≡ event_of x → (l : Line) × (x ≡ says l)
said (refused k) e h = absurd (true≢false (ap is_ok h))
said (says l) e h = (l, refl)

pub read_is_written : ReadIsWritten
read_is_written bs d d' hs e r fits c w =
    let q = read_is c in
    let s = said (read bs) e q.0 in
    let l = s.0 in
    let b = written_read bs l s.1 in
    let m : meant (Ok e) hs ≡ says l = ap₂ meant (q.0 ∙ ap event_of s.1) (q.1 ∙ ap slots_of s.1) ∙ meant_read l b.1 in
    let p = wrote_is w in
    let t : ltb (length d) (length bs) ≡ false = le-ltb (length d) (length bs) fits in
    let u : wrote (says l) d ≡ Ok (length bs) = rw (b.0, t) in
    let v : left (says l) d ≡ bs ++ drop (length bs) d = rw (b.0, t) in
    (p.0 ∙ ap (λ (x : Read). wrote x d) m ∙ u, ap (take (length bs)) (p.1 ∙ ap (λ (x : Read). left x d) m ∙ v) ∙ take-append_seam bs (drop (length bs) d))
