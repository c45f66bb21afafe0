-- An accepted line's items are moved. Assumes nothing.
use Prim.Native.Nat.{ℕ}
use mathlib.Core.Path.{◌≡◌, refl, sym, ap, ap₂, ◌∙◌}
use mathlib.Core.Bool.{Bool, true, false, true≢false}
use mathlib.Core.List.{List}
use Rattle.std.specs.Prelude.{Option, Ok, Err}
use lib.IntN.{ℤ}
use lib.ListN.{length, take}
use Rattle.lines.specs.Line.{Line, N, X, C, R, A, D, Z, K, O, M, states, above_zero}
use Rattle.lines.specs.Reading.{Read, says, refused}
use Rattle.lines.specs.Events.{result_in_line}
use Rattle.lines.specs.declared.refusal.Refusal.{Refusal}
use Rattle.lines.specs.declared.Event.{Event}
use Rattle.history.specs.Past.{thread_of}
use Rattle.history.specs.Items.{Item, top_of, asked}
use Rattle.history.specs.Replies.{Reply, accepted, not_accepted}
use Rattle.book.specs.Threads.{items_in, no_function, attached_function}
use Rattle.book.specs.Moves.{item_pushed, item_popped}
use Rattle.answers.specs.declared.Findings.{Findings}
use Rattle.answers.specs.Answer.{Answer}
use Rattle.tables.specs.Tables.{Tables}
use Rattle.tables.specs.Lent.{with_book}
use Rattle.tables.specs.Weighing.{weighed_in}
use Rattle.tables.specs.Acting.{items_moved}
use Rattle.tables.specs.Stepping.{follow, next_line, on_line, on_read, with_items}
use Rattle.events.specs.Outcome.{Outcome, leaves, outcome, outcome_of, line_outcome}
use Rattle.events.specs.Event.{read_as, thread_named, items_after}
use Rattle.events.specs.Heard.{read_outcome, event_outcome, said_outcome}

-- ---- how each event moves them

module _ (b b' : List ℕ) (ev : Event) where
  moved_as : {r : Event} → ev ≡ r → ((hs : List ℕ) → b' ≡ items_after (read_as r hs) b) → (hs : List ℕ) → b' ≡ items_after (read_as ev hs) b
  moved_as p q hs = q hs ∙ sym (ap (λ (v : Event). items_after (read_as v hs) b) p)

  pub native_opened : {t env n : ℕ} → ev ≡ Event.Enter t env n → b' ≡ item_pushed b t no_function 0 → (hs : List ℕ) → b' ≡ items_after (read_as ev hs) b
  unfolding items_moved
  native_opened p q = moved_as p (λ hs. q)

  pub native_closed : {t r : ℕ} → ev ≡ Event.Leave t r → b' ≡ item_popped b t → (hs : List ℕ) → b' ≡ items_after (read_as ev hs) b
  unfolding items_moved
  native_closed p q = moved_as p (λ hs. q)

  -- passed on, a signed number is read from its bits
  pub call_opened : {t env f a c d i : ℕ} {n : ℤ} (m : ℤ) → m ≡ n → ev ≡ Event.Call t env f a c d n → i ≡ above_zero m → b' ≡ item_pushed b t f i
      → (hs : List ℕ) → b' ≡ items_after (read_as ev hs) b
  unfolding items_moved
  call_opened {t} {env} {f} m w p e q = moved_as p (λ hs. q ∙ ap (item_pushed b t f) (e ∙ ap above_zero w))

  pub call_closed : {t f h p : ℕ} {s : ℤ} → ev ≡ Event.Return t f h s p → b' ≡ item_popped b t → (hs : List ℕ) → b' ≡ items_after (read_as ev hs) b
  unfolding items_moved
  call_closed p q = moved_as p (λ hs. q)

  pub attached_opened : {t env : ℕ} → ev ≡ Event.Attach t env → b' ≡ item_pushed b t attached_function 0 → (hs : List ℕ) → b' ≡ items_after (read_as ev hs) b
  unfolding items_moved
  attached_opened p q = moved_as p (λ hs. q)

  pub attached_closed : {t : ℕ} → ev ≡ Event.Detach t → b' ≡ item_popped b t → (hs : List ℕ) → b' ≡ items_after (read_as ev hs) b
  unfolding items_moved
  attached_closed p q = moved_as p (λ hs. q)

  pub none_declared : {c s : ℕ} → ev ≡ Event.Declare c s → b' ≡ b → (hs : List ℕ) → b' ≡ items_after (read_as ev hs) b
  unfolding items_moved
  none_declared p q = moved_as p (λ hs. q)

  pub none_stated : {t h c : ℕ} → ev ≡ Event.State t h c → b' ≡ b → (hs : List ℕ) → b' ≡ items_after (read_as ev hs) b
  unfolding items_moved
  none_stated p q = moved_as p (λ hs. q)

  pub none_identified : {x sort c static final : ℕ} → ev ≡ Event.Identify x sort c static final → b' ≡ b → (hs : List ℕ) → b' ≡ items_after (read_as ev hs) b
  unfolding items_moved
  none_identified p q = moved_as p (λ hs. q)

  pub none_at_end : ev ≡ Event.End → b' ≡ b → (hs : List ℕ) → b' ≡ items_after (read_as ev hs) b
  unfolding items_moved
  none_at_end p q = moved_as p (λ hs. q)

-- ---- of an accepted line

abbrev is_found : Answer → Bool
is_found (Ok f) = true
is_found (Err k) = false

-- the step over what was read, where the answer and the tables but for the open items are known
module _ (T : Tables) (y : Answer) (S : Tables) where
  abbrev top_in : Line → Option Item
  top_in e = top_of (items_in T.book (thread_of e))

  abbrev many_in : Line → ℕ
  many_in e = length (items_in T.book (thread_of e))

  abbrev outcome_in : Line → Outcome
  outcome_in e = line_outcome (next_line T) e (top_in e) (many_in e) T

  -- by the reply, with the items moved or not
  by_reply : (line : ℕ) (e : Line) (n : ℕ) (r : Reply) → leaves y S ≡ outcome_of r line e n T
      → ((f : Findings) → y ≡ Ok f → leaves y (with_book S (items_moved e S.book)) ≡ outcome (follow line e n r T)) × ((k : Refusal) → y ≡ Err k → leaves y S ≡ outcome (follow line e n r T))
  by_reply line e n (not_accepted j) q = (λ f h. absurd (true≢false (ap is_found (sym h ∙ ap (λ (o : Outcome). o.answer) q))), λ k h. q)
  by_reply line e n (accepted fs) q = (
    λ f h. ap₂ leaves (ap (λ (o : Outcome). o.answer) q) (ap (λ (o : Outcome). with_items e o.left) q),
    λ k h. absurd (true≢false (sym (ap is_found (sym h ∙ ap (λ (o : Outcome). o.answer) q)))),
  )

  both : (e : Line) → leaves y S ≡ outcome_in e
      → ((f : Findings) → y ≡ Ok f → leaves y (with_book S (items_moved e S.book)) ≡ outcome (on_line e (items_in T.book (thread_of e)) T))
      × ((k : Refusal) → y ≡ Err k → leaves y S ≡ outcome (on_line e (items_in T.book (thread_of e)) T))
  unfolding line_outcome
  both e q = by_reply (next_line T) e (asked (top_in e)) (weighed_in (next_line T) e (top_in e) (many_in e) T) q

  accepted_on : (r : Read) (top : Option Item) (many : ℕ) → ((e : Line) → r ≡ says e → (top ≡ top_in e) × (many ≡ many_in e))
      → leaves y S ≡ read_outcome (next_line T) r top many T → (f : Findings) → y ≡ Ok f → leaves y (with_book S (items_after r S.book)) ≡ outcome (on_read r T)
  accepted_on (refused k) top many at q f z = q
  accepted_on (says e) top many at q f z = (both e (q ∙ ap₂ (λ (o : Option Item) (i : ℕ). line_outcome (next_line T) e o i T) (at e refl).0 (at e refl).1)).0 f z

  refused_on : (r : Read) (top : Option Item) (many : ℕ) → ((e : Line) → r ≡ says e → (top ≡ top_in e) × (many ≡ many_in e))
      → leaves y S ≡ read_outcome (next_line T) r top many T → (k : Refusal) → y ≡ Err k → leaves y S ≡ outcome (on_read r T)
  refused_on (refused j) top many at q k z = q
  refused_on (says e) top many at q k z = (both e (q ∙ ap₂ (λ (o : Option Item) (i : ℕ). line_outcome (next_line T) e o i T) (at e refl).0 (at e refl).1)).1 k z

-- the thread that the event names is the line's
thread_is : (ev : Event) (hs : List ℕ) (e : Line) → read_as ev hs ≡ says e → thread_named ev ≡ thread_of e
thread_is (Event.Enter t env n) hs e h = let same : N t env (take n hs) ≡ e = cc in ap thread_of same
thread_is (Event.Leave t r) hs e h = let same : X t r ≡ e = cc in ap thread_of same
thread_is (Event.Call t env f a b c n) hs e h = let same : C t env f a b c n ≡ e = cc in ap thread_of same
thread_is (Event.Return t f r s p) hs e h = let same : R t f (result_in_line f r s) p ≡ e = cc in ap thread_of same
thread_is (Event.Attach t env) hs e h = let same : A t env ≡ e = cc in ap thread_of same
thread_is (Event.Detach t) hs e h = let same : D t ≡ e = cc in ap thread_of same
thread_is (Event.Declare c s) hs e h = let same : states (K c s) ≡ e = cc in ap thread_of same
thread_is (Event.State t v c) hs e h = let same : states (O t v c) ≡ e = cc in ap thread_of same
thread_is (Event.Identify x sort c static final) hs e h = let same : states (M x sort c static final) ≡ e = cc in ap thread_of same
thread_is Event.End hs e h = let same : Z ≡ e = cc in ap thread_of same

-- ---- a line that was read

module _ (T : Tables) (ev : Event) (hs : List ℕ) (t many line : ℕ) (top : Option Item) (y : Answer) (S : Tables) (et : t ≡ thread_named ev) (el : line ≡ next_line T)
    (ei : top ≡ top_of (items_in T.book t)) (em : many ≡ length (items_in T.book t)) (q : leaves y S ≡ event_outcome line ev hs top many T) where
  at : (e : Line) → read_as ev hs ≡ says e → (top ≡ top_of (items_in T.book (thread_of e))) × (many ≡ length (items_in T.book (thread_of e)))
  at e h =
      let own : t ≡ thread_of e = et ∙ thread_is ev hs e h in
      (ei ∙ ap (λ (i : ℕ). top_of (items_in T.book i)) own, em ∙ ap (λ (i : ℕ). length (items_in T.book i)) own)

  told : leaves y S ≡ read_outcome (next_line T) (read_as ev hs) top many T
  unfolding event_outcome
  told = q ∙ ap (λ (n : ℕ). read_outcome n (read_as ev hs) top many T) el

  pub said_accepted : (f : Findings) (b' : List ℕ) → y ≡ Ok f → ((gs : List ℕ) → b' ≡ items_after (read_as ev gs) S.book) → leaves (Ok f) (with_book S b') ≡ said_outcome ev hs T
  unfolding said_outcome
  said_accepted f b' n m = ap₂ (λ (a : Answer) (x : List ℕ). leaves a (with_book S x)) (sym n) (m hs) ∙ accepted_on T y S (read_as ev hs) top many at told f n

  pub said_refused : (x : Answer) (k : Refusal) → y ≡ Err k → x ≡ Err k → leaves x S ≡ said_outcome ev hs T
  unfolding said_outcome
  said_refused x k n w = ap (λ (a : Answer). leaves a S) (w ∙ sym n) ∙ refused_on T y S (read_as ev hs) top many at told k n
