-- The outcome of an event is that of its line. Assumes nothing.
use Prim.Native.Nat.{ℕ}
use mathlib.Core.Path.{◌≡◌, sym, ap, ◌∙◌}
use mathlib.Core.List.{List}
use Rattle.std.specs.Prelude.{Option}
use lib.IntN.{ℤ}
use lib.ListN.{take}
use Rattle.lines.specs.Line.{N, X, C, R, A, D, Z, K, O, M, states}
use Rattle.lines.specs.Events.{result_in_line}
use Rattle.lines.specs.declared.Event.{Event}
use Rattle.history.specs.Items.{Item}
use Rattle.tables.specs.Tables.{Tables}
use Rattle.events.specs.Outcome.{Outcome, line_outcome}
use Rattle.events.specs.Event.{read_as}
use Rattle.events.specs.Heard.{read_outcome, event_outcome}

module _ (line : ℕ) (ev : Event) (hs : List ℕ) (top : Option Item) (many : ℕ) (T : Tables) (o : Outcome) where
  of_read : {r : Event} → ev ≡ r → o ≡ read_outcome line (read_as r hs) top many T → o ≡ event_outcome line ev hs top many T
  unfolding event_outcome
  of_read p q = q ∙ sym (ap (λ (v : Event). read_outcome line (read_as v hs) top many T) p)

  pub of_enter : {t env n : ℕ} → ev ≡ Event.Enter t env n → o ≡ line_outcome line (N t env (take n hs)) top many T → o ≡ event_outcome line ev hs top many T
  of_enter p q = of_read p q

  pub of_leave : {t x : ℕ} → ev ≡ Event.Leave t x → o ≡ line_outcome line (X t x) top many T → o ≡ event_outcome line ev hs top many T
  of_leave p q = of_read p q

  pub of_call : {t env f a b c : ℕ} {n : ℤ} → ev ≡ Event.Call t env f a b c n → o ≡ line_outcome line (C t env f a b c n) top many T
      → o ≡ event_outcome line ev hs top many T
  of_call p q = of_read p q

  -- passed on, a signed number is read from its bits
  pub of_return : {t f h p : ℕ} {s : ℤ} (m : ℤ) → m ≡ s → ev ≡ Event.Return t f h s p → o ≡ line_outcome line (R t f (result_in_line f h m) p) top many T
      → o ≡ event_outcome line ev hs top many T
  of_return {t} {f} {h} {p} m w e q = of_read e (q ∙ ap (λ (i : ℤ). line_outcome line (R t f (result_in_line f h i) p) top many T) w)

  pub of_attach : {t env : ℕ} → ev ≡ Event.Attach t env → o ≡ line_outcome line (A t env) top many T → o ≡ event_outcome line ev hs top many T
  of_attach p q = of_read p q

  pub of_detach : {t : ℕ} → ev ≡ Event.Detach t → o ≡ line_outcome line (D t) top many T → o ≡ event_outcome line ev hs top many T
  of_detach p q = of_read p q

  pub of_declare : {c s : ℕ} → ev ≡ Event.Declare c s → o ≡ line_outcome line (states (K c s)) top many T → o ≡ event_outcome line ev hs top many T
  of_declare p q = of_read p q

  pub of_state : {t h c : ℕ} → ev ≡ Event.State t h c → o ≡ line_outcome line (states (O t h c)) top many T → o ≡ event_outcome line ev hs top many T
  of_state p q = of_read p q

  pub of_identify : {x sort c static final : ℕ} → ev ≡ Event.Identify x sort c static final → o ≡ line_outcome line (states (M x sort c static final)) top many T → o ≡ event_outcome line ev hs top many T
  of_identify p q = of_read p q

  pub of_end : ev ≡ Event.End → o ≡ line_outcome line Z top many T → o ≡ event_outcome line ev hs top many T
  of_end p q = of_read p q
