-- What the code looked up at a place is what stands there. Assumes nothing.
use Prim.Native.Nat.{ℕ, ◌%◌}
use mathlib.Core.Path.{◌≡◌, refl, sym, ap, ap₂, ◌∙◌}
use mathlib.Core.Bool.{Bool, true, false, not, ◌&&◌, ◌||◌, false≢true}
use native.Mathlib.Decide.{ℕ_discrete}
use borrow.Author.Tests.{eq-eqb, ne_eqb, not-true, not-false}
use lib.Dec.{eqb, ltb}
use Rattle.words.specs.Choice.{if_true◌then◌else◌}
use Rattle.facts.specs.Table.{family, is_critical}
use Rattle.facts.specs.Results.{is_handle_place, is_buffer_place, is_identity_place}
use Rattle.facts.specs.Classes.{no_class}
use Rattle.facts.specs.Identities.{wanted_of, suits, writes_field}
use Rattle.facts.specs.declared.identities.Wanted.{Wanted}
use Rattle.facts.specs.declared.Place.{Place}
use Rattle.lines.specs.Line.{kind}
use Rattle.lines.proofs.Tests.{neither, or_true}
use Rattle.rows.specs.Table.{Table, room, found}
use Rattle.rows.specs.References.{references, is_handle, class_at}
use Rattle.rows.specs.Pins.{pins, is_buffer}
use Rattle.history.specs.Handles.{is_local, is_shared}
use Rattle.history.specs.Buffers.{pin, same_pin}
use Rattle.history.specs.Classes.{class_fits}
use Rattle.history.specs.Seen.{handle_alive}
use Rattle.history.specs.Breaches.{is_there}
use Rattle.history.specs.declared.Identity.{Identity}
use Rattle.classes.specs.Supers.{super_in}
use Rattle.classes.specs.Identities.{identity_in}
use Rattle.tables.specs.Tables.{Tables, handles_in, buffers_in, class_in, seen_in}
use Rattle.tables.proofs.Sights.{local_found, no_local_found, shared_found, no_handle_class, local_class, no_local_class, shared_class, own_found, no_own_found, ordinary_found}
use Rattle.sight.specs.declared.spot.Spot.{Spot}
use Rattle.sight.specs.Returns.{is_alive_as}
use Rattle.sight.specs.Spots.{spot, nowhere, local_spot, shared_spot, handle_row, class_here, handle_spot, buffer_spot, identity_spot, place_row, place_fits, place_spot}

-- thread 0 has nothing of its own
of_own : (t : ℕ) (b d : Bool) → ((t ≡ 0 → ⊥) → b ≡ d) → (t ≡ 0 → false ≡ d) → (not (eqb t 0) && b) ≡ d
of_own t b d some none = go (ℕ_discrete t 0)
  where
    go : Dec (t ≡ 0) → (not (eqb t 0) && b) ≡ d
    go (yes z) = ap (λ (x : Bool). not x && b) (eq-eqb t 0 z) ∙ none z
    go (no z) = ap (λ (x : Bool). not x && b) (ne_eqb t 0 z) ∙ some z

-- ---- a handle

module _ (T : Tables) (t h : ℕ) where
  -- a local of the thread, or a global or weak
  abbrev looked_up : Bool → Spot
  looked_up l = if_true l then local_spot T t h else shared_spot T h

  module _ (r n : ℕ) (en : n ≡ room references T.references) where
    local_at : r ≡ found references (is_handle t h) T.references → spot (not (eqb t 0) && ltb r n) r true ≡ local_spot T t h
    unfolding local_spot seen_in
    local_at er i =
        spot
        (of_own t (ltb r n) (ltb 0 (handles_in T.references (is_local t h))) (λ z. local_found T.references t h r n z er en) (no_local_found T.references t h) i)
        (er i)
        true

    shared_at : r ≡ found references (is_handle 0 h) T.references → spot (ltb r n) r true ≡ shared_spot T h
    unfolding shared_spot seen_in
    shared_at er i = spot (shared_found T.references h r n er en i) (er i) true

    -- the row was looked up in thread u
    module _ (l : Bool) (u : ℕ) (er : r ≡ found references (is_handle u h) T.references) where
      owned : (v : ℕ) → u ≡ v → r ≡ found references (is_handle v h) T.references
      owned v q = er ∙ ap (λ (w : ℕ). found references (is_handle w h) T.references) q

      pub local_looked_up : l ≡ true → u ≡ t → spot ((not l || not (eqb t 0)) && ltb r n) r true ≡ looked_up l
      local_looked_up y q = rw y (local_at (owned t q))

      pub shared_looked_up : l ≡ false → u ≡ 0 → spot ((not l || not (eqb t 0)) && ltb r n) r true ≡ looked_up l
      shared_looked_up y q = rw y (shared_at (owned 0 q))

  -- what was looked up is there where it is alive
  pub there_as : (l : Bool) (x : Spot) → x ≡ looked_up l → x.there ≡ is_alive_as l T.references t h
  unfolding local_spot shared_spot seen_in
  there_as true x e i = (e i).there
  there_as false x e i = (e i).there

module _ (T : Tables) (t h : ℕ) (x : Spot) where
  pub no_handle_at : h % 4 ≡ 0 → x ≡ nowhere → x ≡ handle_spot no_class T t h
  unfolding handle_spot handle_alive handle_row class_fits
  no_handle_at e p = rw (eq-eqb (h % 4) 0 e) p

  local_handle_at : (h % 4 ≡ 0 → ⊥) → h % 4 ≡ 1 → x ≡ local_spot T t h → x ≡ handle_spot no_class T t h
  unfolding handle_spot handle_alive handle_row class_fits local_spot
  local_handle_at z e p = rw (ne_eqb (h % 4) 0 z, eq-eqb (h % 4) 1 e) p

  shared_handle_at : (h % 4 ≡ 0 → ⊥) → (h % 4 ≡ 1 → ⊥) → x ≡ shared_spot T h → x ≡ handle_spot no_class T t h
  unfolding handle_spot handle_alive handle_row class_fits shared_spot
  shared_handle_at z e p = rw (ne_eqb (h % 4) 0 z, ne_eqb (h % 4) 1 e) p

  pub other_handle_at : (h % 4 ≡ 0 → ⊥) → x ≡ looked_up T t h (eqb (h % 4) 1) → x ≡ handle_spot no_class T t h
  other_handle_at z = go (ℕ_discrete (h % 4) 1)
    where
      go : Dec (h % 4 ≡ 1) → x ≡ looked_up T t h (eqb (h % 4) 1) → x ≡ handle_spot no_class T t h
      go (yes e) = rw (eq-eqb (h % 4) 1 e) (local_handle_at z e)
      go (no n) = rw (ne_eqb (h % 4) 1 n) (shared_handle_at z n)

-- ---- the class stated of it

module _ (T : Tables) (t h : ℕ) where
  abbrev H : Table
  H = T.references

  -- where the handle is there, the class in its row is what is stated of it
  class_there : handle_alive t h (seen_in T) ≡ true → class_at H (handle_row H t h) ≡ class_in H t h
  unfolding handle_alive handle_row seen_in
  class_there = go (ℕ_discrete (kind h) 0) (ℕ_discrete (kind h) 1) (ℕ_discrete t 0)
    where
      go : Dec (kind h ≡ 0) → Dec (kind h ≡ 1) → Dec (t ≡ 0)
          → (if_true eqb (kind h) 0 then false else if_true eqb (kind h) 1 then ltb 0 (handles_in H (is_local t h)) else ltb 0 (handles_in H (is_shared h))) ≡ true
          → class_at H (if_true eqb (kind h) 0 then 0 else if_true eqb (kind h) 1 then found references (is_handle t h) H else found references (is_handle 0 h) H) ≡ class_in H t h
      go (yes z) e o = rw (eq-eqb (kind h) 0 z) (λ q. absurd (false≢true q))
      go (no n) (yes e) (yes z) = rw (ne_eqb (kind h) 0 n, eq-eqb (kind h) 1 e) (λ q. absurd (false≢true (no_local_found H t h z ∙ q)))
      go (no n) (yes e) (no z) = rw (ne_eqb (kind h) 0 n, eq-eqb (kind h) 1 e) (λ q. local_class H t h _ n e z refl)
      go (no n) (no e) o = rw (ne_eqb (kind h) 0 n, ne_eqb (kind h) 1 e) (λ q. shared_class H t h _ n e refl)

  no_class_at : (r : ℕ) → ltb r (room references H) ≡ false → ◌≡◌ {A = ℕ} 0 (class_at H r)
  unfolding class_at
  no_class_at r e = rw e refl

  -- where it is not, nothing is
  class_nowhere : handle_alive t h (seen_in T) ≡ false → ◌≡◌ {A = ℕ} 0 (class_in H t h)
  unfolding handle_alive seen_in
  class_nowhere = go (ℕ_discrete (kind h) 0) (ℕ_discrete (kind h) 1) (ℕ_discrete t 0)
    where
      go : Dec (kind h ≡ 0) → Dec (kind h ≡ 1) → Dec (t ≡ 0)
          → (if_true eqb (kind h) 0 then false else if_true eqb (kind h) 1 then ltb 0 (handles_in H (is_local t h)) else ltb 0 (handles_in H (is_shared h))) ≡ false
          → ◌≡◌ {A = ℕ} 0 (class_in H t h)
      go (yes z) e o = λ q. no_handle_class H t h z
      go (no n) (yes e) (yes z) = λ q. no_local_class H t h n e z
      go (no n) (yes e) (no z) =
          rw (ne_eqb (kind h) 0 n, eq-eqb (kind h) 1 e) (λ q. no_class_at _ (local_found H t h _ _ z refl refl ∙ q) ∙ local_class H t h _ n e z refl)
      go (no n) (no e) o =
          rw (ne_eqb (kind h) 0 n, ne_eqb (kind h) 1 e) (λ q. no_class_at _ (shared_found H h _ _ refl refl ∙ q) ∙ shared_class H t h _ n e refl)

module _ (T : Tables) (fixed t h : ℕ) (x : Spot) (e : x ≡ handle_spot no_class T t h) where
  there_is : (b : Bool) → x.there ≡ b → handle_alive t h (seen_in T) ≡ b
  unfolding handle_spot
  there_is b q = sym (ap (λ (s : Spot). s.there) e) ∙ q

  -- nothing is judged where no class is fixed, or the handle is not there
  nothing_judged : (eqb fixed 0 || not x.there) ≡ true → true ≡ class_here fixed T t h
  unfolding class_fits seen_in
  nothing_judged = go (eqb fixed 0) refl
    where
      go : (b : Bool) → eqb fixed 0 ≡ b → (b || not x.there) ≡ true → true ≡ class_here fixed T t h
      go true z q = rw z refl
      go false z q = rw (sym (class_nowhere T t h (there_is false (not-true x.there q)))) (sym (rw (or_true (eqb fixed 0)) refl))

  pub unjudged_at : (eqb fixed 0 || not x.there) ≡ true → x ≡ handle_spot fixed T t h
  unfolding handle_spot class_fits
  unjudged_at q = e ∙ ap (spot (handle_alive t h (seen_in T)) (handle_row T.references t h)) (nothing_judged q)

  pub judged_at : (s : ℕ) (b : Bool) → (eqb fixed 0 || not x.there) ≡ false → s ≡ class_at T.references x.row → b ≡ class_fits (super_in T.classes) fixed s
      → spot x.there x.row b ≡ handle_spot fixed T t h
  unfolding handle_spot seen_in
  judged_at s b q es eb i =
      spot (e i).there (e i).row
      ((eb ∙ ap (class_fits (super_in T.classes) fixed)
      (es ∙ ap (λ (y : Spot). class_at T.references y.row) e
      ∙ class_there T t h (there_is true (not-false x.there (neither (eqb fixed 0) (not x.there) q).1)))) i)

-- ---- a buffer

module _ (T : Tables) (t f b k r n : ℕ) (e : k ≡ family f) (o : Bool) (i : o ≡ is_critical k) (en : n ≡ room pins T.pins) where
  owner : (u : ℕ) → u ≡ (if_true is_critical k then t else 0) → r ≡ found pins (is_buffer u k b) T.pins
      → r ≡ found pins (is_buffer (if_true is_critical (family f) then t else 0) (family f) b) T.pins
  owner u q er =
      er ∙ ap (λ (v : ℕ). found pins (is_buffer v k b) T.pins) q
      ∙ ap (λ (j : ℕ). found pins (is_buffer (if_true is_critical j then t else 0) j b) T.pins) e

  pub own_at : o ≡ true → r ≡ found pins (is_buffer t k b) T.pins → spot (not (eqb t 0) && ltb r n) r true ≡ buffer_spot T t f b
  unfolding buffer_spot seen_in
  own_at c er j =
      spot
      (of_own t (ltb r n) (ltb 0 (buffers_in T.pins (same_pin (pin t f b)))) (λ z. own_found T.pins t f b k r n e o i c z er en) (no_own_found T.pins t f b k r n e o i c) j)
      (owner t (rw (sym i ∙ c) refl) er j)
      true

  pub ordinary_at : o ≡ false → r ≡ found pins (is_buffer 0 k b) T.pins → spot (ltb r n) r true ≡ buffer_spot T t f b
  unfolding buffer_spot seen_in
  ordinary_at c er j = spot (ordinary_found T.pins t f b k r n e o i c er en j) (owner 0 (rw (sym i ∙ c) refl) er j) true

-- ---- an identity

pub identity_at : (T : Tables) (f x : ℕ) (i : Identity) (w : Wanted) (there writes : Bool) → i ≡ identity_in T.classes x → w ≡ wanted_of f
    → there ≡ suits w i.sort i.isstatic → writes ≡ writes_field f
    → spot there 0 (not (writes && eqb i.isfinal 1)) ≡ identity_spot T f x
unfolding identity_spot seen_in
identity_at T f x i w there writes ei ew et er j =
    spot ((et ∙ ap₂ (λ (v : Wanted) (y : Identity). suits v y.sort y.isstatic) ew ei) j) 0 (not (er j && eqb (ei j).isfinal 1))

-- ---- by the place

buffer_no_identity : (p : Place) → is_buffer_place p ≡ true → is_identity_place p ≡ false
buffer_no_identity Place.Handle h = refl
buffer_no_identity Place.HandleOrNull h = refl
buffer_no_identity Place.LocalOrNull h = refl
buffer_no_identity Place.GlobalOrNull h = refl
buffer_no_identity Place.WeakOrNull h = refl
buffer_no_identity Place.Identity h = absurd (false≢true h)
buffer_no_identity Place.Buffer h = refl
buffer_no_identity Place.Unused h = refl

module _ (fixed : ℕ) (p : Place) (T : Tables) (t f h : ℕ) (x : Spot) where
  pub handle_place_at : is_handle_place p ≡ true → x ≡ handle_spot fixed T t h → x ≡ place_spot fixed p T t f h
  unfolding place_spot handle_spot is_there place_row place_fits
  handle_place_at y q = rw y q

  pub buffer_place_at : is_handle_place p ≡ false → is_buffer_place p ≡ true → x ≡ buffer_spot T t f h → x ≡ place_spot fixed p T t f h
  unfolding place_spot buffer_spot is_there place_row place_fits
  buffer_place_at n y q = rw (n, y, buffer_no_identity p y) q

  module _ (n : is_handle_place p ≡ false) (m : is_buffer_place p ≡ false) where
    pub identity_place_at : is_identity_place p ≡ true → x ≡ identity_spot T f h → x ≡ place_spot fixed p T t f h
    unfolding place_spot identity_spot is_there place_row place_fits
    identity_place_at y q = rw (n, m, y) q

    pub no_place_at : is_identity_place p ≡ false → x ≡ nowhere → x ≡ place_spot fixed p T t f h
    unfolding place_spot is_there place_row place_fits
    no_place_at k q = rw (n, m, k) q
