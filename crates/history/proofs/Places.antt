-- The rule that the value at a place breaks is the one that documents 01 and 02 give. Assumes nothing.
use Prim.Native.Nat.{ℕ, ◌≤◌}
use mathlib.Core.Path.{◌≡◌, refl, sym, ap, ◌∙◌, subst}
use mathlib.Core.Logic.{◌↔◌, ◌≢◌}
use mathlib.Core.Bool.{Bool, true, false, not, ◌&&◌, ◌||◌}
use Rattle.std.specs.Prelude.{Option, None, Some, unwrap_or}
use native.Mathlib.Omega.{arith}
use lib.Dec.{eqb}
use borrow.Author.Tests.{eqb-true, eqb-false, ne_eqb, eq-eqb}
use Rattle.words.specs.Choice.{if_true◌then◌else◌}
use Rattle.facts.specs.Classes.{no_class}
use Rattle.facts.specs.Identities.{wanted_of, suits, writes_field}
use Rattle.facts.specs.declared.Place.{Place}
use Rattle.lines.specs.Line.{kind}
use Rattle.history.specs.Past.{History}
use Rattle.history.specs.Handles.{Alive, local, shared}
use Rattle.history.specs.Lives.{Lives, Means, its_local, a_shared}
use Rattle.history.specs.Classes.{super_of, leads, most_looks, class_fits}
use Rattle.history.specs.Buffers.{pin, same_pin}
use Rattle.history.specs.Seen.{seen, is_outstanding, handle_alive}
use Rattle.history.specs.Acceptance.{Room}
use Rattle.history.specs.Accepted.{Accepted}
use Rattle.history.specs.Breaches.{when, handle_rule, kind_rule, identity_rule, place_rule, is_wanted, is_there, fits_here, rule_here}
use Rattle.history.specs.Identities.{not_stated as unstated, identity_of}
use Rattle.history.specs.Identified.{Identified, Writes}
use Rattle.history.specs.declared.Identity.{Identity}
use Rattle.history.specs.Paper.{HandlePlace, at_r, at_o, at_l, at_g, at_w, Wants, a_local, a_global, a_weak, WrongKind, identity_there, handle_there, other_kind, Wrong, null_handle, null_identity, null_buffer, wrong_kind, dead_local, dead_shared, OfOtherClass, other_class, not_stated, not_wanted, final_written, not_outstanding}
use Rattle.history.proofs.Tests.{or_neither, never_true, true_not_false, either}
use Rattle.history.proofs.Buffers.{pin_out}
use Rattle.history.proofs.Classes.{leads_are}
use Rattle.history.proofs.Wanted.{suits_are, writes_are, nothing_suits}
use Rattle.history.proofs.Identities.{identified_so, never_identified, identified_or_never}
use Rattle.history.proofs.Stated.{alive_named, class_is, stated_some, class_named}

-- ---- kinds

no_handle_place : HandlePlace Place.Identity → ⊥
no_handle_place h = elim h [ ]

right_kind : (p : Place) (v : ℕ) → HandlePlace p → kind v ≢ 0 → ((k : ℕ) → Wants p k → kind v ≡ k) → ¬ WrongKind p v
right_kind p v hp nz same (identity_there _ _ _ z) = nz z
right_kind _ v hp nz same (handle_there _ k) = no_handle_place hp
right_kind p v hp nz same (other_kind _ k _ w d) = d (same k w)

module _ (room : Room) (past : History) (so_far : Accepted room past) (t v fixed : ℕ) where
  -- what is stated of the handle is the fixed class, or below it, or nothing
  abbrev class_here : Bool
  class_here = class_fits (seen past).super fixed ((seen past).class t v)

  -- ---- classes

  -- the stated class is not the fixed one or below it
  class_wrong : handle_alive t v (seen past) ≡ true → (class_here ≡ false) ↔ OfOtherClass past t v fixed
  unfolding class_fits seen
  class_wrong there = (other, wrong)
    where
      other : class_here ≡ false → OfOtherClass past t v fixed
      other h =
          let (x, m, l) = (alive_named past t v).0 there in
          let c : ℕ = (seen past).class t v in
          let (first, away) = or_neither (eqb fixed no_class || eqb c no_class) (leads (super_of past) most_looks c fixed) h in
          let (nf, ns) = or_neither (eqb fixed no_class) (eqb c no_class) first in
          let nz = eqb-false fixed no_class nf in
          record {
            handle = x;
            named = m;
            lives = l;
            class = c;
            stated = (class_is past x c (eqb-false c no_class ns)).0 (sym (class_named past t v x m l));
            some_fixed = nz;
            not_below = λ b. true_not_false (leads (super_of past) most_looks c fixed) ((leads_are room past so_far c fixed nz).1 b) away;
          }

      wrong : OfOtherClass past t v fixed → class_here ≡ false
      wrong o =
          let Some = stated_some room past so_far o.handle o.class o.stated in
          let is : (seen past).class t v ≡ o.class = class_named past t v o.handle o.named o.lives ∙ (class_is past o.handle o.class Some).1 o.stated in
          rw (
            ne_eqb fixed no_class o.some_fixed,
            is,
            ne_eqb o.class no_class Some,
            never_true (leads (super_of past) most_looks o.class fixed) (λ h. o.not_below ((leads_are room past so_far o.class fixed o.some_fixed).0 h)),
          )

  module _ (f : ℕ) where
    -- what is computed of a place is right
    abbrev Right : Place → Option ℕ → Type 0
    Right p None = Unit {0}
    Right p (Some r) = Wrong past t f fixed p v r

    handle_right : (p : Place) → HandlePlace p → v ≢ 0 → (kind v ≢ 0 → ¬ WrongKind p v) → Right p (handle_rule v (handle_alive t v (seen past)) class_here)
    unfolding handle_rule
    handle_right p hp nz fit = go (eqb (kind v) 0) refl (handle_alive t v (seen past)) refl class_here refl (eqb (kind v) 1) refl
      where
        go : (a : Bool) → eqb (kind v) 0 ≡ a → (b : Bool) → handle_alive t v (seen past) ≡ b → (c : Bool) → class_here ≡ c
            → (d : Bool) → eqb (kind v) 1 ≡ d → Right p (if_true a then Some 4 else if_true b then when (not c) 4 else if_true d then Some 11 else Some 10)
        go true ea b eb c ec d ed = wrong_kind p v nz (identity_there p v hp (eqb-true _ _ ea))
        go false ea true eb true ec d ed = tt
        go false ea true eb false ec d ed = other_class p v hp (fit (eqb-false (kind v) 0 ea)) ((class_wrong eb).0 ec)
        go false ea false eb c ec true ed =
            dead_local p v hp (fit (eqb-false _ _ ea)) (eqb-true _ _ ed)
            (λ l. true_not_false (handle_alive t v (seen past)) ((alive_named past t v).1 (local t l.frame v, its_local l.frame v (eqb-true (kind v) 1 ed), l.lives)) eb)
        go false ea false eb c ec false ed =
            let two : 2 ≤ kind v = omega (arith, eqb-false (kind v) 0 ea, eqb-false (kind v) 1 ed) in
            dead_shared p v hp (fit (eqb-false (kind v) 0 ea)) two
            (λ l. true_not_false (handle_alive t v (seen past)) ((alive_named past t v).1 (shared v, a_shared v two, l)) eb)

    kind_right : (p : Place) (k : ℕ) → HandlePlace p → Wants p k → ((j : ℕ) → Wants p j → k ≡ j) → Right p (kind_rule k v (handle_alive t v (seen past)) class_here)
    unfolding kind_rule
    kind_right p k hp w only = go (eqb v 0) refl (eqb (kind v) k) refl
      where
        go : (a : Bool) → eqb v 0 ≡ a → (b : Bool) → eqb (kind v) k ≡ b → Right p (if_true a then None else if_true b then handle_rule v (handle_alive t v (seen past)) class_here else Some 4)
        go true ea b eb = tt
        go false ea true eb = handle_right p hp (eqb-false v 0 ea) (λ nz. right_kind p v hp nz (λ j u. eqb-true (kind v) k eb ∙ only j u))
        go false ea false eb = wrong_kind p v (eqb-false _ _ ea) (other_kind p k v w (eqb-false _ _ eb))

    place_right : (p : Place) → Right p (rule_here fixed p t f v (seen past))
    unfolding place_rule is_there seen
    place_right Place.Unused = tt
    place_right Place.Handle = go (eqb v 0) refl
      where
        none_wanted : (k : ℕ) → Wants Place.Handle k → kind v ≡ k
        none_wanted k w = elim w [ ]

        go : (a : Bool) → eqb v 0 ≡ a → Right Place.Handle (if_true a then Some 7 else handle_rule v (handle_alive t v (seen past)) class_here)
        go true ea = rw (eqb-true v 0 ea) null_handle
        go false ea = handle_right Place.Handle at_r (eqb-false v 0 ea) (λ nz. right_kind Place.Handle v at_r nz none_wanted)
    place_right Place.HandleOrNull = go (eqb v 0) refl
      where
        none_wanted : (k : ℕ) → Wants Place.HandleOrNull k → kind v ≡ k
        none_wanted k w = elim w [ ]

        go : (a : Bool) → eqb v 0 ≡ a → Right Place.HandleOrNull (if_true a then None else handle_rule v (handle_alive t v (seen past)) class_here)
        go true ea = tt
        go false ea = handle_right Place.HandleOrNull at_o (eqb-false _ _ ea) (λ nz. right_kind Place.HandleOrNull v at_o nz none_wanted)
    place_right Place.LocalOrNull = kind_right Place.LocalOrNull 1 at_l a_local only
      where
        only : (j : ℕ) → Wants Place.LocalOrNull j → 1 ≡ j
        only _ a_local = refl
    place_right Place.GlobalOrNull = kind_right Place.GlobalOrNull 2 at_g a_global only
      where
        only : (j : ℕ) → Wants Place.GlobalOrNull j → 2 ≡ j
        only _ a_global = refl
    place_right Place.WeakOrNull = kind_right Place.WeakOrNull 3 at_w a_weak only
      where
        only : (j : ℕ) → Wants Place.WeakOrNull j → 3 ≡ j
        only _ a_weak = refl
    place_right Place.Identity = go (eqb v 0) refl (eqb (kind v) 0) refl (is_wanted f x) refl (writes_field f) refl (eqb x.isfinal 1) refl
      where
        x : Identity
        x = identity_of past v

        go : (a : Bool) → eqb v 0 ≡ a → (b : Bool) → eqb (kind v) 0 ≡ b → (c : Bool) → is_wanted f x ≡ c → (w : Bool) → writes_field f ≡ w
            → (d : Bool) → eqb x.isfinal 1 ≡ d → Right Place.Identity (if_true a then Some 7 else if_true b then identity_rule c (not (w && d)) else Some 4)
        go true ea b eb c ec w ew d ed = rw (eqb-true v 0 ea) null_identity
        go false ea true eb false ec w ew d ed =
            either (identified_or_never past v)
            (λ i.
            not_wanted v x.sort x.isstatic x.isfinal (eqb-false v 0 ea) (eqb-true (kind v) 0 eb) i
            (λ s. true_not_false (is_wanted f x) ((suits_are f x.sort x.isstatic).1 s) ec))
            (not_stated v (eqb-false v 0 ea) (eqb-true (kind v) 0 eb))
        go false ea true eb true ec false ew d ed = tt
        go false ea true eb true ec true ew false ed = tt
        go false ea true eb true ec true ew true ed =
            either (identified_or_never past v)
            (λ i.
            final_written v x.sort x.isstatic (eqb-false v 0 ea) (eqb-true (kind v) 0 eb)
            (subst (λ (k : ℕ). Identified v x.sort x.isstatic k past) (eqb-true x.isfinal 1 ed) i)
            ((suits_are f x.sort x.isstatic).0 ec) ((writes_are f).0 ew))
            (λ never. absurd (not_final (never_identified past v never) (eqb-true x.isfinal 1 ed)))
          where
            not_final : x ≡ unstated → x.isfinal ≡ 1 → ⊥
            not_final is one = omega (arith, ap (λ (i : Identity). i.isfinal) is, one)
        go false ea false eb c ec w ew d ed = wrong_kind Place.Identity v (eqb-false _ _ ea) (handle_there v (eqb-false _ _ eb))
    place_right Place.Buffer = go (eqb v 0) refl (is_outstanding (same_pin (pin t f v)) (seen past)) refl
      where
        go : (a : Bool) → eqb v 0 ≡ a → (b : Bool) → is_outstanding (same_pin (pin t f v)) (seen past) ≡ b → Right Place.Buffer (if_true a then Some 7 else when (not b) 8)
        go true ea b eb = rw (eqb-true v 0 ea) null_buffer
        go false ea true eb = tt
        go false ea false eb = not_outstanding v (eqb-false _ _ ea) (λ o. true_not_false _ ((pin_out past (pin t f v)).1 o) eb)

-- ---- each breach of documents 01 and 02 is computed

module _ (past : History) (t v f : ℕ) where
  wanted : (k : ℕ) (there fits : Bool) → v ≢ 0 → kind v ≡ k → kind_rule k v there fits ≡ handle_rule v there fits
  unfolding kind_rule
  wanted k there fits nz is = rw (ne_eqb v 0 nz, eq-eqb (kind v) k is)

  wanted_there : (p : Place) (k : ℕ) → Wants p k → ¬ WrongKind p v → kind v ≡ k
  wanted_there p k w fit = go (eqb (kind v) k) refl
    where
      go : (q : Bool) → eqb (kind v) k ≡ q → kind v ≡ k
      go true e = eqb-true _ _ e
      go false e = absurd (fit (other_kind p k v w (eqb-false _ _ e)))

  by_handle : (p : Place) (fits : Bool) → HandlePlace p → v ≢ 0 → ¬ WrongKind p v → place_rule p v (is_there p t f v (seen past)) fits ≡ handle_rule v (handle_alive t v (seen past)) fits
  unfolding place_rule is_there
  by_handle _ fits at_r nz fit = rw (ne_eqb v 0 nz)
  by_handle _ fits at_o nz fit = rw (ne_eqb v 0 nz)
  by_handle _ fits at_l nz fit = wanted 1 _ _ nz (wanted_there Place.LocalOrNull 1 a_local fit)
  by_handle _ fits at_g nz fit = wanted 2 _ _ nz (wanted_there Place.GlobalOrNull 2 a_global fit)
  by_handle _ fits at_w nz fit = wanted 3 _ _ nz (wanted_there Place.WeakOrNull 3 a_weak fit)

  other_rule : (k : ℕ) (there fits : Bool) → v ≢ 0 → kind v ≢ k → kind_rule k v there fits ≡ Some 4
  unfolding kind_rule
  other_rule k there fits nz d = rw (ne_eqb v 0 nz, ne_eqb (kind v) k d)

  by_kind : (p : Place) (there fits : Bool) → v ≢ 0 → WrongKind p v → place_rule p v there fits ≡ Some 4
  unfolding place_rule handle_rule kind_rule
  by_kind _ there fits nz (identity_there p _ hp z) = at_place p hp
    where
      at_place : (p : Place) → HandlePlace p → place_rule p v there fits ≡ Some 4
      at_place _ at_r = rw (ne_eqb v 0 nz, z)
      at_place _ at_o = rw (ne_eqb v 0 nz, z)
      at_place _ at_l = rw (ne_eqb v 0 nz, z)
      at_place _ at_g = rw (ne_eqb v 0 nz, z)
      at_place _ at_w = rw (ne_eqb v 0 nz, z)
  by_kind _ there fits nz (handle_there _ k) = rw (ne_eqb v 0 nz, ne_eqb (kind v) 0 k)
  by_kind _ there fits nz (other_kind p k _ w d) = at_place p k w d
    where
      at_place : (p : Place) (k : ℕ) → Wants p k → kind v ≢ k → place_rule p v there fits ≡ Some 4
      at_place _ _ a_local d = other_rule 1 there fits nz d
      at_place _ _ a_global d = other_rule 2 there fits nz d
      at_place _ _ a_weak d = other_rule 3 there fits nz d

-- whatever is told of its class, where a breach of it counts as one
some_kind : (t v : ℕ) (x : Alive) → Means t v x → kind v ≢ 0
some_kind t _ _ (its_local d v j) z = omega (arith, j, z)
some_kind t _ _ (a_shared v j) z = omega (arith, j, z)

-- and of a final field that is written
wrong_by : (past : History) (t f fixed : ℕ) (p : Place) (v r : ℕ) (fits : Bool) → (HandlePlace p → OfOtherClass past t v fixed → fits ≡ false)
    → (p ≡ Place.Identity → Writes f → (identity_of past v).isfinal ≡ 1 → fits ≡ false) → Wrong past t f fixed p v r
    → place_rule p v (is_there p t f v (seen past)) fits ≡ Some r
unfolding place_rule handle_rule is_there seen
wrong_by past t f fixed _ _ _ fits other written null_handle = refl
wrong_by past t f fixed _ _ _ fits other written null_identity = refl
wrong_by past t f fixed _ _ _ fits other written null_buffer = refl
wrong_by past t f fixed _ _ _ fits other written (wrong_kind p v nz k) = by_kind past t v f p (is_there p t f v (seen past)) fits nz k
wrong_by past t f fixed _ _ _ fits other written (dead_local p v hp fit k dead) =
    by_handle past t v f p fits hp (λ z. omega (arith, ap kind z)) fit
    ∙ rw (k, never_true (handle_alive t v (seen past)) (λ e. go ((alive_named past t v).0 e)))
  where
    go : (x : Alive) × Means t v x × Lives x past → ⊥
    go (_, its_local d _ j, l) = dead (record { frame = d; lives = l })
    go (_, a_shared _ j, l) = omega (arith, k, j)
wrong_by past t f fixed _ _ _ fits other written (dead_shared p v hp fit k dead) =
    by_handle past t v f p fits hp (λ z. omega (arith, ap kind z)) fit
    ∙ rw (ne_eqb (kind v) 0 (λ z. omega (arith, z)), never_true (handle_alive t v (seen past)) (λ e. go ((alive_named past t v).0 e)), ne_eqb (kind v) 1 (λ z. omega (arith, z)))
  where
    go : (x : Alive) × Means t v x × Lives x past → ⊥
    go (_, its_local d _ j, l) = omega (arith, k, j)
    go (_, a_shared _ j, l) = dead l
wrong_by past t f fixed _ _ _ fits other written (other_class p v hp fit o) =
    let nz = some_kind t v o.handle o.named in
    by_handle past t v f p fits hp (λ z. nz (ap kind z)) fit ∙ rw (ne_eqb (kind v) 0 nz, (alive_named past t v).1 (o.handle, o.named, o.lives), other hp o)
wrong_by past t f fixed _ _ _ fits other written (not_stated v nz k never) =
    rw (ne_eqb v 0 nz, eq-eqb (kind v) 0 k, never_identified past v never, nothing_suits f)
wrong_by past t f fixed _ _ _ fits other written (not_wanted v sort static final nz k i other_sort) =
    rw (ne_eqb v 0 nz, eq-eqb (kind v) 0 k, identified_so past v sort static final i, never_true (suits (wanted_of f) sort static) (λ s. other_sort ((suits_are f sort static).0 s)))
wrong_by past t f fixed _ _ _ fits other written (final_written v sort static nz k i s w) =
    let is = identified_so past v sort static 1 i in
    rw (ne_eqb v 0 nz, eq-eqb (kind v) 0 k, is, (suits_are f sort static).1 s, written refl w (ap (λ (x : Identity). x.isfinal) is))
wrong_by past t f fixed _ _ _ fits other written (not_outstanding v nz out) =
    rw (ne_eqb v 0 nz, never_true (is_outstanding (same_pin (pin t f v)) (seen past)) (λ e. out ((pin_out past (pin t f v)).0 e)))

-- a value breaks one rule at most, after every history
pub one_wrong : (past : History) (t f fixed : ℕ) (p : Place) (v r s : ℕ) → Wrong past t f fixed p v r → Wrong past t f fixed p v s → r ≡ s
one_wrong past t f fixed p v r s x y =
    ap (λ o. unwrap_or o 0) (sym (wrong_by past t f fixed p v r false (λ hp o. refl) (λ i w k. refl) x) ∙ wrong_by past t f fixed p v s false (λ hp o. refl) (λ i w k. refl) y)

-- a used place gives the rule that documents 01 and 02 say, the first that fits, and no other
pub place_is : (room : Room) (past : History) → Accepted room past → (t f fixed : ℕ) (p : Place) (v r : ℕ)
    → (rule_here fixed p t f v (seen past) ≡ Some r) ↔ Wrong past t f fixed p v r
place_is room past so_far t f fixed p v r = (
  λ e. subst (λ (o : Option ℕ). Right room past so_far t v fixed f p o) e (place_right room past so_far t v fixed f p),
  λ w.
      wrong_by past t f fixed p v r (fits_here fixed p t f v (seen past))
      (λ hp o. at_handle p hp ∙ (class_wrong room past so_far t v fixed ((alive_named past t v).1 (o.handle, o.named, o.lives))).1 o)
      (λ is writes last. at_identity p is writes last) w,
)
  where
    at_handle : (p : Place) → HandlePlace p → fits_here fixed p t f v (seen past) ≡ class_here room past so_far t v fixed
    at_handle _ at_r = refl
    at_handle _ at_o = refl
    at_handle _ at_l = refl
    at_handle _ at_g = refl
    at_handle _ at_w = refl

    at_identity : (p : Place) → p ≡ Place.Identity → Writes f → (identity_of past v).isfinal ≡ 1 → fits_here fixed p t f v (seen past) ≡ false
    at_identity p is writes last = unfold seen in rw (is, (writes_are f).1 writes, last)
