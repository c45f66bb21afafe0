-- The class table as the lines leave it holds what they state: each class's super, and each identity where it is looked for. Assumes nothing.
use Prim.Native.Nat.{ℕ, suc, ◌+◌, ◌-◌, ◌/◌, ◌≤◌, ◌<◌}
use mathlib.Core.Path.{◌≡◌, refl, sym, ap, ap₂, ◌∙◌}
use mathlib.Core.Bool.{Bool, true, false, not, ◌&&◌, ◌||◌}
use mathlib.Core.Logic.{◌⊎◌, inl, inr}
use mathlib.Core.List.{List, [], ◌∷◌}
use native.Mathlib.Decide.{dec_lt}
use native.Mathlib.Omega.{arith}
use lib.Dec.{eqb, leb, ltb}
use lib.ListN.{length, length-replicate}
use borrow.Author.Tests.{leb-true, le-leb, lt-leb, lt-ltb, le-ltb, ltb-true, eqb-true, eqb-false}
use Rattle.words.specs.Choice.{if_true◌then◌else◌, one, within}
use Rattle.words.specs.Lists.{any}
use Rattle.lines.specs.Line.{Line, N, X, C, R, A, D, Z, states, K, O, M, classes, largest, kind, is_class, is_identity, is_sort, is_allowed}
use Rattle.history.specs.Past.{History}
use Rattle.history.specs.Classes.{super_of}
use Rattle.history.specs.Identities.{identity, identity_of, identities}
use Rattle.history.specs.Acceptance.{Room, has_room, has_identity_room, has_item_room}
use Rattle.history.specs.Accepted.{Accepted, at_start, and_line}
use Rattle.history.proofs.Tests.{and_left, and_right, eqb_self, whether, true_not_false}
use Rattle.history.proofs.Accepting.{passed, has_room_of}
use Rattle.classes.specs.Supers.{super_in, with_super}
use Rattle.classes.specs.Identities.{identity_room, identity_number, place_of, identity_in, with_identity, used_places}
use Rattle.classes.specs.Placed.{stands, Placed}
use Rattle.classes.proofs.IdentityLaws.{there_or_free, there_stands, full_used, free_not_full, used_le, cleared_room, cleared_placed, cleared_stands, cleared_identity, cleared_used}
use Rattle.classes.proofs.PutLaws.{put_length, put_room, put_used, put_placed, put_each, put_stands}
use Rattle.classes.proofs.SuperLaws.{declared_length, declared_room, declared_stands, declared_identity, declared_used, declared_placed, declared_super, put_super, cleared_super}
use Rattle.tables.specs.Acting.{classes_after}
use Rattle.demands.specs.Tied.{past_classes}

-- ---- K, M, and every other line

data Kept (n : ℕ) : Line → Type 0 where
  declares : (c s : ℕ) → Kept n (states (K c s))
  identifies : (x sort c static final : ℕ) → Kept n (states (M x sort c static final))
  another : (e : Line) → ((past : History) → past_classes n (e ∷ past) ≡ past_classes n past) → ((past : History) (c : ℕ) → super_of (e ∷ past) c ≡ super_of past c)
      → ((past : History) (x : ℕ) → identity_of (e ∷ past) x ≡ identity_of past x) → ((past : History) → identities (e ∷ past) ≡ identities past) → Kept n e

kept : (n : ℕ) (e : Line) → Kept n e
unfolding past_classes classes_after super_of identity_of identities
kept n (N t env hs) = another (N t env hs) (λ past. refl) (λ past c. refl) (λ past x. refl) (λ past. refl)
kept n (X t r) = another (X t r) (λ past. refl) (λ past c. refl) (λ past x. refl) (λ past. refl)
kept n (C t env f a b c k) = another (C t env f a b c k) (λ past. refl) (λ past c. refl) (λ past x. refl) (λ past. refl)
kept n (R t f r p) = another (R t f r p) (λ past. refl) (λ past c. refl) (λ past x. refl) (λ past. refl)
kept n (A t env) = another (A t env) (λ past. refl) (λ past c. refl) (λ past x. refl) (λ past. refl)
kept n (D t) = another (D t) (λ past. refl) (λ past c. refl) (λ past x. refl) (λ past. refl)
kept n Z = another Z (λ past. refl) (λ past c. refl) (λ past x. refl) (λ past. refl)
kept n (states (K c s)) = declares c s
kept n (states (O t h c)) = another (states (O t h c)) (λ past. refl) (λ past c. refl) (λ past x. refl) (λ past. refl)
kept n (states (M x sort c static final)) = identifies x sort c static final

-- ---- what the table holds

pub record Holds (n : ℕ) (past : History) : Type 0 where
  pub as_long : length (past_classes n past) ≡ n
  pub supers : (c : ℕ) → super_in (past_classes n past) c ≡ super_of past c
  pub placed : Placed (past_classes n past)
  pub stated : (x : ℕ) → identity_in (past_classes n past) x ≡ identity_of past x
  pub known : (x : ℕ) → stands (past_classes n past) x ≡ any (eqb x) (identities past)
  pub used : used_places (past_classes n past) ≡ length (identities past)

at_first : (n : ℕ) → Holds n []
unfolding past_classes super_of identity_of identities
at_first n =
    record {
      as_long = length-replicate {A = ℕ} n 0;
      supers = cleared_super n;
      placed = cleared_placed n;
      stated = cleared_identity n;
      known = cleared_stands n;
      used = cleared_used n;
    }

-- M of an identity that is known already, or of a new one
known_or_new : (x sort c static final : ℕ) (past : History) (b : Bool) → any (eqb x) (identities past) ≡ b
    → identities (states (M x sort c static final) ∷ past) ≡ (if_true b then identities past else x ∷ identities past)
unfolding identities
known_or_new x sort c static final past b e = rw e

module _ (room : Room) (n : ℕ) (long : classes ≤ n) (fits : (n - classes) / 4 ≡ room.identities) where
  module _ (past : History) (h : Holds n past) where
    abbrev table : List ℕ
    table = past_classes n past

    its_room : identity_room table ≡ room.identities
    unfolding identity_room
    its_room = ap (λ (k : ℕ). (k - classes) / 4) h.as_long ∙ fits

    -- as many identities as are stated have a place
    pub stated_fit : length (identities past) ≤ room.identities
    stated_fit = omega (arith, used_le table, h.used, its_room)

    -- there is a place for an identity exactly when it is known, or one more fits
    pub place_fits : (x sort c static final : ℕ)
        → ltb (place_of table x) (identity_room table) ≡ leb (length (identities (states (M x sort c static final) ∷ past))) room.identities
    place_fits x sort c static final = whether (any (eqb x) (identities past)) there new
      where
        there : any (eqb x) (identities past) ≡ true → ltb (place_of table x) (identity_room table) ≡ leb (length (identities (states (M x sort c static final) ∷ past))) room.identities
        there k =
            rw (known_or_new x sort c static final past true k, le-leb (length (identities past)) room.identities stated_fit)
            (and_left (ltb (place_of table x) (identity_room table)) (not (eqb (identity_number table (place_of table x) 0) 0)) (h.known x ∙ k))

        new : any (eqb x) (identities past) ≡ false → ltb (place_of table x) (identity_room table) ≡ leb (length (identities (states (M x sort c static final) ∷ past))) room.identities
        new k = rw (known_or_new x sort c static final past false k) (go (dec_lt (place_of table x) (identity_room table)))
          where
            go : Dec (place_of table x < identity_room table) → ltb (place_of table x) (identity_room table) ≡ leb (suc (length (identities past))) room.identities
            go (no l) =
                le-ltb (place_of table x) (identity_room table) (omega arith)
                ∙ sym (lt-leb (suc (length (identities past))) room.identities (omega (arith, full_used table x (omega arith), h.used, its_room)))
            go (yes l) =
                lt-ltb (place_of table x) (identity_room table) l
                ∙ sym (le-leb (suc (length (identities past))) room.identities (omega (arith, less (there_or_free table x l), h.used, its_room)))
              where
                less : (identity_number table (place_of table x) 0 ≡ x) ⊎ (identity_number table (place_of table x) 0 ≡ 0) → used_places table < identity_room table
                less (inr z) = free_not_full table x l z
                less (inl e) = whether (eqb x 0)
                    (λ z. free_not_full table x l (e ∙ eqb-true x 0 z))
                    (λ z. true_not_false (stands table x) (there_stands table x l e (eqb-false x 0 z)) (h.known x ∙ k))

    declared_next : (c s : ℕ) → is_class c ≡ true → Holds n (states (K c s) ∷ past)
    unfolding past_classes classes_after super_of identity_of identities
    declared_next c s y =
        record {
          as_long = declared_length table c s ∙ h.as_long;
          supers = λ d.
              declared_super table c s y (omega (arith, h.as_long, leb-true c classes (and_right (leb 1 c) (leb c classes) y))) d
              ∙ ap (λ (u : ℕ). if_true eqb d c then s else u) (h.supers d);
          placed = declared_placed table c s y h.placed;
          stated = λ x. declared_identity table c s y x ∙ h.stated x;
          known = λ x. declared_stands table c s y x ∙ h.known x;
          used = declared_used table c s y ∙ h.used;
        }

    identified_next : (x sort c static final : ℕ) → (x ≡ 0 → ⊥) → place_of table x < identity_room table → Holds n (states (M x sort c static final) ∷ past)
    unfolding past_classes classes_after super_of identity_of
    identified_next x sort c static final some l =
        record {
          as_long = put_length table (place_of table x) x sort static final ∙ h.as_long;
          supers = λ d. put_super table (place_of table x) x sort static final d ∙ h.supers d;
          placed = put_placed table x sort static final some l h.placed;
          stated = λ y. put_each table x sort static final some l h.placed y ∙ ap (λ i. if_true eqb y x then identity sort static final else i) (h.stated y);
          known = λ y. put_stands table x sort static final some l h.placed y ∙ ap (λ (b : Bool). eqb y x || b) (h.known y) ∙ now_known y;
          used = put_used table x sort static final some l ∙ ap₂ (λ (u : ℕ) (b : Bool). u + one (not b)) h.used (h.known x) ∙ counted (any (eqb x) (identities past)) refl;
        }
      where
        counted : (b : Bool) → any (eqb x) (identities past) ≡ b → (length (identities past) + one (not b)) ≡ length (identities (states (M x sort c static final) ∷ past))
        counted true e = rw (known_or_new x sort c static final past true e) (omega arith)
        counted false e = rw (known_or_new x sort c static final past false e) (omega arith)

        now_known : (y : ℕ) → (eqb y x || any (eqb y) (identities past)) ≡ any (eqb y) (identities (states (M x sort c static final) ∷ past))
        now_known y = whether (any (eqb x) (identities past)) there (λ e. rw (known_or_new x sort c static final past false e))
          where
            there : any (eqb x) (identities past) ≡ true → (eqb y x || any (eqb y) (identities past)) ≡ any (eqb y) (identities (states (M x sort c static final) ∷ past))
            there e = rw (known_or_new x sort c static final past true e) (go (eqb y x) refl)
              where
                go : (b : Bool) → eqb y x ≡ b → (b || any (eqb y) (identities past)) ≡ any (eqb y) (identities past)
                go true q = sym (ap (λ (z : ℕ). any (eqb z) (identities past)) (eqb-true y x q) ∙ e)
                go false q = refl

    kept_next : (e : Line) → past_classes n (e ∷ past) ≡ past_classes n past → ((c : ℕ) → super_of (e ∷ past) c ≡ super_of past c)
        → ((x : ℕ) → identity_of (e ∷ past) x ≡ identity_of past x) → identities (e ∷ past) ≡ identities past → Holds n (e ∷ past)
    kept_next e same supers stated all =
        record {
          as_long = rw same h.as_long;
          supers = λ c. rw (same, supers c) (h.supers c);
          placed = rw same h.placed;
          stated = λ x. rw (same, stated x) (h.stated x);
          known = λ x. rw (same, all) (h.known x);
          used = rw (same, all) h.used;
        }

  -- of accepted lines
  pub holds : (past : History) → Accepted room past → Holds n past
  holds _ at_start = at_first n
  holds _ (and_line e past few fine no_refusal so_far) = go (kept n e) fine (passed room e past no_refusal).rooms (holds past so_far)
    where
      go : {e : Line} → Kept n e → is_allowed e ≡ true → has_room_of room e past ≡ true → Holds n past → Holds n (e ∷ past)
      go (another e same supers stated all) fine rooms h = kept_next past h e (same past) (supers past) (stated past) (all past)
      go (declares c s) fine rooms h = declared_next past h c s (and_left (is_class c) (is_class s) fine)
      go (identifies x sort c static final) fine rooms h =
          identified_next past h x sort c static final some (ltb_lt (place_fits past h x sort c static final ∙ roomy))
        where
          some : x ≡ 0 → ⊥
          some z = omega (arith, z, low)
            where
              low : 1 ≤ x
              low = leb-true 1 x (search (and_left, and_right) depth 8)

          roomy : leb (length (identities (states (M x sort c static final) ∷ past))) room.identities ≡ true
          roomy = search (and_left) depth 4

          ltb_lt : ltb (place_of (past_classes n past) x) (identity_room (past_classes n past)) ≡ true → place_of (past_classes n past) x < identity_room (past_classes n past)
          ltb_lt = ltb-true (place_of (past_classes n past) x) (identity_room (past_classes n past))
