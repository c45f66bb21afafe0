-- Each number 4 to 7, 9 and 10 is given exactly when documents 01 and 02 say so; 7 when the history with the line exceeds room. Assumes nothing.
use Prim.Native.Nat.{ℕ, ◌≤◌}
use mathlib.Core.Path.{◌≡◌, refl, sym, ap, subst}
use mathlib.Core.Logic.{◌↔◌, ◌≢◌}
use mathlib.Core.Bool.{Bool, true, false, ◌&&◌, false≢true}
use mathlib.Core.List.{List, [], ◌∷◌, tail}
use native.Mathlib.Omega.{arith}
use lib.Dec.{leb, ltb}
use lib.ListN.{length}
use borrow.Author.Tests.{leb-true, leb-false, ltb-true, ltb-false}
use Rattle.words.specs.Lists.{count}
use Rattle.lines.specs.Line.{Line, N, X, C, R, A, D, Z, states}
use Rattle.history.specs.Past.{History, thread_of, is_of, through}
use Rattle.history.specs.Items.{Item, items}
use Rattle.history.specs.Frames.{frames, depth}
use Rattle.history.specs.Handles.{living}
use Rattle.history.specs.Buffers.{outstanding}
use Rattle.history.specs.Identities.{identities}
use Rattle.history.specs.Seen.{seen}
use Rattle.history.specs.Acceptance.{Room, env_right, makes_anew, classes_right, names_alive, has_room, has_identity_room, has_item_room, deepest, everything, first_refusal, refusal}
use Rattle.history.specs.Accepted.{Accepted, at_start, and_line}
use Rattle.history.specs.Bounds.{Bounded}
use Rattle.history.specs.Refusals.{WrongEnv, MadeAgain, WrongClass, NamesDead, Exceeds, handles, buffers, stated, open_items, frames as frames_too, Given, four, five, six, nine, ten, seven, none}
use Rattle.history.proofs.Tests.{all_three, true_not_false, never_true, never_false, eqb_self}
use Rattle.history.proofs.Counts.{count_all}
use Rattle.history.proofs.Threads.{own_items, other_items, other_depth, thread_is}
use Rattle.history.proofs.Accepting.{in_step_of, has_room_of, passed}
use Rattle.history.proofs.Stacks.{natives_in_frames, framed_items, monitors_in_lines, at_most_a_million}
use Rattle.history.proofs.Turns.{in_step_is, env_is, anew_is}
use Rattle.history.proofs.Stating.{classes_are, names_are}

-- ---- room

tail_less : (is : List Item) → length (tail is) ≤ length is
tail_less [] = omega arith
tail_less (i ∷ is) = omega arith

module _ (room : Room) where
  -- an item more has room, by the test of the line that opens it
  items_fit : (e : Line) (past : History) (t : ℕ) → length (items t past) ≤ deepest → has_item_room e (length (items (thread_of e) past)) ≡ true
      → is_of t e ≡ true → length (items t (e ∷ past)) ≤ deepest
  items_fit (N s env hs) past t l h o = omega (arith, ap length (own_items t (N s env hs) past o), ltb-true (length (items t past)) deepest (rw (thread_is t (N s env hs) o) at h))
  items_fit (X s r) past t l h o = omega (arith, ap length (own_items t (X s r) past o), tail_less (items t past))
  items_fit (C s env f a b c n) past t l h o =
      omega (arith, ap length (own_items t (C s env f a b c n) past o), ltb-true (length (items t past)) deepest (rw (thread_is t (C s env f a b c n) o) at h))
  items_fit (R s f r p) past t l h o = omega (arith, ap length (own_items t (R s f r p) past o), tail_less (items t past))
  items_fit (A s env) past t l h o = omega (arith, ap length (own_items t (A s env) past o), ltb-true (length (items t past)) deepest (rw (thread_is t (A s env) o) at h))
  items_fit (D s) past t l h o = omega (arith, ap length (own_items t (D s) past o), tail_less (items t past))
  items_fit Z past t l h o = absurd (false≢true o)
  items_fit (states s) past t l h o = absurd (false≢true o)

  not_deeper : (past : History) → ¬ Exceeds room past → (t : ℕ) → (length (items t past) ≤ deepest) × (depth t past ≤ deepest)
  not_deeper past h t = (go (ltb deepest (length (items t past))) refl, go_too (ltb deepest (depth t past)) refl)
    where
      go : (q : Bool) → ltb deepest (length (items t past)) ≡ q → length (items t past) ≤ deepest
      go true k = absurd (h (open_items t (ltb-true _ _ k)))
      go false k = ltb-false _ _ k

      go_too : (q : Bool) → ltb deepest (depth t past) ≡ q → depth t past ≤ deepest
      go_too true k = absurd (h (frames_too t (ltb-true _ _ k)))
      go_too false k = ltb-false _ _ k

  room_says : (after : History) (t : ℕ) → has_room room t (seen after) ≡ true
      → (length (living after) ≤ room.references) × (length (outstanding after) ≤ room.pins) × (depth t after ≤ deepest)
  unfolding has_room seen depth
  room_says after t h =
      let alive : ℕ = count everything (living after) in
      let out : ℕ = count everything (outstanding after) in
      let (x, y, z) = all_three (leb alive room.references) (leb out room.pins) (leb (depth t after) deepest) h in
      omega (arith, leb-true alive room.references x, leb-true out room.pins y, leb-true (depth t after) deepest z, count_all (living after), count_all (outstanding after))

  fits : (e : Line) (past : History) → ¬ Exceeds room past → has_room_of room e past ≡ true → ¬ Exceeds room (e ∷ past)
  fits e past before h = let (i, r, o) = all_three (has_identity_room room (e ∷ past)) rows opens h in go (room_says (e ∷ past) (thread_of e) r) i o
    where
      rows : Bool
      rows = has_room room (thread_of e) (seen (e ∷ past))

      opens : Bool
      opens = has_item_room e (length (items (thread_of e) past))

      go : (length (living (e ∷ past)) ≤ room.references) × (length (outstanding (e ∷ past)) ≤ room.pins) × (depth (thread_of e) (e ∷ past) ≤ deepest)
          → has_identity_room room (e ∷ past) ≡ true → has_item_room e (length (items (thread_of e) past)) ≡ true → Exceeds room (e ∷ past) → ⊥
      go fit few one_more (handles k) = omega arith
      go fit few one_more (buffers k) = omega arith
      go fit few one_more (stated k) = omega (arith, leb-true (length (identities (e ∷ past))) room.identities few)
      go fit few one_more (open_items t k) = at (is_of t e) refl
        where
          at : (q : Bool) → is_of t e ≡ q → ⊥
          at true o = omega (arith, items_fit e past t (not_deeper past before t).0 one_more o)
          at false o = omega (arith, ap length (other_items t e past o), (not_deeper past before t).0)
      go fit few one_more (frames_too t k) = at (is_of t e) refl
        where
          at : (q : Bool) → is_of t e ≡ q → ⊥
          at true o = omega (arith, ap (λ (u : ℕ). depth u (e ∷ past)) (thread_is t e o))
          at false o = omega (arith, other_depth t e past o, (not_deeper past before t).1)

  -- after accepted lines nothing exceeds room, in no thread
  pub within_room : (past : History) → Accepted room past → ¬ Exceeds room past
  unfolding living outstanding identities items frames through depth
  within_room _ at_start (handles k) = omega arith
  within_room _ at_start (buffers k) = omega arith
  within_room _ at_start (stated k) = omega arith
  within_room _ at_start (open_items t k) = omega arith
  within_room _ at_start (frames_too t k) = omega arith
  within_room _ (and_line e past n a r k) x = fits e past (within_room past k) (passed room e past r).rooms x

  -- each thread has at most 64 open items and 64 frames
  pub at_most_64 : (past : History) → Accepted room past → (t : ℕ) → (length (items t past) ≤ 64) × (depth t past ≤ 64)
  at_most_64 past a t = not_deeper past (within_room past a) t

  -- what refusal 8 tests holds after accepted lines: from a start 8 never comes
  pub never_eight : (past : History) → Accepted room past → (t : ℕ) → Bounded t past
  never_eight past a t =
      record {
        items_fit = (at_most_64 past a t).0;
        frames_fit = (at_most_64 past a t).1;
        natives_fit = natives_in_frames room past a t;
        framed = framed_items room past a t;
        monitors_fit = omega (arith, monitors_in_lines past t, at_most_a_million room past a);
        lines_fit = at_most_a_million room past a;
      }

  no_item_room : (e : Line) (past : History) → has_item_room e (length (items (thread_of e) past)) ≡ false → Exceeds room (e ∷ past)
  no_item_room (N t env hs) past h =
      open_items t (omega (arith, ltb-false (length (items t past)) deepest h, ap length (own_items t (N t env hs) past (eqb_self t))))
  no_item_room (X t r) past h = absurd (false≢true (sym h))
  no_item_room (C t env f a b c n) past h =
      open_items t (omega (arith, ltb-false (length (items t past)) deepest h, ap length (own_items t (C t env f a b c n) past (eqb_self t))))
  no_item_room (R t f r p) past h = absurd (false≢true (sym h))
  no_item_room (A t env) past h =
      open_items t (omega (arith, ltb-false (length (items t past)) deepest h, ap length (own_items t (A t env) past (eqb_self t))))
  no_item_room (D t) past h = absurd (false≢true (sym h))
  no_item_room Z past h = absurd (false≢true (sym h))
  no_item_room (states s) past h = absurd (false≢true (sym h))

  no_room : (e : Line) (past : History) → has_room_of room e past ≡ false → Exceeds room (e ∷ past)
  unfolding has_room seen depth
  no_room e past h =
      go (has_identity_room room (e ∷ past)) refl (leb (count everything (living (e ∷ past))) room.references) refl (leb (count everything (outstanding (e ∷ past))) room.pins) refl
      (leb (depth (thread_of e) (e ∷ past)) deepest) refl (has_item_room e (length (items (thread_of e) past))) refl h
    where
      go : (i : Bool) → has_identity_room room (e ∷ past) ≡ i → (a : Bool) → leb (count everything (living (e ∷ past))) room.references ≡ a
          → (b : Bool) → leb (count everything (outstanding (e ∷ past))) room.pins ≡ b → (c : Bool) → leb (depth (thread_of e) (e ∷ past)) deepest ≡ c
          → (d : Bool) → has_item_room e (length (items (thread_of e) past)) ≡ d → (i && (a && b && c) && d) ≡ false → Exceeds room (e ∷ past)
      go false ei a ea b eb c ec d ed k = stated (leb-false (length (identities (e ∷ past))) room.identities ei)
      go true ei false ea b eb c ec d ed k = handles (omega (arith, leb-false (count everything (living (e ∷ past))) room.references ea, count_all (living (e ∷ past))))
      go true ei true ea false eb c ec d ed k = buffers (omega (arith, leb-false (count everything (outstanding (e ∷ past))) room.pins eb, count_all (outstanding (e ∷ past))))
      go true ei true ea true eb false ec d ed k = frames_too (thread_of e) (leb-false _ _ ec)
      go true ei true ea true eb true ec false ed k = no_item_room e past ed
      go true ei true ea true eb true ec true ed k = absurd (false≢true (sym k))

  pub room_is : (e : Line) (past : History) → Accepted room past → (has_room_of room e past ≡ false) ↔ Exceeds room (e ∷ past)
  room_is e past a = (no_room e past, λ x. never_true (has_room_of room e past) (λ h. fits e past (within_room past a) h x))

  -- ---- which number

  given : (e : Line) (past : History) → Accepted room past → (a b c f g d : Bool) → in_step_of e past ≡ a → env_right e (seen past) ≡ b
      → makes_anew e (seen past) ≡ c → classes_right e (seen past) ≡ f → names_alive e (seen past) ≡ g → has_room_of room e past ≡ d
      → Given room past e (first_refusal a b c f g d)
  given e past k false b c f g d ea eb ec ef eg ed = four (λ s. true_not_false _ ((in_step_is past e).1 s) ea)
  given e past k true false c f g d ea eb ec ef eg ed = five ((in_step_is past e).0 ea) ((env_is past e).0 eb)
  given e past k true true false f g d ea eb ec ef eg ed = six ((in_step_is past e).0 ea) (λ w. true_not_false _ eb ((env_is past e).1 w)) ((anew_is past e).0 ec)
  given e past k true true true false g d ea eb ec ef eg ed =
      nine ((in_step_is past e).0 ea) (λ w. true_not_false _ eb ((env_is past e).1 w)) (λ m. true_not_false _ ec ((anew_is past e).1 m))
      ((classes_are room past k e).0 ef)
  given e past k true true true true false d ea eb ec ef eg ed =
      ten ((in_step_is past e).0 ea) (λ w. true_not_false _ eb ((env_is past e).1 w)) (λ m. true_not_false _ ec ((anew_is past e).1 m))
      (λ c. true_not_false _ ef ((classes_are room past k e).1 c)) ((names_are past e).0 eg)
  given e past k true true true true true false ea eb ec ef eg ed =
      seven ((in_step_is past e).0 ea) (λ w. true_not_false _ eb ((env_is past e).1 w)) (λ m. true_not_false _ ec ((anew_is past e).1 m))
      (λ c. true_not_false _ ef ((classes_are room past k e).1 c)) (λ n. true_not_false _ eg ((names_are past e).1 n)) ((room_is e past k).0 ed)
  given e past k true true true true true true ea eb ec ef eg ed =
      none ((in_step_is past e).0 ea) (λ w. true_not_false _ eb ((env_is past e).1 w)) (λ m. true_not_false _ ec ((anew_is past e).1 m))
      (λ c. true_not_false _ ef ((classes_are room past k e).1 c)) (λ n. true_not_false _ eg ((names_are past e).1 n)) (λ x. true_not_false _ ed ((room_is e past k).1 x))

  right_env : (e : Line) (past : History) → ¬ WrongEnv past e → env_right e (seen past) ≡ true
  right_env e past w = never_false (env_right e (seen past)) (λ h. w ((env_is past e).0 h))

  anew : (e : Line) (past : History) → ¬ MadeAgain past e → makes_anew e (seen past) ≡ true
  anew e past m = never_false (makes_anew e (seen past)) (λ h. m ((anew_is past e).0 h))

  right_classes : (e : Line) (past : History) → Accepted room past → ¬ WrongClass past e → classes_right e (seen past) ≡ true
  right_classes e past k w = never_false (classes_right e (seen past)) (λ h. w ((classes_are room past k e).0 h))

  alive_there : (e : Line) (past : History) → ¬ NamesDead past e → names_alive e (seen past) ≡ true
  alive_there e past w = never_false (names_alive e (seen past)) (λ h. w ((names_are past e).0 h))

  refused : (e : Line) (past : History) → Accepted room past → (n : ℕ) → Given room past e n → refusal room e past ≡ n
  unfolding refusal
  refused e past k _ (four s) = rw (never_true (in_step_of e past) (λ h. s ((in_step_is past e).0 h)))
  refused e past k _ (five s w) = rw ((in_step_is past e).1 s, (env_is past e).1 w)
  refused e past k _ (six s w m) = rw ((in_step_is past e).1 s, right_env e past w, (anew_is past e).1 m)
  refused e past k _ (nine s w m c) = rw ((in_step_is past e).1 s, right_env e past w, anew e past m, (classes_are room past k e).1 c)
  refused e past k _ (ten s w m c d) = rw ((in_step_is past e).1 s, right_env e past w, anew e past m, right_classes e past k c, (names_are past e).1 d)
  refused e past k _ (seven s w m c d x) =
      rw ((in_step_is past e).1 s, right_env e past w, anew e past m, right_classes e past k c, alive_there e past d, (room_is e past k).1 x)
  refused e past k _ (none s w m c d x) =
      rw ((in_step_is past e).1 s, right_env e past w, anew e past m, right_classes e past k c, alive_there e past d, never_false (has_room_of room e past) (λ h. x ((room_is e past k).0 h)))

  -- a line after accepted lines is given exactly the number that document 01 says, or none
  pub refusal_is : (e : Line) (past : History) → Accepted room past → (n : ℕ) → (refusal room e past ≡ n) ↔ Given room past e n
  unfolding refusal
  refusal_is e past a n = (
    λ h. subst (Given room past e) h (given e past a (in_step_of e past) (env_right e (seen past)) (makes_anew e (seen past)) (classes_right e (seen past)) (names_alive e (seen past)) (has_room_of room e past) refl refl refl refl refl refl),
    refused e past a n,
  )

  exceeding : (e : Line) (past : History) (n : ℕ) → Given room past e n → n ≡ 7 → Exceeds room (e ∷ past)
  exceeding e past _ (four s) h = absurd (omega (arith, h))
  exceeding e past _ (five s w) h = absurd (omega (arith, h))
  exceeding e past _ (six s w m) h = absurd (omega (arith, h))
  exceeding e past _ (nine s w m c) h = absurd (omega (arith, h))
  exceeding e past _ (ten s w m c d) h = absurd (omega (arith, h))
  exceeding e past _ (seven s w m c d x) h = x
  exceeding e past _ (none s w m c d x) h = absurd (omega (arith, h))

  exceeds_seven : (e : Line) (past : History) (n : ℕ) → Given room past e n → n ≢ 4 → n ≢ 5 → n ≢ 6 → n ≢ 9 → n ≢ 10 → Exceeds room (e ∷ past) → n ≡ 7
  exceeds_seven e past _ (four s) a b c d f x = absurd (a refl)
  exceeds_seven e past _ (five s w) a b c d f x = absurd (b refl)
  exceeds_seven e past _ (six s w m) a b c d f x = absurd (c refl)
  exceeds_seven e past _ (nine s w m k) a b c d f x = absurd (d refl)
  exceeds_seven e past _ (ten s w m k l) a b c d f x = absurd (f refl)
  exceeds_seven e past _ (seven s w m k l y) a b c d f x = refl
  exceeds_seven e past _ (none s w m k l y) a b c d f x = absurd (y x)

  -- 7 exactly when 4, 5, 6, 9 and 10 are not given and the history with the line exceeds room: handles that have ended never count
  pub seven_is_room : (e : Line) (past : History) → Accepted room past
      → (refusal room e past ≡ 7)
      ↔ ((refusal room e past ≢ 4) × (refusal room e past ≢ 5) × (refusal room e past ≢ 6) × (refusal room e past ≢ 9) × (refusal room e past ≢ 10) × Exceeds room (e ∷ past))
  seven_is_room e past a = (
    λ h. ((λ k. omega (arith, k, h)), (λ k. omega (arith, k, h)), (λ k. omega (arith, k, h)), (λ k. omega (arith, k, h)), (λ k. omega (arith, k, h)), exceeding e past (refusal room e past) ((refusal_is e past a (refusal room e past)).0 refl) h),
    λ (x, y, z, u, v, w). exceeds_seven e past (refusal room e past) ((refusal_is e past a (refusal room e past)).0 refl) x y z u v w,
  )
