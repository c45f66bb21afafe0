-- Classes declared by accepted lines: the test knows them, follows their chains to the end, and no chain goes round. Assumes nothing.
use Prim.Native.Nat.{ℕ, zero, suc, ◌≤◌, ◌<◌}
use mathlib.Core.Path.{◌≡◌, refl, sym, ap, subst, ◌∙◌, fun_ext}
use mathlib.Core.Logic.{◌⊎◌, inl, inr, ◌↔◌, ◌≢◌}
use mathlib.Core.Bool.{Bool, true, false, not, ◌&&◌, false≢true}
use mathlib.Core.List.Memᴰ
use mathlib.Core.List.{List, [], ◌∷◌, Memᴰ}
use native.Mathlib.Omega.{arith}
use lib.Dec.{eqb, leb}
use lib.ListN.{length}
use borrow.Author.Tests.{eqb-true, eqb-false, ne_eqb, eq-eqb, leb-true, leb-false, le-leb, not-true}
use Rattle.words.specs.Choice.{if_true◌then◌else◌, one}
use Rattle.words.specs.Lists.{count}
use Rattle.facts.specs.Classes.{object, class, string, throwable, is_reserved, no_class}
use Rattle.lines.specs.Line.{Line, N, X, C, R, A, D, Z, states, K, O, M, if_K◌then◌else◌, classes, is_class, is_allowed}
use Rattle.history.specs.Past.{History}
use Rattle.history.specs.Seen.{seen}
use Rattle.history.specs.Classes.{super_of, is_known, super, leads, most_looks}
use Rattle.history.specs.Acceptance.{Room, classes_right}
use Rattle.history.specs.Accepted.{Accepted, at_start, and_line}
use Rattle.history.specs.Below.{Known, reserved, declared, Super, class_under, string_under, throwable_under, by_K, Below, by_super, by_chain, AtOrBelow}
use Rattle.history.proofs.Tests.{and_left, and_right, or_cases, or_left, or_right, or_neither, one_le, never_true, true_not_false, eqb_self, either, whether}
use Rattle.history.proofs.Counts.{count_cons, count_le, count_length}
use Rattle.history.proofs.Accepting.{Passed, passed, allowed, before}
use Rattle.history.proofs.Order.{from, in_from}

-- ---- K, and every other line

data Declaring : Line → Type 0 where
  declares : (c s : ℕ) → Declaring (states (K c s))
  another : (e : Line) → ((past : History) (c : ℕ) → super_of (e ∷ past) c ≡ super_of past c) → ((c s : ℕ) → states (K c s) ≢ e) → Declaring e

-- what K names, each a number more, and 0 for other lines
abbrev named_class : Line → ℕ
named_class e = if_K e then (λ c s. suc c) else 0

abbrev named_super : Line → ℕ
named_super e = if_K e then (λ c s. suc s) else 0

same_class : (c s d u : ℕ) → states (K c s) ≡ states (K d u) → (c ≡ d) × (s ≡ u)
same_class c s d u is = (omega (arith, ap named_class is), omega (arith, ap named_super is))

no_K : (e : Line) → named_class e ≡ 0 → (c s : ℕ) → states (K c s) ≢ e
no_K e z c s is = omega (arith, ap named_class is)

declaring : (e : Line) → Declaring e
unfolding super_of
declaring (N t env hs) = another (N t env hs) (λ past c. refl) (no_K (N t env hs) refl)
declaring (X t r) = another (X t r) (λ past c. refl) (no_K (X t r) refl)
declaring (C t env f a b c n) = another (C t env f a b c n) (λ past d. refl) (no_K (C t env f a b c n) refl)
declaring (R t f r p) = another (R t f r p) (λ past c. refl) (no_K (R t f r p) refl)
declaring (A t env) = another (A t env) (λ past c. refl) (no_K (A t env) refl)
declaring (D t) = another (D t) (λ past c. refl) (no_K (D t) refl)
declaring Z = another Z (λ past c. refl) (no_K Z refl)
declaring (states (K c s)) = declares c s
declaring (states (O t h c)) = another (states (O t h c)) (λ past d. refl) (no_K (states (O t h c)) refl)
declaring (states (M x sort c static final)) = another (states (M x sort c static final)) (λ past d. refl) (no_K (states (M x sort c static final)) refl)

-- the super of the class that K declares, and of every other
own_super : (c s : ℕ) (past : History) → super_of (states (K c s) ∷ past) c ≡ s
unfolding super_of
own_super c s past = rw (eqb_self c)

other_super : (d c s : ℕ) (past : History) → d ≢ c → super_of (states (K c s) ∷ past) d ≡ super_of past d
unfolding super_of
other_super d c s past n = rw (ne_eqb d c n)

-- ---- known

super_declared : (past : History) (c : ℕ) → super_of past c ≢ no_class → Memᴰ (states (K c (super_of past c))) past
super_declared [] c nz = absurd (nz (unfold super_of in refl))
super_declared (e ∷ past) c nz = go (declaring e) (super_declared past c) nz
  where
    go : {e : Line} → Declaring e → (super_of past c ≢ no_class → Memᴰ (states (K c (super_of past c))) past) → super_of (e ∷ past) c ≢ no_class
        → Memᴰ (states (K c (super_of (e ∷ past) c))) (e ∷ past)
    go (another e same not_K) ih nz = rw (same past c) (Memᴰ.tail (ih (λ z. nz (same past c ∙ z))))
    go (declares d s) ih nz = whether (eqb c d)
        (λ q. Memᴰ.head (rw (eqb-true c d q, own_super d s past)))
        (λ q. let n = eqb-false c d q in rw (other_super c d s past n) (Memᴰ.tail (ih (λ z. nz (other_super c d s past n ∙ z)))))

known_is : (past : History) (c : ℕ) → is_known (super_of past) c ≡ true → Known past c
known_is past c h =
    either (or_cases (is_reserved c) (not (eqb (super_of past c) no_class)) h)
    (λ r. reserved c (leb-true object c (and_left (leb object c) (leb c throwable) r)) (leb-true c throwable (and_right (leb object c) (leb c throwable) r)))
    (λ d. declared c (super_of past c) (super_declared past c (eqb-false (super_of past c) no_class (not-true (eqb (super_of past c) no_class) d))))

reserved_is : (c : ℕ) → object ≤ c → c ≤ throwable → is_reserved c ≡ true
reserved_is c l u = rw (le-leb object c l, le-leb c throwable u)

later : (e : Line) (past : History) (c : ℕ) → Known past c → Known (e ∷ past) c
later e past _ (reserved c l u) = reserved c l u
later e past _ (declared c s m) = declared c s (Memᴰ.tail m)

-- what K has passed
record Declares (past : History) (c s : ℕ) : Type 0 where
  new : ¬ Known past c
  under : Known past s
  not_reserved : is_reserved c ≡ false
  in_range : is_class c ≡ true

pub class_some : (c : ℕ) → is_class c ≡ true → c ≢ no_class
class_some c h z = omega (arith, leb-true 1 c (and_left (leb 1 c) (leb c classes) h), z)

module _ (room : Room) where
  -- the super of a declared class is what its K says
  pub declared_is : (past : History) → Accepted room past → (c s : ℕ) → Memᴰ (states (K c s)) past → (super_of past c ≡ s) × (s ≢ no_class)
  declared_is _ at_start c s m = absurd (Memᴰ.not-nil m)
  declared_is _ (and_line e past few fine r so_far) c s m =
      go (declaring e) fine (passed room e past r) (declared_is past so_far c s) (Memᴰ.cases_cons m)
    where
      go : {e : Line} → Declaring e → is_allowed e ≡ true → Passed room e past
          → (Memᴰ (states (K c s)) past → (super_of past c ≡ s) × (s ≢ no_class)) → (states (K c s) ≡ e) ⊎ Memᴰ (states (K c s)) past
          → (super_of (e ∷ past) c ≡ s) × (s ≢ no_class)
      go (another e same not_K) fine k ih (inl is) = absurd (not_K c s is)
      go (another e same not_K) fine k ih (inr i) = let (x, y) = ih i in (same past c ∙ x, y)
      go (declares d u) fine k ih (inl is) =
          let (x, y) = same_class c s d u is in
          (rw (x, y) (own_super d u past), rw y (class_some u (and_right (is_class d) (is_class u) fine)))
      go (declares d u) fine k ih (inr i) =
          let (x, y) = ih i in (
            whether (eqb c d)
                (λ q.
                let known : is_known (super_of past) d ≡ true = or_right (is_reserved d) (not (eqb (super_of past d) no_class)) (rw (← eqb-true c d q, x, ne_eqb s no_class y)) in
                true_not_false (is_known (super_of past) d) known
                (not-true (is_known (super_of past) d) (and_left (not (is_known (super_of past) d)) (is_known (super_of past) u) (unfold classes_right seen in k.classes))))
                (λ q. other_super c d u past (eqb-false c d q) ∙ x),
            y,
          )

  pub known_computed : (past : History) → Accepted room past → (c : ℕ) → Known past c → is_known (super_of past) c ≡ true
  known_computed past so_far _ (reserved c l u) = or_left (is_reserved c) (not (eqb (super_of past c) no_class)) (reserved_is c l u)
  known_computed past so_far _ (declared c s m) =
      let (x, y) = declared_is past so_far c s m in
      or_right (is_reserved c) (not (eqb (super_of past c) no_class)) (rw (x, ne_eqb s no_class y))

  -- declared or reserved, as document 02 has it
  pub known_are : (past : History) → Accepted room past → (c : ℕ) → (is_known (super_of past) c ≡ true) ↔ Known past c
  known_are past so_far c = (known_is past c, known_computed past so_far c)

  -- what an accepted K says
  declares_so : (past : History) (c s : ℕ) → Accepted room (states (K c s) ∷ past) → Declares past c s
  declares_so past c s (and_line _ _ few fine r so_far) =
      let right : (not (is_known (super_of past) c) && is_known (super_of past) s) ≡ true = unfold classes_right seen in (passed room (states (K c s)) past r).classes in
      let new = not-true (is_known (super_of past) c) (and_left (not (is_known (super_of past) c)) (is_known (super_of past) s) right) in
      record {
        new = λ k. true_not_false (is_known (super_of past) c) (known_computed past so_far c k) new;
        under = known_is past s (and_right (not (is_known (super_of past) c)) (is_known (super_of past) s) right);
        not_reserved = (or_neither (is_reserved c) (not (eqb (super_of past c) no_class)) new).0;
        in_range = and_left (is_class c) (is_class s) fine;
      }

  -- of a declared class: it is not reserved, and its super is known
  record Declared (past : History) (c s : ℕ) : Type 0 where
    free : is_reserved c ≡ false
    range : is_class c ≡ true
    over : Known past s

  declared_so : (past : History) → Accepted room past → (c s : ℕ) → Memᴰ (states (K c s)) past → Declared past c s
  declared_so _ at_start c s m = absurd (Memᴰ.not-nil m)
  declared_so _ (and_line e past few fine r so_far) c s m =
      either (Memᴰ.cases_cons m)
      (λ is.
      let k = declares_so past c s (rw is (and_line e past few fine r so_far)) in
      record { free = k.not_reserved; range = k.in_range; over = later e past s k.under })
      (λ i. let k = declared_so past so_far c s i in record { free = k.free; range = k.range; over = later e past s k.over })

  -- a number that is no class is never declared
  pub super_in_range : (past : History) → Accepted room past → (c : ℕ) → is_class c ≡ false → super_of past c ≡ no_class
  super_in_range past so_far c h = whether (eqb (super_of past c) no_class) (eqb-true (super_of past c) no_class)
      (λ q. true_not_false (is_class c) (declared_so past so_far c (super_of past c) (super_declared past c (eqb-false (super_of past c) no_class q))).range h)

  -- ---- chains

  super_is : (past : History) → Accepted room past → (c s : ℕ) → Super past c s → (super (super_of past) c ≡ s) × (c ≢ no_class)
  unfolding super
  super_is past so_far _ _ class_under = (refl, λ z. omega (arith, z))
  super_is past so_far _ _ string_under = (refl, λ z. omega (arith, z))
  super_is past so_far _ _ throwable_under = (refl, λ z. omega (arith, z))
  super_is past so_far _ _ (by_K c s m) = let k = declared_so past so_far c s m in (rw k.free (declared_is past so_far c s m).0, class_some c k.range)

  pub one_super : (past : History) → Accepted room past → (c s u : ℕ) → Super past c s → Super past c u → s ≡ u
  one_super past so_far c s u x y = sym (super_is past so_far c s x).0 ∙ (super_is past so_far c u y).0

  -- from one class to another by so many supers
  data Chain (past : History) : ℕ → ℕ → ℕ → Type 0 where
    there : (c : ℕ) → Chain past 0 c c
    up : (n c s k : ℕ) → Super past c s → Chain past n s k → Chain past (suc n) c k

  chain_leads : (past : History) → Accepted room past → (n c k : ℕ) → Chain past n c k → leads (super_of past) (suc n) c k ≡ true
  unfolding leads
  chain_leads past so_far _ _ _ (there c) = rw (eqb_self c)
  chain_leads past so_far _ _ _ (up n c s k sp ch) =
      let (is, some) = super_is past so_far c s sp in
      go (eqb c k) (rw (ne_eqb c no_class some, is) (chain_leads past so_far n s k ch))
    where
      go : (q : Bool) → (if_true eqb c no_class then false else leads (super_of past) (suc n) (super (super_of past) c) k) ≡ true
          → (if_true q then true else if_true eqb c no_class then false else leads (super_of past) (suc n) (super (super_of past) c) k) ≡ true
      go true h = refl
      go false h = h

  super_later : (e : Line) (past : History) (c s : ℕ) → Super past c s → Super (e ∷ past) c s
  super_later e past _ _ class_under = class_under
  super_later e past _ _ string_under = string_under
  super_later e past _ _ throwable_under = throwable_under
  super_later e past _ _ (by_K c s m) = by_K c s (Memᴰ.tail m)

  chain_later : (e : Line) (past : History) (n c k : ℕ) → Chain past n c k → Chain (e ∷ past) n c k
  chain_later e past _ _ _ (there c) = there c
  chain_later e past _ _ _ (up n c s k sp ch) = up n c s k (super_later e past c s sp) (chain_later e past n s k ch)

  -- a line that is no K brings none
  older_super : (e : Line) → ((c s : ℕ) → states (K c s) ≢ e) → (past : History) (c s : ℕ) → Super (e ∷ past) c s → Super past c s
  older_super e not_K past _ _ class_under = class_under
  older_super e not_K past _ _ string_under = string_under
  older_super e not_K past _ _ throwable_under = throwable_under
  older_super e not_K past _ _ (by_K c s m) = either (Memᴰ.cases_cons m) (λ is. absurd (not_K c s is)) (by_K c s)

  older_below : (e : Line) → ((c s : ℕ) → states (K c s) ≢ e) → (past : History) (c k : ℕ) → Below (e ∷ past) c k → Below past c k
  older_below e not_K past _ _ (by_super c s sp) = by_super c s (older_super e not_K past c s sp)
  older_below e not_K past _ _ (by_chain c s k sp b) = by_chain c s k (older_super e not_K past c s sp) (older_below e not_K past s k b)

  -- K puts one class over those that were known: chains from these stay, and every chain leads to one of these
  module _ (past : History) (d u : ℕ) (accepts : Accepted room (states (K d u) ∷ past)) where
    so_far : Accepted room past
    so_far = before room (states (K d u)) past accepts

    says : Declares past d u
    says = declares_so past d u accepts

    root_known : Known past object
    root_known = reserved object (omega arith) (omega arith)

    super_known : (c s : ℕ) → Super (states (K d u) ∷ past) c s → Known past s
    super_known _ _ class_under = root_known
    super_known _ _ string_under = root_known
    super_known _ _ throwable_under = root_known
    super_known _ _ (by_K c s m) =
        either (Memᴰ.cases_cons m) (λ is. rw (same_class c s d u is).1 says.under) (λ i. (declared_so past so_far c s i).over)

    kept_super : (c s : ℕ) → Known past c → Super (states (K d u) ∷ past) c s → Super past c s
    kept_super _ _ k class_under = class_under
    kept_super _ _ k string_under = string_under
    kept_super _ _ k throwable_under = throwable_under
    kept_super _ _ k (by_K c s m) =
        either (Memᴰ.cases_cons m) (λ is. absurd (says.new (subst (Known past) (same_class c s d u is).0 k))) (by_K c s)

    kept_below : (c k : ℕ) → Known past c → Below (states (K d u) ∷ past) c k → Below past c k
    kept_below _ _ w (by_super c s sp) = by_super c s (kept_super c s w sp)
    kept_below _ _ w (by_chain c s k sp b) = by_chain c s k (kept_super c s w sp) (kept_below s k (super_known c s sp) b)

    below_known : (c k : ℕ) → Below (states (K d u) ∷ past) c k → Known past k
    below_known _ _ (by_super c s sp) = super_known c s sp
    below_known _ _ (by_chain c s k sp b) = below_known s k b

  -- ---- never round

  super_root : (c s : ℕ) → Super [] c s → (s ≡ object) × (c ≢ object)
  super_root _ _ class_under = (refl, λ z. omega (arith, z))
  super_root _ _ string_under = (refl, λ z. omega (arith, z))
  super_root _ _ throwable_under = (refl, λ z. omega (arith, z))
  super_root _ _ (by_K c s m) = absurd (Memᴰ.not-nil m)

  root_only : (c k : ℕ) → Below [] c k → (k ≡ object) × (c ≢ object)
  root_only _ _ (by_super c s sp) = super_root c s sp
  root_only _ _ (by_chain c s k sp b) = absurd ((root_only s k b).1 (super_root c s sp).0)

  -- no class is below itself
  pub never_round : (past : History) → Accepted room past → (c : ℕ) → ¬ Below past c c
  never_round _ at_start c b = let (x, y) = root_only c c b in y x
  never_round _ (and_line e past few fine r k) c b = never_round past k c (go (declaring e) (and_line e past few fine r k) b)
    where
      go : {e : Line} → Declaring e → Accepted room (e ∷ past) → Below (e ∷ past) c c → Below past c c
      go (another e same not_K) a b = older_below e not_K past c c b
      go (declares d u) a b = kept_below past d u a c c (below_known past d u a c c b) b

  -- ---- how long a chain can be

  -- the classes that K can declare
  unfoldable others : List ℕ
  others = from 5 4091

  length_from : (n lo : ℕ) → length (from lo n) ≡ n
  length_from zero lo = refl
  length_from (suc n) lo = ap suc (length_from n (suc lo))

  abbrev is_declared : History → ℕ → Bool
  is_declared past c = not (eqb (super_of past c) no_class)

  unfoldable how_many : History → ℕ
  how_many past = count (is_declared past) others

  at_most_others : (past : History) → how_many past ≤ 4091
  unfolding others how_many
  at_most_others past = subst (λ (n : ℕ). how_many past ≤ n) (length_from 4091 5) (count_length (is_declared past) (from 5 4091))

  count_more : (f g : ℕ → Bool) → ((x : ℕ) → f x ≡ true → g x ≡ true) → (d : ℕ) → f d ≡ false → g d ≡ true → (l : List ℕ) → Memᴰ d l
      → count f l < count g l
  count_more f g h d fd gd [] m = absurd (Memᴰ.not-nil m)
  count_more f g h d fd gd (x ∷ l) m =
      either (Memᴰ.cases_cons m)
      (λ is. omega (arith, count_cons f x l, count_cons g x l, count_le f g h l, ap one (subst (λ (y : ℕ). f y ≡ false) is fd), ap one (subst (λ (y : ℕ). g y ≡ true) is gd)))
      (λ i. omega (arith, count_cons f x l, count_cons g x l, count_more f g h d fd gd l i, one_le (f x) (g x) (h x)))

  one_declared : (past : History) (d u : ℕ) → Accepted room (states (K d u) ∷ past) → how_many past < how_many (states (K d u) ∷ past)
  unfolding others how_many
  one_declared past d u a =
      count_more (is_declared past) (is_declared (states (K d u) ∷ past)) still d
      (never_true (is_declared past d) (λ h. k.new (known_is past d (or_right (is_reserved d) (is_declared past d) h))))
      (rw (own_super d u past, ne_eqb u no_class (class_some u (and_right (is_class d) (is_class u) (allowed room (states (K d u)) past a)))))
      (from 5 4091)
      (in_from 4091 5 d (omega (arith, leb-true 1 d (and_left (leb 1 d) (leb d classes) k.in_range), above)) (omega (arith, leb-true d classes (and_right (leb 1 d) (leb d classes) k.in_range))))
    where
      k : Declares past d u
      k = declares_so past d u a

      above : throwable < d
      above = whether (leb d throwable)
          (λ q. true_not_false (is_reserved d) (reserved_is d (leb-true 1 d (and_left (leb 1 d) (leb d classes) k.in_range)) (leb-true d throwable q)) k.not_reserved)
          (leb-false d throwable)

      still : (c : ℕ) → is_declared past c ≡ true → is_declared (states (K d u) ∷ past) c ≡ true
      still c h =
          let n : c ≢ d = λ is. k.new (subst (Known past) is (known_is past c (or_right (is_reserved c) (is_declared past c) h))) in
          rw (other_super c d u past n) h

  same_many : (e : Line) (past : History) → ((c : ℕ) → super_of (e ∷ past) c ≡ super_of past c) → how_many (e ∷ past) ≡ how_many past
  unfolding how_many
  same_many e past same = ap (λ (f : ℕ → ℕ). count (λ (c : ℕ). not (eqb (f c) no_class)) others) (fun_ext same)

  -- a chain of no more supers than classes are declared, and one
  record Short (past : History) (c k : ℕ) : Type 0 where
    steps : ℕ
    few : steps ≤ suc (how_many past)
    chain : Chain past steps c k

  first : (past : History) (c k : ℕ) → Super past c k → Short past c k
  first past c k sp = record { steps = 1; few = omega arith; chain = up 0 c k k sp (there k) }

  short : (past : History) → Accepted room past → (c k : ℕ) → Below past c k → Short past c k
  short _ at_start c k b = only b
    where
      only : {c k : ℕ} → Below [] c k → Short [] c k
      only (by_super c s sp) = first [] c s sp
      only (by_chain c s k sp b) = absurd ((root_only s k b).1 (super_root c s sp).0)
  short _ (and_line e past few fine r a) c k b = go (declaring e) (and_line e past few fine r a) (λ d j. short past a d j) b
    where
      go : {e : Line} → Declaring e → Accepted room (e ∷ past) → ((d j : ℕ) → Below past d j → Short past d j) → {c k : ℕ} → Below (e ∷ past) c k → Short (e ∷ past) c k
      go {e} d a ih (by_super c s sp) = first (e ∷ past) c s sp
      go (another e same not_K) a ih (by_chain c s k sp b) =
          let x = ih c k (by_chain c s k (older_super e not_K past c s sp) (older_below e not_K past s k b)) in
          record {
            steps = x.steps;
            few = omega (arith, x.few, same_many e past (same past));
            chain = chain_later e past x.steps c k x.chain;
          }
      go (declares d u) a ih (by_chain c s k sp b) =
          let x = ih s k (kept_below past d u a s k (super_known past d u a c s sp) b) in
          record {
            steps = suc x.steps;
            few = omega (arith, x.few, one_declared past d u a);
            chain = up x.steps c s k sp (chain_later (states (K d u)) past x.steps s k x.chain);
          }

  -- ---- the test finds every chain

  leads_more : (of : ℕ → ℕ) (n m c k : ℕ) → n ≤ m → leads of n c k ≡ true → leads of m c k ≡ true
  unfolding leads
  leads_more of zero m c k l h = absurd (false≢true h)
  leads_more of (suc n) zero c k l h = absurd (omega arith)
  leads_more of (suc n) (suc m) c k l h = go (eqb c k) (eqb c no_class) (leads_more of n m (super of c) k (omega arith)) h
    where
      go : (p q : Bool) → (leads of n (super of c) k ≡ true → leads of m (super of c) k ≡ true)
          → (if_true p then true else if_true q then false else leads of n (super of c) k) ≡ true → (if_true p then true else if_true q then false else leads of m (super of c) k) ≡ true
      go true q ih h = refl
      go false true ih h = h
      go false false ih h = ih h

  none_leads : (of : ℕ → ℕ) (n k : ℕ) → k ≢ no_class → leads of n no_class k ≡ false
  unfolding leads
  none_leads of zero k nz = refl
  none_leads of (suc n) k nz = rw (ne_eqb no_class k (λ z. nz (sym z)))

  reserved_super : (past : History) (c : ℕ) → is_reserved c ≡ true → eqb c object ≡ false → Super past c object
  reserved_super past c h n = go (eqb c class) refl (eqb c string) refl
    where
      go : (p : Bool) → eqb c class ≡ p → (q : Bool) → eqb c string ≡ q → Super past c object
      go true e q f = rw (eqb-true c class e) class_under
      go false e true f = rw (eqb-true c string f) string_under
      go false e false f =
          let is : c ≡ throwable = omega (arith, leb-true object c (and_left (leb object c) (leb c throwable) h), leb-true c throwable (and_right (leb object c) (leb c throwable) h), eqb-false c object n, eqb-false c class e, eqb-false c string f) in
          rw is throwable_under

  super_so : (past : History) (c : ℕ) → super (super_of past) c ≢ no_class → Super past c (super (super_of past) c)
  unfolding super
  super_so past c nz = go (is_reserved c) refl (eqb c object) refl nz
    where
      go : (p : Bool) → is_reserved c ≡ p → (q : Bool) → eqb c object ≡ q → (if_true p then (if_true q then no_class else object) else super_of past c) ≢ no_class
          → Super past c (if_true p then (if_true q then no_class else object) else super_of past c)
      go true e true f nz = absurd (nz refl)
      go true e false f nz = reserved_super past c e f
      go false e q f nz = by_K c (super_of past c) (super_declared past c nz)

  leads_below : (past : History) (n c k : ℕ) → k ≢ no_class → leads (super_of past) n c k ≡ true → AtOrBelow past c k
  unfolding leads
  leads_below past zero c k nz h = absurd (false≢true h)
  leads_below past (suc n) c k nz h =
      go (eqb c k) refl (eqb c no_class) (eqb (super (super_of past) c) no_class) refl (leads_below past n (super (super_of past) c) k nz) h
    where
      go : (p : Bool) → eqb c k ≡ p → (q : Bool) → (r : Bool) → eqb (super (super_of past) c) no_class ≡ r
          → (leads (super_of past) n (super (super_of past) c) k ≡ true → AtOrBelow past (super (super_of past) c) k)
          → (if_true p then true else if_true q then false else leads (super_of past) n (super (super_of past) c) k) ≡ true → AtOrBelow past c k
      go true e q r f ih h = inl (eqb-true c k e)
      go false e true r f ih h = absurd (false≢true h)
      go false e false true f ih h = true_not_false (leads (super_of past) n (super (super_of past) c) k) h (rw (eqb-true (super (super_of past) c) no_class f) (none_leads (super_of past) n k nz))
      go false e false false f ih h =
          let sp = super_so past c (eqb-false (super (super_of past) c) no_class f) in
          either (ih h)
          (λ is. inr (subst (Below past c) is (by_super c (super (super_of past) c) sp)))
          (λ b. inr (by_chain c (super (super_of past) c) k sp b))

  -- the computed test is the chain of supers
  pub leads_are : (past : History) → Accepted room past → (c k : ℕ) → k ≢ no_class → (leads (super_of past) most_looks c k ≡ true) ↔ AtOrBelow past c k
  leads_are past so_far c k nz = (leads_below past most_looks c k nz, found)
    where
      found : AtOrBelow past c k → leads (super_of past) most_looks c k ≡ true
      found (inl is) = leads_more (super_of past) 1 most_looks c k (omega arith) (unfold leads in rw (eq-eqb c k is))
      found (inr b) =
          let x = short past so_far c k b in
          leads_more (super_of past) (suc x.steps) most_looks c k (omega (arith, x.few, at_most_others past)) (chain_leads past so_far x.steps c k x.chain)
