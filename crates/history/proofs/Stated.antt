-- The class that is computed for a handle is the one that document 02 says was stated of it. Assumes nothing.
use Prim.Native.Nat.{ℕ, zero, suc}
use mathlib.Core.Path.{◌≡◌, refl, sym, ap, subst, ◌∙◌}
use mathlib.Core.Logic.{◌↔◌, ◌≢◌}
use mathlib.Core.Bool.{Bool, true, false, ◌&&◌, ◌||◌, false≢true}
use mathlib.Core.List.Memᴰ
use mathlib.Core.List.{List, [], ◌∷◌, ◌++◌, Memᴰ}
use native.Mathlib.Omega.{arith}
use lib.Dec.{eqb}
use lib.IntN.{ℤ, pos, negsuc}
use borrow.Author.Tests.{eqb-true, eqb-false, ne_eqb}
use Rattle.words.specs.Choice.{if_true◌then◌else◌}
use Rattle.words.specs.Lists.{any, count, of_first}
use Rattle.facts.specs.Table.{table, fact_of}
use Rattle.facts.specs.Classes.{class, no_class}
use Rattle.facts.specs.Named.{GetObjectClass}
use Rattle.lines.specs.Line.{Line, N, X, C, R, A, D, Z, states, K, O, M, if_O◌then◌else◌, kind, is_thread, is_value, is_class, is_allowed, above_zero}
use Rattle.history.specs.Past.{History, thread_of}
use Rattle.history.specs.Frames.{depth}
use Rattle.history.specs.Handles.{Alive, local, shared, is_local, is_shared, same_handle, makes, living}
use Rattle.history.specs.Lives.{Makes, Lives, Means, its_local, a_shared}
use Rattle.history.specs.Statements.{names, class_by, class_stated}
use Rattle.history.specs.Stated.{States, of_local, of_shared, of_result, Unsaid, so_far, by_line, Stated}
use Rattle.history.specs.Seen.{seen, is_alive, handle_alive}
use Rattle.history.specs.Acceptance.{Room}
use Rattle.history.specs.Accepted.{Accepted}
use Rattle.history.proofs.Tests.{and_left, and_right, never_true, true_not_false, eqb_self, either, whether, or_cases}
use Rattle.history.proofs.Counts.{some_member, some_any, any_member}
use Rattle.history.proofs.Living.{made_makes, makes_made, living_are, local_alive, shared_alive}
use Rattle.history.proofs.Accepting.{allowed, accepted_before}
use Rattle.history.proofs.Classes.{class_some}

-- ---- what a thread names

pub names_means : (t h : ℕ) (x : Alive) → names t h x ≡ true → Means t h x
unfolding names
names_means t h x k = go (eqb (kind h) 0) refl (eqb (kind h) 1) refl x k
  where
    go : (a : Bool) → eqb (kind h) 0 ≡ a → (b : Bool) → eqb (kind h) 1 ≡ b → (x : Alive) → (if_true a then false else if_true b then is_local t h x else is_shared h x) ≡ true → Means t h x
    go true ea b eb x k = absurd (false≢true k)
    go false ea true eb (local s d g) k =
        let own = eqb-true s t (and_left (eqb s t) (eqb g h) k) in
        let same = eqb-true g h (and_right (eqb s t) (eqb g h) k) in
        rw (own, same) (its_local d h (eqb-true (kind h) 1 eb))
    go false ea true eb (shared g) k = absurd (false≢true k)
    go false ea false eb (local s d g) k = absurd (false≢true k)
    go false ea false eb (shared g) k = rw (eqb-true g h k) (a_shared h (omega (arith, eqb-false (kind h) 0 ea, eqb-false (kind h) 1 eb)))

pub means_names : (t h : ℕ) (x : Alive) → Means t h x → names t h x ≡ true
unfolding names
means_names t _ _ (its_local d h k) = rw (k, eqb_self t, eqb_self h)
means_names t _ _ (a_shared h k) = rw (ne_eqb (kind h) 0 (λ z. omega (arith, z)), ne_eqb (kind h) 1 (λ z. omega (arith, z)), eqb_self h)

-- a thread's handle is alive, as document 02 has it
pub alive_named : (past : History) (t h : ℕ) → (handle_alive t h (seen past) ≡ true) ↔ ((x : Alive) × Means t h x × Lives x past)
unfolding handle_alive
alive_named past t h = (go (eqb (kind h) 0) refl (eqb (kind h) 1) refl, back)
  where
    go : (a : Bool) → eqb (kind h) 0 ≡ a → (b : Bool) → eqb (kind h) 1 ≡ b
        → (if_true a then false else if_true b then is_alive (is_local t h) (seen past) else is_alive (is_shared h) (seen past)) ≡ true → (x : Alive) × Means t h x × Lives x past
    go true ea b eb k = absurd (false≢true k)
    go false ea true eb k = let l = (local_alive past t h).0 k in (local t l.frame h, its_local l.frame h (eqb-true (kind h) 1 eb), l.lives)
    go false ea false eb k = (shared h, a_shared h (omega (arith, eqb-false (kind h) 0 ea, eqb-false (kind h) 1 eb)), (shared_alive past h).0 k)

    back : (x : Alive) × Means t h x × Lives x past → (if_true eqb (kind h) 0 then false else if_true eqb (kind h) 1 then is_alive (is_local t h) (seen past) else is_alive (is_shared h) (seen past)) ≡ true
    back (_, its_local d _ k, l) = rw k ((local_alive past t h).1 (record { frame = d; lives = l }))
    back (_, a_shared _ k, l) = rw (ne_eqb (kind h) 0 (λ z. omega (arith, z)), ne_eqb (kind h) 1 (λ z. omega (arith, z))) ((shared_alive past h).1 l)

-- ---- what a line says of a handle

-- it makes it, or makes it again
abbrev pub made_by_line : Line → History → Alive → Bool
made_by_line e past x = any (same_handle x) (makes e (depth (thread_of e) past))

abbrev pub stating : Line → Alive → Bool
stating e x = if_O e then (λ t h c. names t h x) else false

abbrev class_in_line : Line → ℕ
class_in_line e = if_O e then (λ t h c. c) else no_class

pub class_next : (e : Line) (past : History) (x : Alive)
    → class_stated (e ∷ past) x ≡ (if_true made_by_line e past x then class_by e else if_true stating e x then class_in_line e else class_stated past x)
unfolding class_stated
class_next (N t env hs) past x = refl
class_next (X t r) past x = refl
class_next (C t env f a b c n) past x = refl
class_next (R t f r p) past x = refl
class_next (A t env) past x = refl
class_next (D t) past x = refl
class_next Z past x = refl
class_next (states (K c s)) past x = refl
class_next (states (O t h c)) past x = refl
class_next (states (M y sort c static final)) past x = refl

states_by : (e : Line) (x : Alive) → stating e x ≡ true → States e x (class_in_line e)
states_by (N t env hs) x h = absurd (false≢true h)
states_by (X t r) x h = absurd (false≢true h)
states_by (C t env f a b c n) x h = absurd (false≢true h)
states_by (R t f r p) x h = absurd (false≢true h)
states_by (A t env) x h = absurd (false≢true h)
states_by (D t) x h = absurd (false≢true h)
states_by Z x h = absurd (false≢true h)
states_by (states (K c s)) x h = absurd (false≢true h)
states_by (states (M y sort c static final)) x h = absurd (false≢true h)
states_by (states (O t h c)) x k = go (names_means t h x k)
  where
    go : {v : ℕ} {x : Alive} → Means t v x → States (states (O t v c)) x c
    go (its_local d v k) = of_local t d v c k
    go (a_shared v k) = of_shared t v c k

-- 31 gives a local, if it gives anything
made_by_31 : (t h p : ℕ) (past : History) (x : Alive) → h ≢ 0 → made_by_line (R t GetObjectClass (pos h) p) past x ≡ (same_handle x (local t (depth t past) h) || false)
unfolding makes fact_of table
made_by_31 t h p past x nz = rw (ne_eqb h 0 nz)

nothing_by_31 : (t p : ℕ) (r : ℤ) (past : History) (x : Alive) → above_zero r ≡ 0 → made_by_line (R t GetObjectClass r p) past x ≡ false
unfolding makes
nothing_by_31 t p r past x z = rw z

same_local : (t d h : ℕ) (x : Alive) → (same_handle x (local t d h) || false) ≡ true → (c : ℕ) × (x ≡ local t c h)
same_local t d h (local s c g) k =
    let both : (eqb t s && eqb h g) ≡ true = either (or_cases (eqb t s && eqb h g) false k) (λ b. b) (λ f. absurd (false≢true f)) in
    (c, rw (eqb-true t s (and_left (eqb t s) (eqb h g) both), eqb-true h g (and_right (eqb t s) (eqb h g) both)))
same_local t d h (shared g) k = absurd (false≢true k)

made_states : (e : Line) (past : History) (x : Alive) → made_by_line e past x ≡ true → class_by e ≢ no_class → States e x (class_by e)
made_states (N t env hs) past x m nz = absurd (nz refl)
made_states (X t r) past x m nz = absurd (nz refl)
made_states (C t env f a b c n) past x m nz = absurd (nz refl)
made_states (A t env) past x m nz = absurd (nz refl)
made_states (D t) past x m nz = absurd (nz refl)
made_states Z past x m nz = absurd (nz refl)
made_states (states s) past x m nz = absurd (nz refl)
made_states (R t f r p) past x m nz = go (eqb f GetObjectClass) refl nz
  where
    result : (r : ℤ) → made_by_line (R t GetObjectClass r p) past x ≡ true → States (R t GetObjectClass r p) x class
    result (negsuc n) m = true_not_false _ m (nothing_by_31 t p (negsuc n) past x refl)
    result (pos h) m = whether (eqb h 0)
        (λ z. true_not_false _ m (nothing_by_31 t p (pos h) past x (eqb-true h 0 z)))
        (λ n.
        let nz = eqb-false h 0 n in
        let (d, is) = same_local t (depth t past) h x (sym (made_by_31 t h p past x nz) ∙ m) in
        rw is (of_result t d h p nz))

    go : (q : Bool) → eqb f GetObjectClass ≡ q → (if_true q then class else no_class) ≢ no_class → States (R t f r p) x (if_true q then class else no_class)
    go true e nz =
        subst (λ (g : ℕ). made_by_line (R t g r p) past x ≡ true → States (R t g r p) x class) (sym (eqb-true f GetObjectClass e)) (result r) m
    go false e nz = absurd (nz refl)

-- a line that neither makes it nor is an O of it says nothing of it
says_nothing : (e : Line) (past : History) (x : Alive) → made_by_line e past x ≡ false → stating e x ≡ false → (c : ℕ) → ¬ States e x c
says_nothing _ past _ m k _ (of_local t d h c kh) = true_not_false (names t h (local t d h)) (means_names t h (local t d h) (its_local d h kh)) k
says_nothing _ past _ m k _ (of_shared t h c kh) = true_not_false (names t h (shared h)) (means_names t h (shared h) (a_shared h kh)) k
says_nothing _ past _ m k _ (of_result t d h p nz) =
    true_not_false (made_by_line (R t GetObjectClass (pos h) p) past (local t d h)) (made_by_31 t h p past (local t d h) nz ∙ rw (eqb_self t, eqb_self h)) m

pub nothing_by_O : (t h c : ℕ) (past : History) (x : Alive) → made_by_line (states (O t h c)) past x ≡ false
unfolding makes
nothing_by_O t h c past x = refl

-- what it states is its class
states_so : (e : Line) (past : History) (x : Alive) (c : ℕ) → States e x c → class_stated (e ∷ past) x ≡ c
states_so _ past _ _ (of_local t d h c kh) = class_next (states (O t h c)) past (local t d h) ∙ rw (nothing_by_O t h c past (local t d h), means_names t h (local t d h) (its_local d h kh))
states_so _ past _ _ (of_shared t h c kh) = class_next (states (O t h c)) past (shared h) ∙ rw (nothing_by_O t h c past (shared h), means_names t h (shared h) (a_shared h kh))
states_so _ past _ _ (of_result t d h p nz) =
    class_next (R t GetObjectClass (pos h) p) past (local t d h) ∙ rw (made_by_31 t h p past (local t d h) nz, eqb_self t, eqb_self h)

not_made : (e : Line) (past : History) (x : Alive) → ((y : Alive) → Makes past e y → same_handle x y ≡ false) → made_by_line e past x ≡ false
not_made e past x none =
    never_true (made_by_line e past x) (λ h. let (y, m, is) = some_any (same_handle x) (makes e (depth (thread_of e) past)) h in true_not_false (same_handle x y) is (none y (made_makes past e y m)))

makes_none : (e : Line) (past : History) (x : Alive) → made_by_line e past x ≡ false → (y : Alive) → Makes past e y → same_handle x y ≡ false
makes_none e past x h y m =
    never_true (same_handle x y) (λ is. true_not_false (made_by_line e past x) (any_member (same_handle x) (makes e (depth (thread_of e) past)) y (makes_made past e y m) is) h)

-- ---- the last that was said

stated_later : (e : Line) (past : History) (x : Alive) (c : ℕ) → made_by_line e past x ≡ false → stating e x ≡ false → Stated x c past → Stated x c (e ∷ past)
stated_later e past x c m k st =
    record {
      newer = e ∷ st.newer;
      stater = st.stater;
      older = st.older;
      split = ap (λ (h : History). e ∷ h) st.split;
      said = st.said;
      last = by_line e st.newer (says_nothing e past x m k) (subst (λ (h : History). (y : Alive) → Makes h e y → same_handle x y ≡ false) st.split (makes_none e past x m)) st.last;
    }

computed_stated : (past : History) (x : Alive) (c : ℕ) → c ≢ no_class → class_stated past x ≡ c → Stated x c past
computed_stated [] x c nz is = absurd (nz (sym is ∙ unfold class_stated in refl))
computed_stated (e ∷ past) x c nz is =
    go (made_by_line e past x) refl (stating e x) refl (computed_stated past x c nz) (sym (class_next e past x) ∙ is)
  where
    here : States e x c → Stated x c (e ∷ past)
    here s = record { newer = []; stater = e; older = past; split = refl; said = s; last = so_far }

    go : (p : Bool) → made_by_line e past x ≡ p → (q : Bool) → stating e x ≡ q → (class_stated past x ≡ c → Stated x c past)
        → (if_true p then class_by e else if_true q then class_in_line e else class_stated past x) ≡ c → Stated x c (e ∷ past)
    go true m q k ih is = here (subst (States e x) is (made_states e past x m (λ z. nz (sym is ∙ z))))
    go false m true k ih is = here (subst (States e x) is (states_by e x k))
    go false m false k ih is = stated_later e past x c m k (ih is)

stated_computed : (x : Alive) (c : ℕ) (older : History) (stater : Line) (newer : History) → States stater x c → Unsaid x (stater ∷ older) newer → class_stated (newer ++ (stater ∷ older)) x ≡ c
stated_computed x c older stater _ s so_far = states_so stater older x c s
stated_computed x c older stater _ s (by_line e newer none unmade before) =
    class_next e (newer ++ (stater ∷ older)) x
    ∙ rw (not_made e (newer ++ (stater ∷ older)) x unmade, never_true (stating e x) (λ h. none (class_in_line e) (states_by e x h))) (stated_computed x c older stater newer s before)

-- of every history
pub class_is : (past : History) (x : Alive) (c : ℕ) → c ≢ no_class → (class_stated past x ≡ c) ↔ Stated x c past
class_is past x c nz = (computed_stated past x c nz, λ st. rw st.split (stated_computed x c st.older st.stater st.newer st.said st.last))

-- what accepted lines state is a class
pub stated_some : (room : Room) (past : History) → Accepted room past → (x : Alive) (c : ℕ) → Stated x c past → c ≢ no_class
stated_some room past a x c st = go st.said (allowed room st.stater st.older (accepted_before room st.newer (st.stater ∷ st.older) (subst (Accepted room) st.split a)))
  where
    go : {e : Line} {x : Alive} {c : ℕ} → States e x c → is_allowed e ≡ true → c ≢ no_class
    go (of_local t d h c k) fine = class_some c (and_right (is_thread t && is_value h) (is_class c) fine)
    go (of_shared t h c k) fine = class_some c (and_right (is_thread t && is_value h) (is_class c) fine)
    go (of_result t d h p nz) fine = λ z. omega (arith, z)

-- ---- what a line does to it

pub state_class : (t h c : ℕ) (x : Alive) (past : History) → Means t h x → class_stated (states (O t h c) ∷ past) x ≡ c
state_class t h c x past m = class_next (states (O t h c)) past x ∙ rw (nothing_by_O t h c past x, means_names t h x m)

pub declares_alone : (c s : ℕ) (x : Alive) (past : History) → class_stated (states (K c s) ∷ past) x ≡ class_stated past x
unfolding class_stated makes
declares_alone c s x past = refl

pub made_class : (past : History) (e : Line) (x : Alive) → Makes past e x → class_stated (e ∷ past) x ≡ class_by e
made_class past e x m = class_next e past x ∙ rw (any_member (same_handle x) (makes e (depth (thread_of e) past)) x (makes_made past e x m) (same_self x))
  where
    same_self : (x : Alive) → same_handle x x ≡ true
    same_self (local t d h) = rw (eqb_self t, eqb_self h)
    same_self (shared h) = eqb_self h

pub class_kept : (past : History) (e : Line) (x : Alive) → ((c : ℕ) → ¬ States e x c) → ((y : Alive) → Makes past e y → same_handle x y ≡ false)
    → class_stated (e ∷ past) x ≡ class_stated past x
class_kept past e x none unmade = class_next e past x ∙ rw (not_made e past x unmade, never_true (stating e x) (λ h. none (class_in_line e) (states_by e x h)))

-- ---- the class of what a thread names

-- it is stated of a local in whatever frame
any_frame : (past : History) (t d c h : ℕ) → class_stated past (local t d h) ≡ class_stated past (local t c h)
unfolding class_stated names
any_frame [] t d c h = refl
any_frame (e ∷ past) t d c h =
    ap (λ (k : ℕ). if_true any (is_local t h) (makes e (depth (thread_of e) past)) then class_by e else if_O e then (λ s g j. if_true names s g (local t c h) then j else k) else k) (any_frame past t d c h)

pub same_class_stated : (past : History) (t h : ℕ) (x y : Alive) → Means t h x → Means t h y → class_stated past x ≡ class_stated past y
same_class_stated past t _ _ _ (its_local d h k) m = go m
  where
    go : {y : Alive} → Means t h y → class_stated past (local t d h) ≡ class_stated past y
    go (its_local c _ j) = any_frame past t d c h
    go (a_shared _ j) = absurd (omega (arith, k, j))
same_class_stated past t _ _ _ (a_shared h k) m = go m
  where
    go : {y : Alive} → Means t h y → class_stated past (shared h) ≡ class_stated past y
    go (its_local c _ j) = absurd (omega (arith, k, j))
    go (a_shared _ j) = refl

pub of_first_member : {A : Type 0} (test : A → Bool) (f : A → ℕ) (l : List A) (x : A) → Memᴰ x l → test x ≡ true → ((y : A) → test y ≡ true → f y ≡ f x) → of_first test f l ≡ f x
of_first_member test f [] x m k same = absurd (Memᴰ.not-nil m)
of_first_member {A} test f (y ∷ l) x m k same =
    go (test y) refl (either (Memᴰ.cases_cons m) (λ is q. true_not_false (test y) (subst (λ (z : A). test z ≡ true) is k) q) (λ i q. of_first_member test f l x i k same))
  where
    go : (q : Bool) → test y ≡ q → (test y ≡ false → of_first test f l ≡ f x) → (if_true q then f y else of_first test f l) ≡ f x
    go true e rest = same y e
    go false e rest = rest e

pub of_first_none : {A : Type 0} (test : A → Bool) (f : A → ℕ) (l : List A) → count test l ≡ 0 → of_first test f l ≡ 0
of_first_none test f [] none = refl
of_first_none test f (x ∷ l) none = go (test x) none (λ h. of_first_none test f l h)
  where
    go : (q : Bool) → (if_true q then suc (count test l) else count test l) ≡ 0 → (count test l ≡ 0 → of_first test f l ≡ 0) → (if_true q then f x else of_first test f l) ≡ 0
    go true h ih = absurd (omega (arith, h))
    go false h ih = ih h

pub class_ended : (past : History) (t h : ℕ) → ((x : Alive) → Means t h x → ¬ Lives x past) → (seen past).class t h ≡ no_class
unfolding seen
class_ended past t h dead = of_first_none (names t h) (class_stated past) (living past) (go (count (names t h) (living past)) refl)
  where
    go : (n : ℕ) → count (names t h) (living past) ≡ n → count (names t h) (living past) ≡ 0
    go zero e = e
    go (suc n) e =
        let (x, m, k) = some_member (names t h) (living past) (omega (arith, e)) in
        absurd (dead x (names_means t h x k) ((living_are past x).0 m))

pub class_named : (past : History) (t h : ℕ) (x : Alive) → Means t h x → Lives x past → (seen past).class t h ≡ class_stated past x
unfolding seen
class_named past t h x m l =
    of_first_member (names t h) (class_stated past) (living past) x ((living_are past x).1 l) (means_names t h x m)
    (λ y k. same_class_stated past t h y x (names_means t h y k) m)
