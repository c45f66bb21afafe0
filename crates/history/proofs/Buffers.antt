-- Buffers outstanding: which is the same, and how many; a release ends one of those equal to b, and no other. Assumes nothing.
use Prim.Native.Nat.{◌+◌}
use mathlib.Core.Path.{◌≡◌, refl, sym, ap, ◌∙◌, subst, fun_ext}
use mathlib.Core.Logic.{◌↔◌}
use mathlib.Core.Bool.{Bool, true, false, not, ◌&&◌, false≢true, and-true}
use mathlib.Core.List.Memᴰ
use mathlib.Core.List.{List, [], ◌∷◌, Memᴰ}
use native.Mathlib.Omega.{arith}
use lib.Dec.{eqb, ltb}
use lib.IntN.{pos, negsuc}
use borrow.Author.Tests.{eqb-true, eqb-false, ne_eqb, lt-ltb, ltb-true}
use Rattle.words.specs.Choice.{if_true◌then◌else◌, one}
use Rattle.words.specs.Lists.{count, but_first}
use Rattle.facts.specs.Table.{fact_of}
use Rattle.facts.specs.declared.Place.{Place}
use Rattle.facts.specs.declared.Result.{Result}
use Rattle.facts.specs.Results.{is_buffer_result, is_buffer_place}
use Rattle.lines.specs.Line.{Line, N, X, C, R, A, D, Z, states}
use Rattle.history.specs.Past.{History}
use Rattle.history.specs.Buffers.{Pin, ordinary, critical, pin, same_pin, gets, releases, outstanding}
use Rattle.history.specs.Seen.{seen, is_outstanding}
use Rattle.history.specs.Paper.{Outstanding}
use Rattle.history.specs.Times.{Gets, at_return, Releases, at_call, got, released}
use Rattle.history.proofs.Tests.{and_left, and_right, all_three, true_not_false, eqb_self}
use Rattle.history.proofs.Counts.{count_append, count_but_first, count_but_other, member_counts, some_member}

-- ---- the same buffer

pub same_pin_self : (x : Pin) → same_pin x x ≡ true
same_pin_self (ordinary k b) = rw (eqb_self k, eqb_self b)
same_pin_self (critical t k b) = rw (eqb_self t, eqb_self k, eqb_self b)

pub same_pin_is : (x y : Pin) → same_pin x y ≡ true → y ≡ x
same_pin_is (ordinary k b) (ordinary j a) h = rw (eqb-true k j (and_left (eqb k j) (eqb b a) h), eqb-true b a (and_right (eqb k j) (eqb b a) h))
same_pin_is (ordinary k b) (critical s j a) h = absurd (false≢true h)
same_pin_is (critical t k b) (ordinary j a) h = absurd (false≢true h)
same_pin_is (critical t k b) (critical s j a) h =
    let (u, v, w) = all_three _ _ _ h in
    rw (eqb-true t s u, eqb-true k j v, eqb-true b a w)

-- outstanding, by its family and buffer, and its thread if critical
pub pin_out : (past : History) (x : Pin) → (is_outstanding (same_pin x) (seen past) ≡ true) ↔ Outstanding x past
unfolding seen
pin_out past x = (
  λ e. of_member (some_member (same_pin x) (outstanding past) (ltb-true _ _ e)),
  λ m. lt-ltb 0 (count (same_pin x) (outstanding past)) (member_counts (same_pin x) (outstanding past) x m (same_pin_self x)),
)
  where
    of_member : (y : Pin) × Memᴰ y (outstanding past) × (same_pin x y ≡ true) → Outstanding x past
    of_member (y, m, is) = subst (λ (z : Pin). Outstanding z past) (same_pin_is x y is) m

-- ---- which lines get and release

buffer_result : (k : Result) → is_buffer_result k ≡ true → k ≡ Result.Buffer
buffer_result Result.Buffer h = refl
buffer_result Result.Local h = absurd (false≢true h)
buffer_result Result.Global h = absurd (false≢true h)
buffer_result Result.Weak h = absurd (false≢true h)
buffer_result Result.Identity h = absurd (false≢true h)
buffer_result Result.Status h = absurd (false≢true h)
buffer_result Result.Nothing h = absurd (false≢true h)

buffer_place : (p : Place) → is_buffer_place p ≡ true → p ≡ Place.Buffer
buffer_place Place.Buffer h = refl
buffer_place Place.Handle h = absurd (false≢true h)
buffer_place Place.HandleOrNull h = absurd (false≢true h)
buffer_place Place.LocalOrNull h = absurd (false≢true h)
buffer_place Place.GlobalOrNull h = absurd (false≢true h)
buffer_place Place.WeakOrNull h = absurd (false≢true h)
buffer_place Place.Identity h = absurd (false≢true h)
buffer_place Place.Unused h = absurd (false≢true h)

getting : (e : Line) (x : Pin) → Memᴰ x (gets e) → Gets e x
unfolding gets
getting (N t env hs) x m = absurd (Memᴰ.not-nil m)
getting (X t r) x m = absurd (Memᴰ.not-nil m)
getting (C t env f a b c n) x m = absurd (Memᴰ.not-nil m)
getting (R t f (pos b) p) x m = go (is_buffer_result (fact_of f).result) refl (eqb b 0) refl m
  where
    go : (q : Bool) → is_buffer_result (fact_of f).result ≡ q → (z : Bool) → eqb b 0 ≡ z → Memᴰ x (if_true q && not z then pin t f b ∷ [] else []) → Gets (R t f (pos b) p) x
    go true eq false ez m = rw (Memᴰ.eq_of_singleton m) (at_return t f b p (buffer_result (fact_of f).result eq) (eqb-false _ _ ez))
    go true eq true ez m = absurd (Memᴰ.not-nil m)
    go false eq z ez m = absurd (Memᴰ.not-nil m)
getting (R t f (negsuc b) p) x m = go (is_buffer_result (fact_of f).result) m
  where
    go : (q : Bool) → Memᴰ x (if_true q && false then pin t f 0 ∷ [] else []) → Gets (R t f (negsuc b) p) x
    go true m = absurd (Memᴰ.not-nil m)
    go false m = absurd (Memᴰ.not-nil m)
getting (A t env) x m = absurd (Memᴰ.not-nil m)
getting (D t) x m = absurd (Memᴰ.not-nil m)
getting Z x m = absurd (Memᴰ.not-nil m)
getting (states s) x m = absurd (Memᴰ.not-nil m)

is_got : (e : Line) (x : Pin) → Gets e x → Memᴰ x (gets e)
unfolding gets
is_got _ _ (at_return t f b p is nz) = rw (is, ne_eqb b 0 nz) (Memᴰ.head refl)

-- a line gets what document 01 says
pub gets_are : (e : Line) (x : Pin) → Memᴰ x (gets e) ↔ Gets e x
gets_are e x = (getting e x, is_got e x)

releasing_one : (e : Line) (x : Pin) → releases e x ≡ true → Releases e x
unfolding releases
releasing_one (N t env hs) x h = absurd (false≢true h)
releasing_one (X t r) x h = absurd (false≢true h)
releasing_one (C t env f a b c n) x h =
    let is = and_left (is_buffer_place (fact_of f).b) (same_pin (pin t f b) x) h in
    let that = and_right (is_buffer_place (fact_of f).b) (same_pin (pin t f b) x) h in
    rw (same_pin_is (pin t f b) x that) (at_call t env f a b c n (buffer_place (fact_of f).b is))
releasing_one (R t f r p) x h = absurd (false≢true h)
releasing_one (A t env) x h = absurd (false≢true h)
releasing_one (D t) x h = absurd (false≢true h)
releasing_one Z x h = absurd (false≢true h)
releasing_one (states s) x h = absurd (false≢true h)

is_released : (e : Line) (x : Pin) → Releases e x → releases e x ≡ true
unfolding releases
is_released _ _ (at_call t env f a b c n is) = rw is (same_pin_self (pin t f b))

-- and releases what it says
pub releases_are : (e : Line) (x : Pin) → (releases e x ≡ true) ↔ Releases e x
releases_are e x = (releasing_one e x, is_released e x)

-- ---- how many

-- all that a release names are the same
releases_one : (e : Line) (x y : Pin) → releases e x ≡ true → releases e y ≡ true → y ≡ x
unfolding releases
releases_one (N t env hs) x y h k = absurd (false≢true h)
releases_one (X t r) x y h k = absurd (false≢true h)
releases_one (C t env f a b c n) x y h k =
    same_pin_is (pin t f b) y (and_right (is_buffer_place (fact_of f).b) (same_pin (pin t f b) y) k)
    ∙ sym (same_pin_is (pin t f b) x (and_right (is_buffer_place (fact_of f).b) (same_pin (pin t f b) x) h))
releases_one (R t f r p) x y h k = absurd (false≢true h)
releases_one (A t env) x y h k = absurd (false≢true h)
releases_one (D t) x y h k = absurd (false≢true h)
releases_one Z x y h k = absurd (false≢true h)
releases_one (states s) x y h k = absurd (false≢true h)

-- where a release names it, its test is that of being the same
releases_same : (e : Line) (x : Pin) → releases e x ≡ true → releases e ≡ same_pin x
releases_same e x h = fun_ext λ y. go y (releases e y) refl (same_pin x y) refl
  where
    go : (y : Pin) (a : Bool) → releases e y ≡ a → (b : Bool) → same_pin x y ≡ b → releases e y ≡ same_pin x y
    go y true ea b eb = ea ∙ sym (ap (same_pin x) (releases_one e x y h ea) ∙ same_pin_self x)
    go y false ea true eb = true_not_false (releases e y) (ap (releases e) (same_pin_is x y eb) ∙ h) ea
    go y false ea false eb = ea ∙ sym eb

-- one less, if there is one
one_less : (x : Pin) (l : List Pin) → count (same_pin x) (but_first (same_pin x) l) + one (ltb 0 (count (same_pin x) l)) ≡ count (same_pin x) l
one_less x l =
    ap (λ (b : Bool). count (same_pin x) (but_first (same_pin x) l) + one b) (sym (ap (λ (b : Bool). ltb 0 (count (same_pin x) l) && b) (same_pin_self x) ∙ and-true (ltb 0 (count (same_pin x) l))))
    ∙ count_but_first (same_pin x) (same_pin x) (same_pin x x) (λ y h. ap (same_pin x) (same_pin_is x y h)) l

-- of those equal to it, a release ends one if it names it, and none if not
pub after_release : (e : Line) (x : Pin) (l : List Pin)
    → count (same_pin x) (but_first (releases e) l) + one (releases e x && ltb 0 (count (same_pin x) l)) ≡ count (same_pin x) l
after_release e x l = go (releases e x) refl
  where
    go : (b : Bool) → releases e x ≡ b → count (same_pin x) (but_first (releases e) l) + one (b && ltb 0 (count (same_pin x) l)) ≡ count (same_pin x) l
    go true h = rw (releases_same e x h) (one_less x l)
    go false h = omega (arith, count_but_other (same_pin x) (releases e) (λ y k. ap (releases e) (same_pin_is x y k) ∙ h) l)

-- got so many times, released so many: the rest is outstanding
pub got_and_released : (x : Pin) (past : History) → count (same_pin x) (outstanding past) + released x past ≡ got x past
unfolding outstanding got released
got_and_released x [] = refl
got_and_released x (e ∷ past) =
    omega (arith, count_append (same_pin x) (gets e) (but_first (releases e) (outstanding past)), after_release e x (outstanding past), got_and_released x past)
