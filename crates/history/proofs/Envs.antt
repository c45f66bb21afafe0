-- A thread's env is that of its first N or A, and no two threads share one. Assumes nothing.
use Prim.Native.Nat.{ℕ}
use mathlib.Core.Path.{◌≡◌, refl, sym, ap, ◌∙◌}
use mathlib.Core.Logic.{◌≢◌}
use mathlib.Core.Bool.{Bool, true, false, false≢true}
use mathlib.Core.List.{[], ◌∷◌, ◌++◌, Memᴰ}
use native.Mathlib.Omega.{arith}
use lib.Dec.{eqb, leb}
use borrow.Author.Tests.{eqb-true, eqb-false, ne_eqb, leb-true}
use Rattle.words.specs.Choice.{if_true◌then◌else◌}
use Rattle.lines.specs.Line.{Line, N, X, C, R, A, D, Z, states, is_thread, is_allowed}
use Rattle.history.specs.Past.{History, is_of, through}
use Rattle.history.specs.Thread.{all_threads, env_of, env_after}
use Rattle.history.specs.Seen.{seen}
use Rattle.history.specs.Acceptance.{Room, env_right}
use Rattle.history.specs.Accepted.{Accepted, at_start, and_line}
use Rattle.history.specs.Refusals.{Brings, by_N, by_A, shared_env}
use Rattle.history.proofs.Tests.{and_left, and_right, true_not_false, whether, eqb_self}
use Rattle.history.proofs.Threads.{own_env, other_env_of}
use Rattle.history.proofs.Turns.{env_is}
use Rattle.history.proofs.Accepting.{passed}
use Rattle.history.proofs.Order.{in_from}

-- ---- a line brings its thread an env, or changes none

own_line : (t s env : ℕ) (e : Line) → Brings s env e → is_of t e ≡ eqb t s
own_line t s env _ (by_N hs) = refl
own_line t s env _ by_A = refl

brought : (t env : ℕ) (e : Line) (past : History) → Brings t env e → env_of t (e ∷ past) ≡ (if_true eqb (env_of t past) 0 then env else env_of t past)
brought t env _ past (by_N hs) = own_env t (N t env hs) past (eqb_self t)
brought t env _ past by_A = own_env t (A t env) past (eqb_self t)

data Bringing : Line → Type 0 where
  brings : (t env : ℕ) (e : Line) → Brings t env e → Bringing e
  leaves_all : (e : Line) → ((v : ℕ) → env_after e v ≡ v) → Bringing e

bringing : (e : Line) → Bringing e
bringing (N t env hs) = brings t env (N t env hs) (by_N hs)
bringing (X t r) = leaves_all (X t r) (λ v. refl)
bringing (C t env f a b c n) = leaves_all (C t env f a b c n) (λ v. refl)
bringing (R t f r p) = leaves_all (R t f r p) (λ v. refl)
bringing (A t env) = brings t env (A t env) by_A
bringing (D t) = leaves_all (D t) (λ v. refl)
bringing Z = leaves_all Z (λ v. refl)
bringing (states s) = leaves_all (states s) (λ v. refl)

unchanged : (t : ℕ) (e : Line) (past : History) → env_after e (env_of t past) ≡ env_of t past → env_of t (e ∷ past) ≡ env_of t past
unchanged t e past h = whether (is_of t e) (λ o. own_env t e past o ∙ h) (other_env_of t e past)

-- a thread that has an env keeps it
env_kept : (t : ℕ) (e : Line) (past : History) → env_of t past ≢ 0 → env_of t (e ∷ past) ≡ env_of t past
env_kept t e past nz = go e (bringing e)
  where
    go : (e : Line) → Bringing e → env_of t (e ∷ past) ≡ env_of t past
    go _ (leaves_all e same) = unchanged t e past (same (env_of t past))
    go _ (brings s env e b) =
        whether (eqb t s)
        (λ o. brought t env e past (rw (eqb-true t s o) b) ∙ rw (ne_eqb (env_of t past) 0 nz))
        (λ o. other_env_of t e past (own_line t s env e b ∙ o))

-- without an N or an A it has none
pub no_env : (t : ℕ) (past : History) → ((env : ℕ) (e : Line) → Brings t env e → ¬ Memᴰ e past) → env_of t past ≡ 0
unfolding env_of through
no_env t [] h = refl
no_env t (e ∷ past) h = go e (bringing e) (λ env b. h env e b (Memᴰ.head refl)) (no_env t past (λ v x b m. h v x b (Memᴰ.tail m)))
  where
    go : (e : Line) → Bringing e → ((env : ℕ) → ¬ Brings t env e) → env_of t past ≡ 0 → env_of t (e ∷ past) ≡ 0
    go _ (leaves_all e same) none ih = unchanged t e past (same (env_of t past)) ∙ ih
    go _ (brings s env e b) none ih =
        whether (eqb t s) (λ o. absurd (none env (rw (eqb-true t s o) b))) (λ o. other_env_of t e past (own_line t s env e b ∙ o) ∙ ih)

-- a thread's env is that of its first N or A, for ever
pub env_of_first : (t env : ℕ) (first : Line) (newer older : History) → env ≢ 0 → Brings t env first → ((v : ℕ) (e : Line) → Brings t v e → ¬ Memᴰ e older)
    → env_of t (newer ++ (first ∷ older)) ≡ env
env_of_first t env first [] older nz b h = brought t env first older b ∙ rw (no_env t older h)
env_of_first t env first (e ∷ newer) older nz b h = go (env_of_first t env first newer older nz b h)
  where
    go : env_of t (newer ++ (first ∷ older)) ≡ env → env_of t (e ∷ (newer ++ (first ∷ older))) ≡ env
    go ih = env_kept t e (newer ++ (first ∷ older)) (λ z. nz (sym ih ∙ z)) ∙ ih

-- ---- no two threads share one

allowed_thread : (t : ℕ) (e : Line) → is_allowed e ≡ true → is_of t e ≡ true → is_thread t ≡ true
allowed_thread t (N s env hs) a o = rw (eqb-true t s o) (and_left _ _ (and_left _ _ (and_left _ _ a)))
allowed_thread t (X s r) a o = rw (eqb-true t s o) (and_left _ _ a)
allowed_thread t (C s env f x y z n) a o = rw (eqb-true t s o) (and_left _ _ (and_left _ _ (and_left _ _ (and_left _ _ (and_left _ _ (and_left _ _ a))))))
allowed_thread t (R s f r p) a o = rw (eqb-true t s o) (and_left _ _ (and_left _ _ (and_left _ _ a)))
allowed_thread t (A s env) a o = rw (eqb-true t s o) (and_left _ _ a)
allowed_thread t (D s) a o = rw (eqb-true t s o) a
allowed_thread t Z a o = absurd (false≢true o)
allowed_thread t (states s) a o = absurd (false≢true o)

entered_thread : (room : Room) (past : History) → Accepted room past → (t : ℕ) → env_of t past ≢ 0 → Memᴰ t all_threads
unfolding env_of through
entered_thread room _ at_start t nz = absurd (nz refl)
entered_thread room _ (and_line e past n a r k) t nz = go (is_of t e) refl (entered_thread room past k t)
  where
    go : (q : Bool) → is_of t e ≡ q → (env_of t past ≢ 0 → Memᴰ t all_threads) → Memᴰ t all_threads
    go true o ih =
        let th = allowed_thread t e a o in
        in_from 16 1 t (leb-true 1 t (and_left (leb 1 t) (leb t 16) th)) (omega (arith, leb-true t 16 (and_right (leb 1 t) (leb t 16) th)))
    go false o ih = ih (λ z. nz (other_env_of t e past o ∙ z))

-- a line gives its thread no env that another thread has
entered_apart : (room : Room) (t env : ℕ) (e : Line) (past : History) → Brings t env e → Accepted room past → env_right e (seen past) ≡ true
    → (s : ℕ) → s ≢ t → env_of s past ≢ 0 → env_of s past ≢ env_of t past → env_of s past ≢ env_of t (e ∷ past)
entered_apart room t env e past b k right s d nz apart = go (eqb (env_of t past) 0) refl
  where
    go : (q : Bool) → eqb (env_of t past) 0 ≡ q → env_of s past ≢ env_of t (e ∷ past)
    go true z is =
        let same : env_of s past ≡ env = is ∙ brought t env e past b ∙ ap (λ (b : Bool). if_true b then env else env_of t past) z in
        true_not_false (env_right e (seen past)) right ((env_is past e).1 (shared_env e t env s b (entered_thread room past k s nz) d same))
    go false z is = apart (is ∙ brought t env e past b ∙ ap (λ (b : Bool). if_true b then env else env_of t past) z)

-- no two threads share one
pub envs_apart : (room : Room) (past : History) → Accepted room past → (s t : ℕ) → s ≢ t → env_of s past ≢ 0 → env_of s past ≢ env_of t past
unfolding env_of through
envs_apart room _ at_start s t d nz is = nz refl
envs_apart room _ (and_line e past n a r k) s t d nz is =
    go e (bringing e) (passed room e past r).env nz is (envs_apart room past k s t d) (envs_apart room past k t s (λ e. d (sym e)))
  where
    go : (e : Line) → Bringing e → env_right e (seen past) ≡ true → env_of s (e ∷ past) ≢ 0 → env_of s (e ∷ past) ≡ env_of t (e ∷ past)
        → (env_of s past ≢ 0 → env_of s past ≢ env_of t past) → (env_of t past ≢ 0 → env_of t past ≢ env_of s past) → ⊥
    go _ (leaves_all e same) right nz is ih hi =
        let a = unchanged s e past (same (env_of s past)) in
        let b = unchanged t e past (same (env_of t past)) in
        ih (λ z. nz (a ∙ z)) (sym a ∙ is ∙ b)
    go _ (brings u env e b) right nz is ih hi = by (eqb s u) refl (eqb t u) refl
      where
        by : (x : Bool) → eqb s u ≡ x → (y : Bool) → eqb t u ≡ y → ⊥
        by true x true y = d (eqb-true _ _ x ∙ sym (eqb-true _ _ y))
        by true x false y =
            let own = eqb-true _ _ x in
            let same = other_env_of t e past (own_line t u env e b ∙ y) in
            let nzt : env_of t past ≢ 0 = λ z. nz (is ∙ same ∙ z) in
            entered_apart room u env e past b k right t (eqb-false _ _ y) nzt (λ q. hi nzt (q ∙ ap (λ (w : ℕ). env_of w past) (sym own)))
            (sym same ∙ sym is ∙ ap (λ (w : ℕ). env_of w (e ∷ past)) own)
        by false x true y =
            let own = eqb-true _ _ y in
            let same = other_env_of s e past (own_line s u env e b ∙ x) in
            let nzs : env_of s past ≢ 0 = λ z. nz (same ∙ z) in
            entered_apart room u env e past b k right s (eqb-false s u x) nzs (λ q. ih nzs (q ∙ ap (λ (w : ℕ). env_of w past) (sym own)))
            (sym same ∙ is ∙ ap (λ (w : ℕ). env_of w (e ∷ past)) own)
        by false x false y =
            let a = other_env_of s e past (own_line s u env e b ∙ x) in
            ih (λ z. nz (a ∙ z)) (sym a ∙ is ∙ other_env_of t e past (own_line t u env e b ∙ y))
