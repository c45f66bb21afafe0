-- What is stated of an identity is what its last M says, and it is never ended. Assumes nothing.
use Prim.Native.Nat.{ℕ, suc}
use mathlib.Core.Path.{◌≡◌, refl, sym, ap, subst, ◌∙◌}
use mathlib.Core.Logic.{◌↔◌, ◌⊎◌, inl, inr, ◌≢◌}
use mathlib.Core.Bool.{true, false}
use mathlib.Core.List.Memᴰ
use mathlib.Core.List.{List, [], ◌∷◌, ◌++◌, Memᴰ}
use native.Mathlib.Omega.{arith}
use lib.Dec.{eqb}
use borrow.Author.Tests.{eqb-true, eqb-false, ne_eqb}
use Rattle.words.specs.Choice.{if_true◌then◌else◌}
use Rattle.words.specs.Lists.{any}
use Rattle.lines.specs.Line.{Line, N, X, C, R, A, D, Z, states, K, O, M, if_M◌then◌else◌}
use Rattle.history.specs.Past.{History}
use Rattle.history.specs.Handles.{Alive, makes}
use Rattle.history.specs.Classes.{super_of}
use Rattle.history.specs.Statements.{class_stated}
use Rattle.history.specs.Identities.{identity, not_stated, identity_of, identities}
use Rattle.history.specs.Identified.{Identified}
use Rattle.history.specs.declared.Identity.{Identity}
use Rattle.history.proofs.Tests.{eqb_self, either, whether, true_not_false}
use Rattle.history.proofs.Counts.{some_any, any_member}

-- ---- a line states an identity, or none

-- what M names, a number more, and 0 for other lines
abbrev named_identity : Line → ℕ
named_identity e = if_M e then (λ x sort c static final. suc x) else 0

data Identifying : Line → Type 0 where
  identifies : (x sort c static final : ℕ) → Identifying (states (M x sort c static final))
  another : (e : Line) → ((past : History) (x : ℕ) → identity_of (e ∷ past) x ≡ identity_of past x) → ((past : History) → identities (e ∷ past) ≡ identities past)
      → ((x s c u v : ℕ) → states (M x s c u v) ≢ e) → Identifying e

no_M : (e : Line) → named_identity e ≡ 0 → (x s c u v : ℕ) → states (M x s c u v) ≢ e
no_M e z x s c u v is = omega (arith, ap named_identity is)

identifying : (e : Line) → Identifying e
unfolding identity_of identities
identifying (N t env hs) = another (N t env hs) (λ past x. refl) (λ past. refl) (no_M (N t env hs) refl)
identifying (X t r) = another (X t r) (λ past x. refl) (λ past. refl) (no_M (X t r) refl)
identifying (C t env f a b c n) = another (C t env f a b c n) (λ past x. refl) (λ past. refl) (no_M (C t env f a b c n) refl)
identifying (R t f r p) = another (R t f r p) (λ past x. refl) (λ past. refl) (no_M (R t f r p) refl)
identifying (A t env) = another (A t env) (λ past x. refl) (λ past. refl) (no_M (A t env) refl)
identifying (D t) = another (D t) (λ past x. refl) (λ past. refl) (no_M (D t) refl)
identifying Z = another Z (λ past x. refl) (λ past. refl) (no_M Z refl)
identifying (states (K c s)) = another (states (K c s)) (λ past x. refl) (λ past. refl) (no_M (states (K c s)) refl)
identifying (states (O t h c)) = another (states (O t h c)) (λ past x. refl) (λ past. refl) (no_M (states (O t h c)) refl)
identifying (states (M x sort c static final)) = identifies x sort c static final

pub identify : (x sort c static final : ℕ) (past : History) → identity_of (states (M x sort c static final) ∷ past) x ≡ identity sort static final
unfolding identity_of
identify x sort c static final past = rw (eqb_self x)

other_identity : (y x sort c static final : ℕ) (past : History) → y ≢ x → identity_of (states (M x sort c static final) ∷ past) y ≡ identity_of past y
unfolding identity_of
other_identity y x sort c static final past n = rw (ne_eqb y x n)

other_M : (y x s c u v sort d static final : ℕ) → y ≢ x → states (M y s c u v) ≢ states (M x sort d static final)
other_M y x s c u v sort d static final n is = n (omega (arith, ap named_identity is))

-- no line but an M of the identity says what it is
pub identity_kept : (e : Line) (past : History) (x : ℕ) → ((s c u v : ℕ) → states (M x s c u v) ≢ e) → identity_of (e ∷ past) x ≡ identity_of past x
identity_kept e past x none = go (identifying e) none
  where
    go : {e : Line} → Identifying e → ((s c u v : ℕ) → states (M x s c u v) ≢ e) → identity_of (e ∷ past) x ≡ identity_of past x
    go (another e same all not_M) none = same past x
    go (identifies y sort c static final) none =
        other_identity x y sort c static final past (λ is. none sort c static final (ap (λ (z : ℕ). states (M z sort c static final)) is))

-- ---- the last M

abbrev Unstated : ℕ → History → Type 0
Unstated x past = (s c u v : ℕ) → ¬ Memᴰ (states (M x s c u v)) past

pub stated_last : (x sort c static final : ℕ) (newer older : History) → Unstated x newer
    → identity_of (newer ++ (states (M x sort c static final) ∷ older)) x ≡ identity sort static final
stated_last x sort c static final [] older last = identify x sort c static final older
stated_last x sort c static final (e ∷ newer) older last =
    identity_kept e (newer ++ (states (M x sort c static final) ∷ older)) x (λ s d u v is. last s d u v (Memᴰ.head is))
    ∙ stated_last x sort c static final newer older (λ s d u v m. last s d u v (Memᴰ.tail m))

pub identified_so : (past : History) (x sort static final : ℕ) → Identified x sort static final past → identity_of past x ≡ identity sort static final
identified_so past x sort static final i = rw i.split (stated_last x sort i.class static final i.newer i.older i.last)

within : (e : Line) (newer older : History) → Memᴰ e (newer ++ (e ∷ older))
within e [] older = Memᴰ.head refl
within e (d ∷ newer) older = Memᴰ.tail (within e newer older)

identified_there : (past : History) (x sort static final : ℕ) (i : Identified x sort static final past) → Memᴰ (states (M x sort i.class static final)) past
identified_there past x sort static final i = subst (Memᴰ (states (M x sort i.class static final))) (sym i.split) (within (states (M x sort i.class static final)) i.newer i.older)

abbrev Is : History → ℕ → Identity → Type 0
Is past x i = Identified x i.sort i.isstatic i.isfinal past

later : (e : Line) (past : History) (x : ℕ) (i : Identity) → ((s c u v : ℕ) → states (M x s c u v) ≢ e) → Is past x i → Is (e ∷ past) x i
later e past x i none k =
    record {
      newer = e ∷ k.newer;
      class = k.class;
      older = k.older;
      split = ap (λ (h : History). e ∷ h) k.split;
      last = λ s c u v m. either (Memᴰ.cases_cons m) (none s c u v) (k.last s c u v);
    }

here : (x sort c static final : ℕ) (past : History) → Identified x sort static final (states (M x sort c static final) ∷ past)
here x sort c static final past = record { newer = []; class = c; older = past; split = refl; last = λ s d u v m. Memᴰ.not-nil m }

-- of every history an identity is stated so, or never
stated_or_not : (past : History) (x : ℕ) → Is past x (identity_of past x) ⊎ (Unstated x past × (identity_of past x ≡ not_stated))
stated_or_not [] x = inr (λ s c u v m. Memᴰ.not-nil m, unfold identity_of in refl)
stated_or_not (e ∷ past) x = go (identifying e) (stated_or_not past x)
  where
    kept : (e : Line) → ((s c u v : ℕ) → states (M x s c u v) ≢ e) → Is past x (identity_of past x) ⊎ (Unstated x past × (identity_of past x ≡ not_stated))
        → Is (e ∷ past) x (identity_of (e ∷ past) x) ⊎ (Unstated x (e ∷ past) × (identity_of (e ∷ past) x ≡ not_stated))
    kept e none (inl k) = inl (rw (identity_kept e past x none) (later e past x (identity_of past x) none k))
    kept e none (inr (k, is)) = inr (λ s c u v m. either (Memᴰ.cases_cons m) (none s c u v) (k s c u v), identity_kept e past x none ∙ is)

    go : {e : Line} → Identifying e → Is past x (identity_of past x) ⊎ (Unstated x past × (identity_of past x ≡ not_stated))
        → Is (e ∷ past) x (identity_of (e ∷ past) x) ⊎ (Unstated x (e ∷ past) × (identity_of (e ∷ past) x ≡ not_stated))
    go (another e same all not_M) ih = kept e (not_M x) ih
    go (identifies y sort c static final) ih = whether (eqb x y)
        (λ q. inl (rw (eqb-true x y q, identify y sort c static final past) (here y sort c static final past)))
        (λ q. kept (states (M y sort c static final)) (λ s d u v. other_M x y s d u v sort c static final (eqb-false x y q)) ih)

pub never_identified : (past : History) (x : ℕ) → ((sort static final : ℕ) → ¬ Identified x sort static final past) → identity_of past x ≡ not_stated
never_identified past x none = either (stated_or_not past x) (λ k. absurd (none _ _ _ k)) (λ k. k.1)

-- where it is not identified as it is computed, it never was
pub identified_or_never : (past : History) (x : ℕ) → Is past x (identity_of past x) ⊎ ((sort static final : ℕ) → ¬ Identified x sort static final past)
identified_or_never past x =
    either (stated_or_not past x) inl (λ k. inr (λ sort static final i. k.0 sort i.class static final (identified_there past x sort static final i)))

-- what is computed is what the last M states; sort 0 is no sort
pub identity_is : (past : History) (x sort static final : ℕ) → sort ≢ 0 → (identity_of past x ≡ identity sort static final) ↔ Identified x sort static final past
identity_is past x sort static final some = (
  λ is.
      either (stated_or_not past x) (λ k. subst (Is past x) is k) (λ k. absurd (some (ap (λ (i : Identity). i.sort) (sym is ∙ k.1)))),
  identified_so past x sort static final,
)

-- ---- an identity is never ended

pub never_ended : (newer past : History) (x sort static final : ℕ) → Identified x sort static final past
    → let i : Identity = identity_of (newer ++ past) x in Identified x i.sort i.isstatic i.isfinal (newer ++ past)
never_ended newer past x sort static final k =
    either (stated_or_not (newer ++ past) x) (λ i. i)
    (λ n. absurd (n.0 sort k.class static final (further newer (identified_there past x sort static final k))))
  where
    further : {e : Line} (newer : History) → Memᴰ e past → Memᴰ e (newer ++ past)
    further [] m = m
    further (d ∷ newer) m = Memᴰ.tail (further newer m)

-- ---- those stated, each once

named : (x : ℕ) (l : List ℕ) → any (eqb x) l ≡ true → Memᴰ x l
named x l h = let (y, m, q) = some_any (eqb x) l h in subst (λ (z : ℕ). Memᴰ z l) (sym (eqb-true x y q)) m

unnamed : (x : ℕ) (l : List ℕ) → any (eqb x) l ≡ false → ¬ Memᴰ x l
unnamed x l h m = true_not_false (any (eqb x) l) (any_member (eqb x) l x m (eqb_self x)) h

data KnownAlready (x : ℕ) (past after : List ℕ) : Type 0 where
  known : Memᴰ x past → after ≡ past → KnownAlready x past after
  new : (¬ Memᴰ x past) → after ≡ x ∷ past → KnownAlready x past after

identities_next : (x sort c static final : ℕ) (past : History) → KnownAlready x (identities past) (identities (states (M x sort c static final) ∷ past))
unfolding identities
identities_next x sort c static final past = whether (any (eqb x) (identities past))
    (λ q. known (named x (identities past) q) (rw q))
    (λ q. new (unnamed x (identities past) q) (rw q))

pub identities_are : (past : History) (x : ℕ) → Memᴰ x (identities past) ↔ ((sort : ℕ) × (static : ℕ) × (final : ℕ) × Identified x sort static final past)
unfolding identities
identities_are past x = (there past x, λ (sort, static, final, i). back past i.class sort static final (identified_there past x sort static final i))
  where
    there : (past : History) (x : ℕ) → Memᴰ x (identities past) → (sort : ℕ) × (static : ℕ) × (final : ℕ) × Identified x sort static final past
    there past x m = either (stated_or_not past x) (λ k. ((identity_of past x).sort, (identity_of past x).isstatic, (identity_of past x).isfinal, k)) (λ k. absurd (never past k.0 m))
      where
        never : (past : History) → Unstated x past → ¬ Memᴰ x (identities past)
        never [] none m = Memᴰ.not-nil m
        never (e ∷ past) none m = go (identifying e) none m (never past (λ s c u v k. none s c u v (Memᴰ.tail k)))
          where
            go : {e : Line} → Identifying e → Unstated x (e ∷ past) → Memᴰ x (identities (e ∷ past)) → ¬ Memᴰ x (identities past) → ⊥
            go (another e same all not_M) none m ih = ih (subst (Memᴰ x) (all past) m)
            go (identifies y sort c static final) none m ih = by (identities_next y sort c static final past) m
              where
                by : {l : List ℕ} → KnownAlready y (identities past) l → Memᴰ x l → ⊥
                by (known k is) m = ih (subst (Memᴰ x) is m)
                by (new k is) m =
                    either (Memᴰ.cases_cons (subst (Memᴰ x) is m)) (λ z. none sort c static final (Memᴰ.head (ap (λ (w : ℕ). states (M w sort c static final)) z))) ih

    back : (past : History) (c sort static final : ℕ) → Memᴰ (states (M x sort c static final)) past → Memᴰ x (identities past)
    back [] c sort static final m = absurd (Memᴰ.not-nil m)
    back (e ∷ past) c sort static final m = go (identifying e) (Memᴰ.cases_cons m) (back past c sort static final)
      where
        go : {e : Line} → Identifying e → (states (M x sort c static final) ≡ e) ⊎ Memᴰ (states (M x sort c static final)) past
            → (Memᴰ (states (M x sort c static final)) past → Memᴰ x (identities past)) → Memᴰ x (identities (e ∷ past))
        go (another e same all not_M) m ih =
            subst (Memᴰ x) (sym (all past)) (either m (λ is. absurd (not_M x sort c static final is)) ih)
        go (identifies y s d u v) m ih = by (identities_next y s d u v past) (either m (λ is. inl (omega (arith, ap named_identity is))) (λ k. inr (ih k)))
          where
            by : {l : List ℕ} → KnownAlready y (identities past) l → (x ≡ y) ⊎ Memᴰ x (identities past) → Memᴰ x l
            by (known k is) (inl z) = subst (Memᴰ x) (sym is) (subst (λ (w : ℕ). Memᴰ w (identities past)) (sym z) k)
            by (known k is) (inr m) = subst (Memᴰ x) (sym is) m
            by (new k is) (inl z) = subst (Memᴰ x) (sym is) (Memᴰ.head z)
            by (new k is) (inr m) = subst (Memᴰ x) (sym is) (Memᴰ.tail m)

-- each of a list stands there once
abbrev Once : List ℕ → Type 0
Once [] = Unit {0}
Once (x ∷ l) = (¬ Memᴰ x l) × Once l

all_once : (past : History) → Once (identities past)
all_once [] = unfold identities in tt
all_once (e ∷ past) = go (identifying e) (all_once past)
  where
    go : {e : Line} → Identifying e → Once (identities past) → Once (identities (e ∷ past))
    go (another e same all not_M) ih = subst Once (sym (all past)) ih
    go (identifies x sort c static final) ih = by (identities_next x sort c static final past)
      where
        by : {l : List ℕ} → KnownAlready x (identities past) l → Once l
        by (known k is) = subst Once (sym is) ih
        by (new k is) = subst Once (sym is) (k, ih)

once_after : (before : List ℕ) (x : ℕ) (after : List ℕ) → Once (before ++ (x ∷ after)) → ¬ Memᴰ x after
once_after [] x after o = o.0
once_after (y ∷ before) x after o = once_after before x after o.1

pub identities_once : (past : History) (before : List ℕ) (x : ℕ) (after : List ℕ) → identities past ≡ before ++ (x ∷ after) → ¬ Memᴰ x after
identities_once past before x after is = once_after before x after (subst Once is (all_once past))

-- ---- M touches nothing else that is stated

pub identify_alone : (x sort c static final : ℕ) (past : History)
    → ((d : ℕ) → super_of (states (M x sort c static final) ∷ past) d ≡ super_of past d)
    × ((h : Alive) → class_stated (states (M x sort c static final) ∷ past) h ≡ class_stated past h)
unfolding super_of class_stated makes
identify_alone x sort c static final past = (λ d. refl, λ h. refl)
