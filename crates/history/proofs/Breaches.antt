-- The breaches computed of a line are those of documents 01 and 02, after accepted lines. Assumes nothing.
use Rattle.std.proofs.lemmas.Option.{none-some}
use Prim.Native.Nat.{ℕ, suc, ◌<◌}
use mathlib.Core.Path.{◌≡◌, refl, sym, ap, ◌∙◌, subst, fun_ext}
use mathlib.Core.Logic.{◌⊎◌, inl, inr, ◌↔◌, ◌≢◌}
use mathlib.Core.Bool.{Bool, true, false, not, ◌&&◌, ◌||◌, false≢true, and-false}
use mathlib.Core.List.{List, [], ◌∷◌, Memᴰ}
use Rattle.std.specs.Prelude.{Option, None, Some}
use lib.Dec.{eqb, leb, ltb}
use lib.IntN.{ℤ, pos, negsuc}
use lib.ListN.{length}
use borrow.Author.Tests.{eqb-true, eqb-false, ne_eqb, lt-ltb, ltb-true, lt-leb, leb-false, not-true}
use Rattle.words.specs.Choice.{if_true◌then◌else◌}
use Rattle.words.specs.Lists.{count, sum}
use Rattle.facts.specs.Table.{fact_of, is_allowed_pending, is_allowed_critical}
use Rattle.facts.specs.Named.{PopLocalFrame, MonitorExit}
use Rattle.facts.specs.Classes.{no_class, class_a, class_b}
use Rattle.facts.specs.declared.Place.{Place}
use Rattle.facts.specs.declared.Result.{Result}
use Rattle.facts.specs.Results.{is_local_result}
use Rattle.lines.specs.Line.{Line, N, X, C, R, A, D, Z, states, above_zero}
use Rattle.history.specs.Past.{History}
use Rattle.history.specs.Frames.{frames, top_pushed, depth}
use Rattle.history.specs.Handles.{living, global_or_weak, alive_in}
use Rattle.history.specs.Capacities.{capacities}
use Rattle.history.specs.Buffers.{Pin, ordinary, critical, critical_of, outstanding}
use Rattle.history.specs.Thread.{pending, monitors, env_of, all_threads}
use Rattle.history.specs.Seen.{seen}
use Rattle.history.specs.Acceptance.{Room, everything}
use Rattle.history.specs.Accepted.{Accepted}
use Rattle.history.specs.Breaches.{when, place_rule, is_there, rule_here, value_at, rule_at, in_critical, exceeds, overflows, call_rule, some_of, end_rule, detach_rule, line_rule, is_rule, breach}
use Rattle.history.specs.Paper.{Outstanding, InCritical, Broken, at_a, at_b, at_c, at_result, other_env, not_allowed, called_in_critical, no_monitor, not_pushed, left_in_critical, detached_in_critical, detached_with_monitors, overflow, buffers_left, monitors_left, handles_left}
use Rattle.history.proofs.Tests.{and_left, and_right, all_three, true_not_false, eqb_self}
use Rattle.history.proofs.Counts.{member_counts, some_member, count_all}
use Rattle.history.proofs.Acts.{other_status_capacities}
use Rattle.history.proofs.Threads.{other_monitors}
use Rattle.history.proofs.OneMore.{one_more}
use Rattle.history.proofs.After.{end_living, end_outstanding}
use Rattle.history.proofs.Places.{place_is}

pub that_rule : (rule : ℕ) (o : Option ℕ) → is_rule rule o ≡ true → o ≡ Some rule
that_rule rule None h = absurd (false≢true h)
that_rule rule (Some r) h = rw (eqb-true rule r h)

module _ (room : Room) (past : History) (so_far : Accepted room past) where
  -- ---- critical regions

  critical_out : (t : ℕ) → (in_critical t (seen past) ≡ true) ↔ InCritical t past
  unfolding in_critical seen
  critical_out t = (
    λ e. of_member (some_member (critical_of t) (outstanding past) (ltb-true _ _ e)),
    λ k.
        lt-ltb 0 (count (critical_of t) (outstanding past))
        (member_counts (critical_of t) (outstanding past) (critical t k.family k.buffer) k.out (eqb_self t)),
  )
    where
      of_member : (x : Pin) × Memᴰ x (outstanding past) × (critical_of t x ≡ true) → InCritical t past
      of_member (ordinary k b, m, is) = absurd (false≢true is)
      of_member (critical s k b, m, is) = record { family = k; buffer = b; out = subst (λ (u : ℕ). Outstanding (critical u k b) past) (sym (eqb-true _ _ is)) m }

  outside : (f : ℕ) → (is_allowed_critical f ≡ false) ↔ ((f < 222) ⊎ (225 < f))
  unfolding is_allowed_critical
  outside f = (λ h. go (leb 222 f) refl (leb f 225) refl h, back)
    where
      go : (a : Bool) → leb 222 f ≡ a → (b : Bool) → leb f 225 ≡ b → ((a && b) || false) ≡ false → (f < 222) ⊎ (225 < f)
      go true ea true eb q = absurd (false≢true (sym q))
      go true ea false eb q = inr (leb-false _ _ eb)
      go false ea b eb q = inl (leb-false _ _ ea)

      back : (f < 222) ⊎ (225 < f) → is_allowed_critical f ≡ false
      back (inl h) = rw (lt-leb 222 f h)
      back (inr h) = rw (lt-leb f 225 h, and-false)

  -- ---- what is computed is right

  abbrev Right : Line → ℕ → ℕ → Option ℕ → Type 0
  Right e rule place None = Unit {0}
  Right e rule place (Some v) = Broken past e rule place v

  when_right : (e : Line) (rule place : ℕ) (b : Bool) (x : ℕ) → (b ≡ true → Broken past e rule place x) → Right e rule place (when b x)
  when_right e rule place true x h = h refl
  when_right e rule place false x h = tt

  if_right : (e : Line) (rule k : ℕ) (a b : Option ℕ) → (rule ≡ k → Right e rule 0 a) → Right e rule 0 b → Right e rule 0 (if_true eqb rule k then a else b)
  if_right e rule k a b x y = go (eqb rule k) refl
    where
      go : (q : Bool) → eqb rule k ≡ q → Right e rule 0 (if_true q then a else b)
      go true e = x (eqb-true _ _ e)
      go false e = y

  call_right : (t env f a b c rule : ℕ) (n : ℤ) → Right (C t env f a b c n) rule 0 (call_rule t env f (seen past) rule)
  unfolding call_rule seen
  call_right t env f a b c rule n =
      let e : Line = C t env f a b c n in
      if_right e rule 1 _ _
      (λ is. rw is (when_right e 1 0 (not (eqb env (env_of t past))) env (λ h. other_env t env f a b c n (eqb-false _ _ (not-true _ h)))))
      (if_right e rule 2 _ _
      (λ is. rw is (when_right e 2 0 (eqb (pending t past) 1 && not (is_allowed_pending f)) 0 (λ h.
      not_allowed t env f a b c n (eqb-true _ _ (and_left _ _ h))
      (not-true (is_allowed_pending f) (and_right (eqb (pending t past) 1) (not (is_allowed_pending f)) h)))))
      (if_right e rule 3 _ _
      (λ is. rw is (when_right e 3 0 (in_critical t (seen past) && not (is_allowed_critical f)) 0 (λ h.
      called_in_critical t env f a b c n ((critical_out t).0 (and_left _ _ h))
      ((outside f).0 (not-true (is_allowed_critical f) (and_right (in_critical t (seen past)) (not (is_allowed_critical f)) h))))))
      (if_right e rule 9 _ _
      (λ is. rw is (when_right e 9 0 (eqb f MonitorExit && eqb (monitors t past) 0) 0 (λ h.
      rw (eqb-true f MonitorExit (and_left (eqb f MonitorExit) (eqb (monitors t past) 0) h))
      (no_monitor t env a b c n (eqb-true (monitors t past) 0 (and_right (eqb f MonitorExit) (eqb (monitors t past) 0) h))))))
      (if_right e rule 11 _ _
      (λ is. rw is (when_right e 11 0 (eqb f PopLocalFrame && not (top_pushed (frames t past))) 0 (λ h.
      rw (eqb-true f PopLocalFrame (and_left (eqb f PopLocalFrame) (not (top_pushed (frames t past))) h))
      (not_pushed t env a b c n (not-true (top_pushed (frames t past)) (and_right (eqb f PopLocalFrame) (not (top_pushed (frames t past))) h))))))
      tt))))

  -- ---- Z

  left_buffers : count everything (outstanding past) ≡ length (outstanding (Z ∷ past))
  left_buffers = count_all (outstanding past) ∙ ap length (sym (end_outstanding past))

  left_monitors : sum (λ t. monitors t past) all_threads ≡ sum (λ t. monitors t (Z ∷ past)) all_threads
  left_monitors = ap (λ (f : ℕ → ℕ). sum f all_threads) (fun_ext λ t. sym (other_monitors t Z past refl))

  left_handles : count global_or_weak (living past) ≡ count global_or_weak (living (Z ∷ past))
  left_handles = ap (count global_or_weak) (sym (end_living past))

  end_right : (rule : ℕ) → Right Z rule 0 (end_rule (seen past) rule)
  unfolding end_rule seen
  end_right rule =
      let buffers : ℕ = count everything (outstanding past) in
      let held : ℕ = sum (λ t. monitors t past) all_threads in
      let handles : ℕ = count global_or_weak (living past) in
      if_right Z rule 8 _ _ (λ is. rw is (when_right Z 8 0 (ltb 0 buffers) buffers (λ h. buffers_left buffers left_buffers (ltb-true 0 buffers h))))
      (if_right Z rule 9 _ _ (λ is. rw is (when_right Z 9 0 (ltb 0 held) held (λ h. monitors_left held left_monitors (ltb-true 0 held h))))
      (if_right Z rule 10 _ _ (λ is. rw is (when_right Z 10 0 (ltb 0 handles) handles (λ h. handles_left handles left_handles (ltb-true 0 handles h)))) tt))

  above_top : (cs : List ℕ) (m : ℕ) → exceeds cs m ≡ true → (capacity : ℕ) × (lower : List ℕ) × (cs ≡ capacity ∷ lower) × (capacity < m)
  above_top [] m k = absurd (false≢true k)
  above_top (c ∷ cs) m k = (c, cs, refl, ltb-true _ _ k)

  local_result_is : (k : Result) → is_local_result k ≡ true → k ≡ Result.Local
  local_result_is Result.Local h = refl
  local_result_is Result.Global h = absurd (false≢true h)
  local_result_is Result.Weak h = absurd (false≢true h)
  local_result_is Result.Identity h = absurd (false≢true h)
  local_result_is Result.Buffer h = absurd (false≢true h)
  local_result_is Result.Status h = absurd (false≢true h)
  local_result_is Result.Nothing h = absurd (false≢true h)

  -- one more than are alive before the line is what is alive after it
  overflow_right : (t f h p : ℕ) → overflows t f h (seen past) ≡ true → Broken past (R t f (pos h) p) 11 0 h
  unfolding overflows seen alive_in depth
  overflow_right t f h p k =
      let (l, z, o) = all_three _ _ _ k in
      let is = local_result_is (fact_of f).result l in
      let nz = eqb-false _ _ (not-true _ z) in
      let (capacity, lower, cs, above) = above_top (capacities t past) (suc (alive_in t (depth t past) past)) o in
      overflow t f h p capacity lower is nz (other_status_capacities t f p (pos h) past (ne_eqb h 0 nz) ∙ cs)
      (subst (λ (n : ℕ). capacity < n) (sym (one_more t f h p past is nz)) above)

  null_fits : (t f : ℕ) → overflows t f 0 (seen past) ≡ false
  unfolding overflows
  null_fits t f = rw and-false

  return_right : (t f p rule : ℕ) (r : ℤ) → Right (R t f r p) rule 0 (when (eqb rule 11 && overflows t f (above_zero r) (seen past)) (above_zero r))
  return_right t f p rule (pos h) =
      when_right (R t f (pos h) p) rule 0 (eqb rule 11 && overflows t f h (seen past)) h (λ k.
      rw (eqb-true rule 11 (and_left (eqb rule 11) (overflows t f h (seen past)) k)) (overflow_right t f h p (and_right (eqb rule 11) (overflows t f h (seen past)) k)))
  return_right t f p rule (negsuc h) =
      when_right (R t f (negsuc h) p) rule 0 (eqb rule 11 && overflows t f 0 (seen past)) 0 (λ k.
      true_not_false (overflows t f 0 (seen past)) (and_right (eqb rule 11) (overflows t f 0 (seen past)) k) (null_fits t f))

  detach_right : (t rule : ℕ) → Right (D t) rule 0 (detach_rule t (seen past) rule)
  unfolding detach_rule seen
  detach_right t rule =
      let held : ℕ = monitors t past in
      if_right (D t) rule 3 _ _ (λ is. rw is (when_right (D t) 3 0 (in_critical t (seen past)) 0 (λ h. detached_in_critical t ((critical_out t).0 h))))
      (if_right (D t) rule 9 _ _ (λ is. rw is (when_right (D t) 9 0 (ltb 0 held) held (λ h. detached_with_monitors t held refl (ltb-true 0 held h)))) tt)

  line_right : (e : Line) (rule : ℕ) → Right e rule 0 (line_rule e (seen past) rule)
  unfolding line_rule
  line_right (N t env hs) rule = tt
  line_right (X t r) rule =
      when_right (X t r) rule 0 (eqb rule 3 && in_critical t (seen past)) 0 (λ h.
      rw (eqb-true rule 3 (and_left (eqb rule 3) (in_critical t (seen past)) h)) (left_in_critical t r ((critical_out t).0 (and_right (eqb rule 3) (in_critical t (seen past)) h))))
  line_right (C t env f a b c n) rule = call_right t env f a b c rule n
  line_right (R t f r p) rule = return_right t f p rule r
  line_right (A t env) rule = tt
  line_right (D t) rule = detach_right t rule
  line_right Z rule = end_right rule
  line_right (states s) rule = tt

  -- ---- places

  place_right : (e : Line) (rule place : ℕ) → rule_at e (seen past) place ≡ Some rule → Broken past e rule place (value_at e place)
  unfolding rule_at place_rule is_there
  place_right (N t env hs) rule place h = absurd (none-some rule h)
  place_right (X t r) rule place h = go (eqb place 1) refl h
    where
      go : (q : Bool) → eqb place 1 ≡ q → rule_here no_class (if_true q then Place.HandleOrNull else Place.Unused) t 0 r (seen past) ≡ Some rule → Broken past (X t r) rule place r
      go true e k = rw (eqb-true place 1 e) (at_result t r rule ((place_is room past so_far t 0 no_class Place.HandleOrNull r rule).0 k))
      go false e k = absurd (none-some rule k)
  place_right (C t env f a b c n) rule place h = go (eqb place 1) refl (eqb place 2) refl (eqb place 3) refl h
    where
      go : (x : Bool) → eqb place 1 ≡ x → (y : Bool) → eqb place 2 ≡ y → (z : Bool) → eqb place 3 ≡ z
          → rule_here (if_true x then class_a f else if_true y then class_b f else no_class) (if_true x then (fact_of f).a else if_true y then (fact_of f).b else if_true z then (fact_of f).c else Place.Unused) t f (if_true x then a else if_true y then b else c) (seen past) ≡ Some rule
          → Broken past (C t env f a b c n) rule place (if_true x then a else if_true y then b else c)
      go true e y ey z ez k = rw (eqb-true place 1 e) (at_a t env f a b c rule n ((place_is room past so_far t f (class_a f) (fact_of f).a a rule).0 k))
      go false e true ey z ez k = rw (eqb-true place 2 ey) (at_b t env f a b c rule n ((place_is room past so_far t f (class_b f) (fact_of f).b b rule).0 k))
      go false e false ey true ez k = rw (eqb-true place 3 ez) (at_c t env f a b c rule n ((place_is room past so_far t f no_class (fact_of f).c c rule).0 k))
      go false e false ey false ez k = absurd (none-some rule k)
  place_right (R t f r p) rule place h = absurd (none-some rule h)
  place_right (A t env) rule place h = absurd (none-some rule h)
  place_right (D t) rule place h = absurd (none-some rule h)
  place_right Z rule place h = absurd (none-some rule h)
  place_right (states s) rule place h = absurd (none-some rule h)

  breach_right : (e : Line) (rule place : ℕ) → Right e rule place (breach e (seen past) rule place)
  unfolding breach
  breach_right e rule place = go (eqb place 0) refl
    where
      go : (q : Bool) → eqb place 0 ≡ q → Right e rule place (if_true q then line_rule e (seen past) rule else when (is_rule rule (rule_at e (seen past) place)) (value_at e place))
      go true z = rw (eqb-true place 0 z) (line_right e rule)
      go false z = when_right e rule place (is_rule rule (rule_at e (seen past) place)) (value_at e place) (λ h. place_right e rule place (that_rule rule (rule_at e (seen past) place) h))

  -- ---- and each breach of document 01 is computed

  at_place : (rule v : ℕ) (o : Option ℕ) → o ≡ Some rule → when (is_rule rule o) v ≡ Some v
  at_place rule v o h = rw (h, eqb_self rule)

  overflow_computed : (t f h p capacity : ℕ) (lower : List ℕ) → (fact_of f).result ≡ Result.Local → h ≢ 0 → capacities t (R t f (pos h) p ∷ past) ≡ capacity ∷ lower
      → capacity < alive_in t (depth t (R t f (pos h) p ∷ past)) (R t f (pos h) p ∷ past) → overflows t f h (seen past) ≡ true
  unfolding overflows seen alive_in depth
  overflow_computed t f h p capacity lower is nz cs above =
      rw (is, ne_eqb h 0 nz, sym (other_status_capacities t f p (pos h) past (ne_eqb h 0 nz)) ∙ cs)
      (lt-ltb capacity (suc (alive_in t (depth t past) past)) (subst (λ (n : ℕ). capacity < n) (one_more t f h p past is nz) above))

  counted : (x k : ℕ) → k ≡ x → 0 < k → some_of x ≡ Some k
  counted x k e l = rw (sym e, lt-ltb 0 k l)

  computed : (e : Line) (rule place v : ℕ) → Broken past e rule place v → breach e (seen past) rule place ≡ Some v
  unfolding breach line_rule call_rule detach_rule end_rule rule_at seen
  computed _ _ _ _ (at_a t env f a b c rule n w) = at_place rule a (rule_here (class_a f) (fact_of f).a t f a (seen past)) ((place_is room past so_far t f (class_a f) (fact_of f).a a rule).1 w)
  computed _ _ _ _ (at_b t env f a b c rule n w) = at_place rule b (rule_here (class_b f) (fact_of f).b t f b (seen past)) ((place_is room past so_far t f (class_b f) (fact_of f).b b rule).1 w)
  computed _ _ _ _ (at_c t env f a b c rule n w) = at_place rule c (rule_here no_class (fact_of f).c t f c (seen past)) ((place_is room past so_far t f no_class (fact_of f).c c rule).1 w)
  computed _ _ _ _ (at_result t v rule w) = at_place rule v (rule_here no_class Place.HandleOrNull t 0 v (seen past)) ((place_is room past so_far t 0 no_class Place.HandleOrNull v rule).1 w)
  computed _ _ _ _ (other_env t env f a b c n d) = rw (ne_eqb env (env_of t past) d)
  computed _ _ _ _ (not_allowed t env f a b c n h k) = rw (h, k)
  computed _ _ _ _ (called_in_critical t env f a b c n h k) = rw ((critical_out t).1 h, (outside f).1 k)
  computed _ _ _ _ (no_monitor t env a b c n h) = rw h
  computed _ _ _ _ (not_pushed t env a b c n h) = rw h
  computed _ _ _ _ (left_in_critical t v h) = rw ((critical_out t).1 h)
  computed _ _ _ _ (detached_in_critical t h) = rw ((critical_out t).1 h)
  computed _ _ _ _ (detached_with_monitors t k e l) = counted (monitors t past) k e l
  computed _ _ _ _ (overflow t f h p capacity lower is nz cs above) = rw (overflow_computed t f h p capacity lower is nz cs above)
  computed _ _ _ _ (buffers_left k e l) = counted (count everything (outstanding past)) k (e ∙ sym left_buffers) l
  computed _ _ _ _ (monitors_left k e l) = counted (sum (λ t. monitors t past) all_threads) k (e ∙ sym left_monitors) l
  computed _ _ _ _ (handles_left k e l) = counted (count global_or_weak (living past)) k (e ∙ sym left_handles) l

-- what is computed of a line is what documents 01 and 02 say of it, and nothing besides
pub breaches_are : (room : Room) (past : History) → Accepted room past → (e : Line) (rule place thing : ℕ) → (breach e (seen past) rule place ≡ Some thing) ↔ Broken past e rule place thing
breaches_are room past so_far e rule place thing =
    (λ h. subst (λ (o : Option ℕ). Right room past so_far e rule place o) h (breach_right room past so_far e rule place), computed room past so_far e rule place thing)
