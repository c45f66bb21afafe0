-- The leaks of accepted lines: all that is outstanding and all globals and weaks alive, each with the line of the R that made it. Assumes nothing.
use Prim.Native.Nat.{ℕ, suc, ◌+◌, ◌≤◌, ◌<◌}
use mathlib.Core.Path.{◌≡◌, refl, sym, ap, subst, ◌∙◌, fun_ext}
use mathlib.Core.Logic.{◌↔◌}
use mathlib.Core.Bool.{Bool, true, false, not, ◌&&◌, and_comm, and-true, and-false, false≢true}
use mathlib.Core.List.Memᴰ
use mathlib.Core.List.{List, [], ◌∷◌, ◌++◌, map, Memᴰ}
use native.Mathlib.Omega.{arith}
use lib.Dec.{eqb, ltb}
use lib.ListN.{length, drop, length-append}
use borrow.Author.Tests.{eqb-true, ltb-true, lt-ltb, le-ltb, not-true}
use Rattle.words.specs.Choice.{if_true◌then◌else◌}
use Rattle.words.specs.Lists.{keep, count}
use Rattle.facts.specs.Table.{fact_of}
use Rattle.facts.specs.Results.{is_buffer_result}
use Rattle.facts.specs.declared.Result.{Result}
use Rattle.facts.specs.declared.Result.TheVariants as Result
use Rattle.lines.specs.Line.{Line, N, X, C, R, A, D, Z, states, above_zero}
use Rattle.rows.specs.Slots.{held, wipe, wipe_first}
use Rattle.history.specs.Past.{History, thread_of}
use Rattle.history.specs.Frames.{depth}
use Rattle.history.specs.Handles.{Alive, local, shared, result_made, makes, is_shared, global_or_weak, deletes, frame_gone, ends, living}
use Rattle.history.specs.Buffers.{Pin, pin, same_pin, gets, releases, outstanding}
use Rattle.history.specs.Lives.{Makes, global_result, weak_result, Lives, so_far as none_since}
use Rattle.history.specs.Times.{Gets, at_return}
use Rattle.history.specs.Paper.{Broken, buffers_left, handles_left}
use Rattle.history.specs.Leaks.{Made, Leak, made_at, by_what, buffer_leak, handle_leak, leaks_of}
use Rattle.history.specs.LeakOrder.{of_making_line, Ascending}
use Rattle.history.specs.Acceptance.{Room, everything}
use Rattle.history.specs.Accepted.{Accepted, at_start, and_line}
use Rattle.history.proofs.Tests.{either, whether, true_not_false, and_left, and_right, eqb_self}
use Rattle.history.proofs.Counts.{count_append, count_keep, count_all, count_le, but_first_is, member_counts, keep_member, map_member, but_first_member, count_map}
use Rattle.history.proofs.Living.{made_makes, lives_on, ends_it}
use Rattle.history.proofs.Once.{alive_once}
use Rattle.history.proofs.Buffers.{same_pin_self, gets_are}
use Rattle.history.proofs.LeakOrder.{count_by_line, member_by_line, in_order, ascending}
use Rattle.demands.specs.PastRows.{reference_rows, pin_rows}
use Rattle.demands.specs.Leaks.{leaks}
use Rattle.demands.specs.Leaked.{Leaked, buffer_left, handle_left, LineOfR, by_R, of_rule, is_leak, is_owned}
use Rattle.demands.proofs.Slots.{held_put_or_add_all, member_put_or_add_all, held_wipe, held_wipe_first}
use Rattle.demands.proofs.PastRows.{count_none, one_deleted, rows_hold, rows_hold_next, pin_rows_hold}
use Rattle.demands.proofs.Changed.{but_first_less}

-- ---- which line made it

-- a line got this buffer, and that line's number is its making line
record GotAt (y : Made Pin) (past : History) : Type 0 where
  newer : History
  older : History
  maker : Line
  split : past ≡ newer ++ (maker ∷ older)
  got : Gets maker y.what
  number : y.line ≡ suc (length older)
  ever : (later since : History) → newer ≡ later ++ since → 0 < count (same_pin y.what) (outstanding (since ++ (maker ∷ older)))

-- it is outstanding
out_now : (past : History) (y : Made Pin) → Memᴰ y (held (pin_rows past)) → 0 < count (same_pin y.what) (outstanding past)
out_now past y i =
    omega (arith, pin_rows_hold past (same_pin y.what), member_counts (by_what (same_pin y.what)) (held (pin_rows past)) y i (same_pin_self y.what))

got_at : (past : History) (y : Made Pin) → Memᴰ y (held (pin_rows past)) → GotAt y past
unfolding pin_rows
got_at [] y m = absurd (Memᴰ.not-nil m)
got_at (e ∷ past) y m =
    either (member_put_or_add_all (map (made_at (suc (length past))) (gets e)) (wipe_first (by_what (releases e)) (pin_rows past)) m) new
    (λ k. old (got_at past y (but_first_member (by_what (releases e)) (held (pin_rows past)) (subst (Memᴰ y) (held_wipe_first (by_what (releases e)) (pin_rows past)) k))))
  where
    new : Memᴰ y (map (made_at (suc (length past))) (gets e)) → GotAt y (e ∷ past)
    new k =
        let (x, i, is) = map_member (made_at (suc (length past))) (gets e) k in
        record { newer = []; older = past; maker = e; split = refl; got = rw (ap (λ (z : Made Pin). z.what) is) ((gets_are e x).0 i); number = ap (λ (z : Made Pin). z.line) is; ever = none_later }
      where
        none_later : (later since : History) → [] ≡ later ++ since → 0 < count (same_pin y.what) (outstanding (since ++ (e ∷ past)))
        none_later [] since is = subst (λ (h : History). 0 < count (same_pin y.what) (outstanding (h ++ (e ∷ past)))) is (out_now (e ∷ past) y m)
        none_later (d ∷ later) since is = absurd (omega (arith, ap length is, length-append later since))

    old : GotAt y past → GotAt y (e ∷ past)
    old g =
        record { newer = e ∷ g.newer; older = g.older; maker = g.maker; split = ap (λ (h : History). e ∷ h) g.split; got = g.got; number = g.number; ever = still }
      where
        still : (later since : History) → e ∷ g.newer ≡ later ++ since → 0 < count (same_pin y.what) (outstanding (since ++ (g.maker ∷ g.older)))
        still [] since is =
            subst (λ (h : History). 0 < count (same_pin y.what) (outstanding (h ++ (g.maker ∷ g.older)))) is
            (subst (λ (h : History). 0 < count (same_pin y.what) (outstanding (e ∷ h))) g.split (out_now (e ∷ past) y m))
        still (d ∷ later) since is = g.ever later since (ap (drop 1) is)

-- the handle lives, and the number of the line that made it is its making line
record LivesAt (y : Made Alive) (past : History) : Type 0 where
  lives : Lives y.what past
  number : y.line ≡ suc (length lives.older)

-- the rows that a line leaves
left_rows : (room : Room) (past : History) → Accepted room past → (e : Line)
    → held (wipe (by_what (frame_gone (e ∷ past))) (wipe_first (by_what (deletes e)) (reference_rows past)))
    ≡ keep (λ x. not (frame_gone (e ∷ past) x.what)) (keep (λ x. not (deletes e x.what)) (held (reference_rows past)))
left_rows room past so_far e =
    held_wipe (by_what (frame_gone (e ∷ past))) (wipe_first (by_what (deletes e)) (reference_rows past))
    ∙ ap (keep (λ x. not (frame_gone (e ∷ past) x.what)))
    (held_wipe_first (by_what (deletes e)) (reference_rows past)
    ∙ but_first_is (by_what (deletes e)) (held (reference_rows past))
    (omega (arith, rows_hold room past so_far (deletes e), one_deleted e (living past) (alive_once room past so_far))))

lives_at : (room : Room) (past : History) → Accepted room past → (y : Made Alive) → Memᴰ y (held (reference_rows past)) → LivesAt y past
unfolding reference_rows lives_on
lives_at room [] at_start y m = absurd (Memᴰ.not-nil m)
lives_at room (e ∷ past) (and_line _ _ few fine no_refusal so_far) y m =
    either (member_put_or_add_all (map (made_at (suc (length past))) (makes e (depth (thread_of e) past))) (wipe (by_what (frame_gone (e ∷ past))) (wipe_first (by_what (deletes e)) (reference_rows past))) m) new
    (λ k. old (subst (Memᴰ y) (left_rows room past so_far e) k) (lives_at room past so_far y))
  where
    new : Memᴰ y (map (made_at (suc (length past))) (makes e (depth (thread_of e) past))) → LivesAt y (e ∷ past)
    new k =
        let (x, i, is) = map_member (made_at (suc (length past))) (makes e (depth (thread_of e) past)) k in
        record {
          lives = record { newer = []; maker = e; older = past; split = refl; made = rw (ap (λ (z : Made Alive). z.what) is) (made_makes past e x i); spared = none_since };
          number = ap (λ (z : Made Alive). z.line) is;
        }

    old : Memᴰ y (keep (λ x. not (frame_gone (e ∷ past) x.what)) (keep (λ x. not (deletes e x.what)) (held (reference_rows past))))
        → (Memᴰ y (held (reference_rows past)) → LivesAt y past) → LivesAt y (e ∷ past)
    old k ih =
        let (i, stands) = keep_member (λ x. not (frame_gone (e ∷ past) x.what)) (keep (λ x. not (deletes e x.what)) (held (reference_rows past))) k in
        let (j, kept) = keep_member (λ x. not (deletes e x.what)) (held (reference_rows past)) i in
        let before = ih j in
        record {
          lives = lives_on e past y.what (λ d. true_not_false (ends e past y.what) (ends_it past e y.what d) (spared_by (not-true _ kept) (not-true _ stands))) before.lives;
          number = before.number;
        }
      where
        spared_by : deletes e y.what ≡ false → frame_gone (e ∷ past) y.what ≡ false → ends e past y.what ≡ false
        spared_by a b = unfold ends in rw (a, b)

-- ---- no two of one line

-- rows made by line n of what passes a test
abbrev made_in : {A : Type 0} → ℕ → (A → Bool) → Made A → Bool
made_in n test y = eqb y.line n && test y.what

-- rows made after line n
abbrev made_after : {A : Type 0} → ℕ → Made A → Bool
made_after n y = ltb n y.line

-- whatever rows are counted by, a line adds none but those that it makes
pins_grow : (past : History) (e : Line) (q : Made Pin → Bool)
    → count q (held (pin_rows (e ∷ past))) ≤ count q (map (made_at (suc (length past))) (gets e)) + count q (held (pin_rows past))
unfolding pin_rows
pins_grow past e q =
    let released = by_what (releases e) in
    omega (
      arith,
      held_put_or_add_all q (map (made_at (suc (length past))) (gets e)) (wipe_first released (pin_rows past)),
      ap (count q) (held_wipe_first released (pin_rows past)),
      but_first_less q released (held (pin_rows past)),
    )

rows_grow : (past : History) (e : Line) (q : Made Alive → Bool)
    → count q (held (reference_rows (e ∷ past))) ≤ count q (map (made_at (suc (length past))) (makes e (depth (thread_of e) past))) + count q (held (reference_rows past))
unfolding reference_rows
rows_grow past e q =
    let gone = by_what (frame_gone (e ∷ past)) in
    let deleted = by_what (deletes e) in
    let old = wipe_first deleted (reference_rows past) in
    omega (
      arith,
      held_put_or_add_all q (map (made_at (suc (length past))) (makes e (depth (thread_of e) past))) (wipe gone old),
      ap (count q) (held_wipe gone old),
      count_keep q (λ x. not (gone x)) (held old),
      count_le (λ x. not (gone x) && q x) q (λ x h. and_right (not (gone x)) (q x) h) (held old),
      ap (count q) (held_wipe_first deleted (reference_rows past)),
      but_first_less q deleted (held (reference_rows past)),
    )

module _ {A : Type 0} where
  -- what a line makes is made in that line, and in no other
  made_then : (n : ℕ) (test : A → Bool) (l : List A) → count (made_in n test) (map (made_at n) l) ≡ count test l
  made_then n test l = count_map (made_in n test) (made_at n) l ∙ ap (λ (b : Bool). count (λ (x : A). b && test x) l) (eqb_self n)

  made_elsewhen : (n m : ℕ) (test : A → Bool) (l : List A) → eqb m n ≡ false → count (made_in n test) (map (made_at m) l) ≡ 0
  made_elsewhen n m test l other = count_map (made_in n test) (made_at m) l ∙ ap (λ (b : Bool). count (λ (x : A). b && test x) l) other ∙ count_none l

  none_after : (n : ℕ) (l : List A) → count (made_after n) (map (made_at n) l) ≡ 0
  none_after n l = count_map (made_after n) (made_at n) l ∙ ap (λ (b : Bool). count (λ (x : A). b) l) (le-ltb n n (omega arith)) ∙ count_none l

  later : (n : ℕ) (y : Made A) → made_after (suc n) y ≡ true → made_after n y ≡ true
  later n y h = lt-ltb n y.line (omega (arith, ltb-true (suc n) y.line h))

  in_time : (n : ℕ) (test : A → Bool) (y : Made A) → made_in (suc n) test y ≡ true → made_after n y ≡ true
  in_time n test y h = lt-ltb n y.line (omega (arith, eqb-true y.line (suc n) (and_left (eqb y.line (suc n)) (test y.what) h)))

-- no row is of a line to come
pins_past : (past : History) → count (made_after (length past)) (held (pin_rows past)) ≡ 0
pins_past [] = unfold pin_rows in refl
pins_past (e ∷ past) =
    omega (
      arith,
      pins_grow past e (made_after (suc (length past))),
      none_after (suc (length past)) (gets e),
      count_le (made_after (suc (length past))) (made_after (length past)) (later (length past)) (held (pin_rows past)),
      pins_past past,
    )

rows_past : (past : History) → count (made_after (length past)) (held (reference_rows past)) ≡ 0
rows_past [] = unfold reference_rows in refl
rows_past (e ∷ past) =
    omega (
      arith,
      rows_grow past e (made_after (suc (length past))),
      none_after (suc (length past)) (makes e (depth (thread_of e) past)),
      count_le (made_after (suc (length past))) (made_after (length past)) (later (length past)) (held (reference_rows past)),
      rows_past past,
    )

-- a line makes one leak at most
one_made : (e : Line) (d : ℕ) → count everything (gets e) + count global_or_weak (makes e d) ≤ 1
unfolding gets makes
one_made (N t env hs) d = omega (arith, locals hs)
  where
    locals : (hs : List ℕ) → count global_or_weak (map (local t (suc d)) hs) ≡ 0
    locals hs = count_map global_or_weak (local t (suc d)) hs ∙ count_none hs
one_made (X t r) d = omega arith
one_made (C t env f a b c n) d = omega arith
one_made (R t f r p) d = go (fact_of f).result (eqb (above_zero r) 0)
  where
    go : (k : Result) (null : Bool)
        → count everything (if_true is_buffer_result k && not null then pin t f (above_zero r) ∷ [] else []) + count global_or_weak (if_true null then [] else result_made k t d (above_zero r)) ≤ 1
    go Result.Local true = omega arith
    go Result.Local false = omega arith
    go Result.Global true = omega arith
    go Result.Global false = omega arith
    go Result.Weak true = omega arith
    go Result.Weak false = omega arith
    go Result.Identity true = omega arith
    go Result.Identity false = omega arith
    go Result.Buffer true = omega arith
    go Result.Buffer false = omega arith
    go Result.Status true = omega arith
    go Result.Status false = omega arith
    go Result.Nothing true = omega arith
    go Result.Nothing false = omega arith
one_made (A t env) d = omega arith
one_made (D t) d = omega arith
one_made Z d = omega arith
one_made (states s) d = omega arith

one_a_line : (past : History) (n : ℕ) → count (made_in n everything) (held (pin_rows past)) + count (made_in n global_or_weak) (held (reference_rows past)) ≤ 1
one_a_line [] n = unfold pin_rows reference_rows in omega arith
one_a_line (e ∷ past) n = whether (eqb (suc (length past)) n) this (another (one_a_line past n))
  where
    made : List Alive
    made = makes e (depth (thread_of e) past)

    -- made by this line: none before it
    this : eqb (suc (length past)) n ≡ true → count (made_in n everything) (held (pin_rows (e ∷ past))) + count (made_in n global_or_weak) (held (reference_rows (e ∷ past))) ≤ 1
    this is =
        rw (← eqb-true (suc (length past)) n is)
        (omega (
          arith,
          pins_grow past e (made_in (suc (length past)) everything),
          rows_grow past e (made_in (suc (length past)) global_or_weak),
          made_then (suc (length past)) everything (gets e),
          made_then (suc (length past)) global_or_weak made,
          one_made e (depth (thread_of e) past),
          count_le (made_in (suc (length past)) everything) (made_after (length past)) (in_time (length past) everything) (held (pin_rows past)),
          pins_past past,
          count_le (made_in (suc (length past)) global_or_weak) (made_after (length past)) (in_time (length past) global_or_weak) (held (reference_rows past)),
          rows_past past,
        ))

    -- made before it
    another : count (made_in n everything) (held (pin_rows past)) + count (made_in n global_or_weak) (held (reference_rows past)) ≤ 1 → eqb (suc (length past)) n ≡ false → count (made_in n everything) (held (pin_rows (e ∷ past))) + count (made_in n global_or_weak) (held (reference_rows (e ∷ past))) ≤ 1
    another before other =
        omega (
          arith,
          pins_grow past e (made_in n everything),
          rows_grow past e (made_in n global_or_weak),
          made_elsewhen n (suc (length past)) everything (gets e) other,
          made_elsewhen n (suc (length past)) global_or_weak made other,
          before,
        )

-- ---- how many leaks pass a test

counted : (f : Leak → Bool) (past : History)
    → count f (leaks past) ≡ count (λ x. f (buffer_leak x)) (held (pin_rows past)) + count (λ x. global_or_weak x.what && f (handle_leak x)) (held (reference_rows past))
unfolding leaks leaks_of
counted f past =
    let ps = held (pin_rows past) in
    let hs = held (reference_rows past) in
    let shared_ones = keep (by_what global_or_weak) hs in
    omega (
      arith,
      count_by_line f (map buffer_leak ps ++ map handle_leak shared_ones),
      count_append f (map buffer_leak ps) (map handle_leak shared_ones),
      count_map f buffer_leak ps,
      count_map f handle_leak shared_ones,
      count_keep (λ x. f (handle_leak x)) (by_what global_or_weak) hs,
    )

pub leaks_ascend : (past : History) → Ascending (leaks past)
unfolding leaks leaks_of
leaks_ascend past = ascending (leaks past) (in_order (map buffer_leak (held (pin_rows past)) ++ map handle_leak (keep (by_what global_or_weak) (held (reference_rows past))))) single
  where
    single : (n : ℕ) → count (of_making_line n) (leaks past) ≤ 1
    single n =
        omega (
          arith,
          counted (of_making_line n) past,
          ap (λ (q : Made Pin → Bool). count q (held (pin_rows past))) (fun_ext λ (x : Made Pin). sym (and-true (eqb x.line n))),
          ap (λ (q : Made Alive → Bool). count q (held (reference_rows past))) (fun_ext λ (x : Made Alive). and_comm (global_or_weak x.what) (eqb x.line n)),
          one_a_line past n,
        )

-- ---- each of what is outstanding and alive

pub buffers_are_listed : (past : History) (t b : ℕ) → count (is_leak 8 t b) (leaks past) ≡ count (is_owned t b) (outstanding past)
buffers_are_listed past t b =
    omega (
      arith,
      counted (is_leak 8 t b) past,
      pin_rows_hold past (is_owned t b),
      ap (λ (q : Made Alive → Bool). count q (held (reference_rows past))) (fun_ext λ (x : Made Alive). and-false (global_or_weak x.what)),
      count_none (held (reference_rows past)),
    )

is_shared_one : (h : ℕ) (x : Alive) → (global_or_weak x && is_leak 10 0 h (handle_leak (made_at 0 x))) ≡ is_shared h x
is_shared_one h (local t d g) = refl
is_shared_one h (shared g) = refl

pub handles_are_listed : (room : Room) (past : History) → Accepted room past → (h : ℕ) → count (is_leak 10 0 h) (leaks past) ≡ count (is_shared h) (living past)
handles_are_listed room past so_far h =
    omega (
      arith,
      counted (is_leak 10 0 h) past,
      count_none (held (pin_rows past)),
      ap (λ (q : Made Alive → Bool). count q (held (reference_rows past))) (fun_ext λ (x : Made Alive). is_shared_one h x.what),
      rows_hold room past so_far (is_shared h),
    )

-- ---- nothing besides

pub each_is_leaked : (room : Room) (past : History) → Accepted room past → (x : Leak) → Memᴰ x (leaks past) → Leaked past x
unfolding leaks leaks_of
each_is_leaked room past so_far x m =
    either (Memᴰ.append_cases (map buffer_leak (held (pin_rows past))) (member_by_line (map buffer_leak (held (pin_rows past)) ++ map handle_leak (keep (by_what global_or_weak) (held (reference_rows past)))) m)) buffer handle
  where
    of_buffer : (y : Made Pin) → Memᴰ y (held (pin_rows past)) → GotAt y past → Leaked past (buffer_leak y)
    of_buffer y i g =
        rw g.number
        (buffer_left y.what g.newer g.older g.maker g.split g.got g.ever)

    buffer : Memᴰ x (map buffer_leak (held (pin_rows past))) → Leaked past x
    buffer k = let (y, i, is) = map_member buffer_leak (held (pin_rows past)) k in rw is (of_buffer y i (got_at past y i))

    of_handle : (n : ℕ) (z : Alive) → global_or_weak z ≡ true → (l : Lives z past) → n ≡ suc (length l.older) → Leaked past (handle_leak (made_at n z))
    of_handle n (local t d h) s l is = absurd (false≢true s)
    of_handle n (shared h) s l is = rw is (handle_left h l)

    handle : Memᴰ x (map handle_leak (keep (by_what global_or_weak) (held (reference_rows past)))) → Leaked past x
    handle k =
        let (y, i, is) = map_member handle_leak (keep (by_what global_or_weak) (held (reference_rows past))) k in
        let (j, s) = keep_member (by_what global_or_weak) (held (reference_rows past)) i in
        let l = lives_at room past so_far y j in
        rw is (of_handle y.line y.what s l.lives l.number)

pub leaked_by_R : (past : History) (x : Leak) → Leaked past x → LineOfR x.line past
leaked_by_R past _ (buffer_left _ newer older _ split (at_return t f b p is nz) out) = by_R newer older t f p _ split refl
leaked_by_R past _ (handle_left h alive) = go alive.maker alive.made alive.split
  where
    go : (e : Line) → Makes alive.older e (shared h) → past ≡ alive.newer ++ (e ∷ alive.older) → LineOfR (suc (length alive.older)) past
    go _ (global_result t f _ p is nz) split = by_R alive.newer alive.older t f p _ split refl
    go _ (weak_result t f _ p is nz) split = by_R alive.newer alive.older t f p _ split refl

-- ---- Z counts them

pub buffers_are_counted : (past : History) (k : ℕ) → Broken past Z 8 0 k ↔ ((k ≡ count (of_rule 8) (leaks (Z ∷ past))) × (0 < k))
buffers_are_counted past k = (there, λ (is, some). buffers_left k (is ∙ many) some)
  where
    many : count (of_rule 8) (leaks (Z ∷ past)) ≡ length (outstanding (Z ∷ past))
    many =
        omega (
          arith,
          counted (of_rule 8) (Z ∷ past),
          pin_rows_hold (Z ∷ past) everything,
          count_all (outstanding (Z ∷ past)),
          ap (λ (q : Made Alive → Bool). count q (held (reference_rows (Z ∷ past)))) (fun_ext λ (x : Made Alive). and-false (global_or_weak x.what)),
          count_none (held (reference_rows (Z ∷ past))),
        )

    there : Broken past Z 8 0 k → (k ≡ count (of_rule 8) (leaks (Z ∷ past))) × (0 < k)
    there (buffers_left _ is some) = (is ∙ sym many, some)

pub handles_are_counted : (room : Room) (past : History) → Accepted room past → (k : ℕ) → Broken past Z 10 0 k ↔ ((k ≡ count (of_rule 10) (leaks (Z ∷ past))) × (0 < k))
handles_are_counted room past so_far k = (there, λ (is, some). handles_left k (is ∙ many) some)
  where
    many : count (of_rule 10) (leaks (Z ∷ past)) ≡ count global_or_weak (living (Z ∷ past))
    many =
        omega (
          arith,
          counted (of_rule 10) (Z ∷ past),
          count_none (held (pin_rows (Z ∷ past))),
          rows_hold_next room past so_far Z global_or_weak,
          ap (λ (q : Made Alive → Bool). count q (held (reference_rows (Z ∷ past)))) (fun_ext λ (x : Made Alive). and-true (global_or_weak x.what)),
        )

    there : Broken past Z 10 0 k → (k ≡ count (of_rule 10) (leaks (Z ∷ past))) × (0 < k)
    there (handles_left _ is some) = (is ∙ sym many, some)
