-- What the code answers to a line of each event, and leaves, is its outcome. Assumes nothing.
use Prim.Native.Nat.{ℕ}
use mathlib.Core.Path.{◌≡◌, refl, sym, ap, ap₂, ◌∙◌}
use mathlib.Core.Bool.{Bool, true, false, not}
use mathlib.Core.List.{List, []}
use Rattle.std.specs.Prelude.{Option, Result, Ok, Err, ⊤}
use native.Mathlib.Omega.{arith}
use borrow.Author.Tests.{not-true, not-false}
use lib.IntN.{ℤ}
use Rattle.words.specs.Choice.{if_true◌then◌else◌}
use Rattle.facts.specs.declared.Result.{Result as Given}
use Rattle.lines.specs.Line.{Statement, N, X, C, R, A, D, Z, K, O, M, states, is_zero}
use Rattle.lines.specs.Events.{result_in_line}
use Rattle.lines.specs.Numbered.{passes}
use Rattle.lines.specs.declared.refusal.Refusal.{Refusal}
use Rattle.history.specs.Items.{Item, asked}
use Rattle.history.specs.Seen.{Seen}
use Rattle.history.specs.Breaches.{place_rule, rule_at, line_rule, breach}
use Rattle.history.specs.Findings.{of_line}
use Rattle.book.specs.Threads.{closed_in}
use Rattle.answers.specs.declared.Findings.{Findings}
use Rattle.answers.specs.Answer.{Answer, findings_of}
use Rattle.answers.specs.Listed.{listed}
use Rattle.answers.proofs.OfLine.{enter_listed, attach_listed}
use Rattle.tables.specs.Tables.{Tables, seen_in}
use Rattle.tables.specs.Weighing.{refusal_in}
use Rattle.tables.specs.Acting.{acted}
use Rattle.sight.specs.declared.enter.EnterSight.{EnterSight}
use Rattle.sight.specs.declared.leave.LeaveSight.{LeaveSight}
use Rattle.sight.specs.declared.detach.DetachSight.{DetachSight}
use Rattle.sight.specs.declared.call.CallSight.{CallSight}
use Rattle.sight.specs.declared.returns.ReturnSight.{ReturnSight}
use Rattle.sight.specs.declared.end.EndSight.{EndSight}
use Rattle.sight.specs.declared.declare.DeclareSight.{DeclareSight}
use Rattle.sight.specs.declared.state.StateSight.{StateSight}
use Rattle.sight.specs.declared.identify.IdentifySight.{IdentifySight}
use Rattle.sight.specs.Sights.{enter_sight, leave_sight, call_sight, detach_sight, end_sight, declare_sight, state_sight, identify_sight}
use Rattle.sight.specs.Returns.{return_sight}
use Rattle.sight.proofs.RowLaws.{deleted_row, released_row, place_told, stated_row}
use Rattle.sight.proofs.ReturnLaws.{handle_row, buffer_row, kind_told}
use Rattle.weigh.specs.Enter.{enter_turn, enter_refusal}
use Rattle.weigh.specs.Leave.{leave_refusal, judged_leave}
use Rattle.weigh.specs.Attach.{attach_turn}
use Rattle.weigh.specs.Detach.{detach_refusal, found_detach}
use Rattle.weigh.specs.Call.{call_refusal, judged_call}
use Rattle.weigh.specs.Returns.{return_turn, return_refusal, found_return}
use Rattle.weigh.specs.End.{found_end}
use Rattle.weigh.specs.Declare.{declare_refusal}
use Rattle.weigh.specs.State.{state_refusal}
use Rattle.weigh.specs.Identify.{identify_refusal}
use Rattle.weigh.proofs.Refused.{enter_told, attach_told, leave_told, detach_told, call_told, end_told, declare_told, state_told, identify_told}
use Rattle.weigh.proofs.ReturnRefused.{return_told}
use Rattle.weigh.proofs.Found.{leave_found, detach_found, call_found, return_found, end_found}
use Rattle.act.specs.Calls.{called}
use Rattle.act.specs.Returns.{returned}
use Rattle.act.specs.Statements.{stated, identified}
use Rattle.act.proofs.Whole.{attached}
use Rattle.act.proofs.Calling.{called_is_acted}
use Rattle.act.proofs.Returning.{returned_is_acted}
use Rattle.act.proofs.Stating.{stated_is_acted, identified_is_acted}
use Rattle.events.specs.Outcome.{leaves, line_outcome}
use Rattle.events.proofs.Outcomes.{stopped, passed, stays, goes}

-- a line that is not in turn is given 4, another what its sight says
in_turn : (turn : Bool) (k n : ℕ) → turn ≡ true → k ≡ n → k ≡ (if_true turn then n else 4)
in_turn turn k n y e = rw y e

out_of_turn : (turn : Bool) (n : ℕ) → turn ≡ false → 4 ≡ (if_true turn then n else 4)
out_of_turn turn n y = rw y refl

-- ---- N

module _ (T : Tables) (top : Option Item) (many t env : ℕ) (hs : List ℕ) (line : ℕ) (closed x : Bool) (ec : closed ≡ closed_in T.book) (ex : x ≡ enter_turn closed top) where
  enter_is : (b : Bool) → x ≡ b → enter_turn (closed_in T.book) top ≡ b
  enter_is b q = sym (ex ∙ ap (λ (o : Bool). enter_turn o top) ec) ∙ q

  pub enter_out : not x ≡ true → leaves (Err Refusal.OutOfStep) T ≡ line_outcome line (N t env hs) top many T
  enter_out n =
      stays line (N t env hs) top many T (Err Refusal.OutOfStep) 4
      (out_of_turn (enter_turn (closed_in T.book) top) _ (enter_is false (not-true x n)) ∙ sym (enter_told T top many t env hs))
      (λ z. omega (arith, z))
      refl

  module _ (v : EnterSight) (said : Result ⊤ Refusal) (n : not x ≡ false) (ev : v ≡ enter_sight T t env hs) (er : said ≡ passes (enter_refusal many env hs v)) where
    enter_number : enter_refusal many env hs v ≡ refusal_in (N t env hs) top many T
    enter_number =
        in_turn (enter_turn (closed_in T.book) top) (enter_refusal many env hs v) _ (enter_is true (not-false x n)) (ap (enter_refusal many env hs) ev)
        ∙ sym (enter_told T top many t env hs)

    pub enter_stays : (y : Answer) (k : Refusal) → said ≡ Err k → y ≡ Err k → leaves y T ≡ line_outcome line (N t env hs) top many T
    enter_stays y k met ey = let q = stopped (enter_refusal many env hs v) er met in stays line (N t env hs) top many T y (enter_refusal many env hs v) enter_number q.0 (ey ∙ sym q.1)

    pub enter_goes : (y : Findings) (S : Tables) {u : ⊤} → said ≡ Ok u → y ≡ findings_of [] → ((i : ℕ) → S ≡ acted line (N t env hs) i T)
        → leaves (Ok y) S ≡ line_outcome line (N t env hs) top many T
    enter_goes y S z ey es =
        goes line (N t env hs) top many T (Ok y) [] S (sym enter_number ∙ passed (enter_refusal many env hs v) er z) (ap (λ (w : Findings). Ok w) ey) (sym (enter_listed line t env hs (seen_in T))) (es (asked top))

-- ---- A

module _ (T : Tables) (top : Option Item) (many t env line : ℕ) (closed x : Bool) (ec : closed ≡ closed_in T.book) (ex : x ≡ attach_turn closed top) where
  attach_is : (b : Bool) → x ≡ b → attach_turn (closed_in T.book) top ≡ b
  attach_is b q = sym (ex ∙ ap (λ (o : Bool). attach_turn o top) ec) ∙ q

  pub attach_out : not x ≡ true → leaves (Err Refusal.OutOfStep) T ≡ line_outcome line (A t env) top many T
  attach_out n =
      stays line (A t env) top many T (Err Refusal.OutOfStep) 4
      (out_of_turn (attach_turn (closed_in T.book) top) _ (attach_is false (not-true x n)) ∙ sym (attach_told T top many t env))
      (λ z. omega (arith, z))
      refl

  module _ (v : EnterSight) (said : Result ⊤ Refusal) (n : not x ≡ false) (ev : v ≡ enter_sight T t env []) (er : said ≡ passes (enter_refusal many env [] v)) where
    attach_number : enter_refusal many env [] v ≡ refusal_in (A t env) top many T
    attach_number =
        in_turn (attach_turn (closed_in T.book) top) (enter_refusal many env [] v) _ (attach_is true (not-false x n)) (ap (enter_refusal many env []) ev)
        ∙ sym (attach_told T top many t env)

    pub attach_stays : (y : Answer) (k : Refusal) → said ≡ Err k → y ≡ Err k → leaves y T ≡ line_outcome line (A t env) top many T
    attach_stays y k met ey = let q = stopped (enter_refusal many env [] v) er met in stays line (A t env) top many T y (enter_refusal many env [] v) attach_number q.0 (ey ∙ sym q.1)

    pub attach_goes : (y : Findings) (S : Tables) {u : ⊤} → said ≡ Ok u → y ≡ findings_of [] → ((i : ℕ) → S ≡ acted line (N t env []) i T)
        → leaves (Ok y) S ≡ line_outcome line (A t env) top many T
    attach_goes y S z ey es =
        goes line (A t env) top many T (Ok y) [] S (sym attach_number ∙ passed (enter_refusal many env [] v) er z) (ap (λ (w : Findings). Ok w) ey) (sym (attach_listed line t env (seen_in T))) (es (asked top) ∙ attached line (asked top) t env T)

-- ---- X

module _ (T : Tables) (top : Option Item) (many t r line : ℕ) (closed : Bool) (said : Result ⊤ Refusal) (ec : closed ≡ closed_in T.book) (er : said ≡ passes (leave_refusal closed top)) where
  leave_number : leave_refusal closed top ≡ refusal_in (X t r) top many T
  leave_number = ap (λ (o : Bool). leave_refusal o top) ec ∙ sym (leave_told T top many t r)

  pub leave_stays : (y : Answer) (k : Refusal) → said ≡ Err k → y ≡ Err k → leaves y T ≡ line_outcome line (X t r) top many T
  leave_stays y k met ey = let q = stopped (leave_refusal closed top) er met in stays line (X t r) top many T y (leave_refusal closed top) leave_number q.0 (ey ∙ sym q.1)

  pub leave_goes : (v : LeaveSight) (y : Findings) (S : Tables) {u : ⊤} → said ≡ Ok u → v ≡ leave_sight T t r → ((i : ℕ) → S ≡ acted line (X t r) i T)
      → y ≡ findings_of (listed (judged_leave line r v)) → leaves (Ok y) S ≡ line_outcome line (X t r) top many T
  leave_goes v y S z ev es ey =
      goes line (X t r) top many T (Ok y) _ S (sym leave_number ∙ passed (leave_refusal closed top) er z) (ap (λ (w : Findings). Ok w) ey)
      (ap (λ (u : LeaveSight). listed (judged_leave line r u)) ev ∙ leave_found T line t r)
      (es (asked top))

-- ---- D

module _ (T : Tables) (top : Option Item) (many t line : ℕ) (closed : Bool) (said : Result ⊤ Refusal) (ec : closed ≡ closed_in T.book) (er : said ≡ passes (detach_refusal closed top)) where
  detach_number : detach_refusal closed top ≡ refusal_in (D t) top many T
  detach_number = ap (λ (o : Bool). detach_refusal o top) ec ∙ sym (detach_told T top many t)

  pub detach_stays : (y : Answer) (k : Refusal) → said ≡ Err k → y ≡ Err k → leaves y T ≡ line_outcome line (D t) top many T
  detach_stays y k met ey = let q = stopped (detach_refusal closed top) er met in stays line (D t) top many T y (detach_refusal closed top) detach_number q.0 (ey ∙ sym q.1)

  pub detach_goes : (v : DetachSight) (y : Findings) (S : Tables) {u : ⊤} → said ≡ Ok u → v ≡ detach_sight T t → ((i : ℕ) → S ≡ acted line (D t) i T)
      → y ≡ findings_of (found_detach line v) → leaves (Ok y) S ≡ line_outcome line (D t) top many T
  detach_goes v y S z ev es ey =
      goes line (D t) top many T (Ok y) _ S (sym detach_number ∙ passed (detach_refusal closed top) er z) (ap (λ (w : Findings). Ok w) ey) (ap (found_detach line) ev ∙ detach_found T line t) (es (asked top))

-- ---- C

module _ (T : Tables) (top : Option Item) (many t env f a b c : ℕ) (n : ℤ) (line : ℕ) (closed : Bool) (said : Result ⊤ Refusal) (ec : closed ≡ closed_in T.book)
    (er : said ≡ passes (call_refusal closed top many)) where
  call_number : call_refusal closed top many ≡ refusal_in (C t env f a b c n) top many T
  call_number = ap (λ (o : Bool). call_refusal o top many) ec ∙ sym (call_told T top many t env f a b c n)

  pub call_stays : (y : Answer) (k : Refusal) → said ≡ Err k → y ≡ Err k → leaves y T ≡ line_outcome line (C t env f a b c n) top many T
  call_stays y k met ey = let q = stopped (call_refusal closed top many) er met in stays line (C t env f a b c n) top many T y (call_refusal closed top many) call_number q.0 (ey ∙ sym q.1)

  pub call_goes : (v : CallSight) (y : Findings) (S : Tables) {u : ⊤} → said ≡ Ok u → v ≡ call_sight T t f a b c → S ≡ called T t f a v.a.row v.pb v.b.row
      → y ≡ findings_of (listed (judged_call line env f a b c v)) → leaves (Ok y) S ≡ line_outcome line (C t env f a b c n) top many T
  call_goes v y S z ev es ey =
      goes line (C t env f a b c n) top many T (Ok y) _ S (sym call_number ∙ passed (call_refusal closed top many) er z) (ap (λ (w : Findings). Ok w) ey)
      (ap (λ (u : CallSight). listed (judged_call line env f a b c u)) ev ∙ call_found T line t env f a b c n)
      (es
      ∙ ap (λ (u : CallSight). called T t f a u.a.row u.pb u.b.row) ev
      ∙ called_is_acted T t env f a b c n line (asked top) _ _ _ (deleted_row T t f a b c) (place_told T t f a b c) (released_row T t f a b c))

-- ---- R

module _ (T : Tables) (top : Option Item) (many t f h p : ℕ) (s : ℤ) (line : ℕ) (closed x : Bool) (ec : closed ≡ closed_in T.book) (ex : x ≡ return_turn closed f top) where
  return_is : (b : Bool) → x ≡ b → return_turn (closed_in T.book) f top ≡ b
  return_is b q = sym (ex ∙ ap (λ (o : Bool). return_turn o f top) ec) ∙ q

  pub return_out : not x ≡ true → leaves (Err Refusal.OutOfStep) T ≡ line_outcome line (R t f (result_in_line f h s) p) top many T
  return_out n =
      stays line (R t f (result_in_line f h s) p) top many T (Err Refusal.OutOfStep) 4
      (out_of_turn (return_turn (closed_in T.book) f top) _ (return_is false (not-true x n)) ∙ sym (return_told T top many t f h p s))
      (λ z. omega (arith, z))
      refl

  module _ (v : ReturnSight) (acts : Bool) (said : Result ⊤ Refusal) (n : not x ≡ false) (ev : v ≡ return_sight T t f h) (ea : acts ≡ is_zero s) (er : said ≡ passes (return_refusal f acts v)) where
    return_number : return_refusal f acts v ≡ refusal_in (R t f (result_in_line f h s) p) top many T
    return_number =
        in_turn (return_turn (closed_in T.book) f top) (return_refusal f acts v) _ (return_is true (not-false x n)) (ap₂ (return_refusal f) ea ev)
        ∙ sym (return_told T top many t f h p s)

    pub return_stays : (y : Answer) (k : Refusal) → said ≡ Err k → y ≡ Err k → leaves y T ≡ line_outcome line (R t f (result_in_line f h s) p) top many T
    return_stays y k met ey = let q = stopped (return_refusal f acts v) er met in stays line (R t f (result_in_line f h s) p) top many T y (return_refusal f acts v) return_number q.0 (ey ∙ sym q.1)

    pub return_goes : (y : Findings) (S : Tables) (z : ℤ) (i : ℕ) {u : ⊤} → said ≡ Ok u → z ≡ s → i ≡ asked top → S ≡ returned T line v.kind v.made.row t f h z p i
        → y ≡ findings_of (found_return line h v) → leaves (Ok y) S ≡ line_outcome line (R t f (result_in_line f h s) p) top many T
    return_goes y S z i q ez ei es ey =
        goes line (R t f (result_in_line f h s) p) top many T (Ok y) _ S (sym return_number ∙ passed (return_refusal f acts v) er q) (ap (λ (w : Findings). Ok w) ey)
        (ap (found_return line h) ev ∙ return_found T line t f h p s)
        (es
        ∙ ap₂ (λ (u : ReturnSight) (w : ℤ). returned T line u.kind u.made.row t f h w p i) ev ez
        ∙ ap₂ (λ (kind : Given) (j : ℕ). returned T line kind (return_sight T t f h).made.row t f h s p j) (kind_told T t f h) ei
        ∙ returned_is_acted T line (return_sight T t f h).made.row t f h s p (asked top) (handle_row T t f h) (buffer_row T t f h))

-- ---- Z

module _ (T : Tables) (line : ℕ) (closed : Bool) (ec : closed ≡ closed_in T.book) (top : Option Item) (many : ℕ) where
  pub end_stays : closed ≡ true → leaves (Err Refusal.OutOfStep) T ≡ line_outcome line Z top many T
  end_stays q =
      stays line Z top many T (Err Refusal.OutOfStep) 4 (ap (λ (o : Bool). if_true o then 4 else 0) (sym q ∙ ec) ∙ sym (end_told T top many)) (λ z. omega (arith, z)) refl

  pub end_goes : (v : EndSight) (y : Findings) (S : Tables) → closed ≡ false → v ≡ end_sight T → ((i : ℕ) → S ≡ acted line Z i T) → y ≡ findings_of (found_end line v)
      → leaves (Ok y) S ≡ line_outcome line Z top many T
  end_goes v y S q ev es ey =
      goes line Z top many T (Ok y) _ S (end_told T top many ∙ ap (λ (o : Bool). if_true o then 4 else 0) (sym ec ∙ q)) (ap (λ (w : Findings). Ok w) ey) (ap (found_end line) ev ∙ end_found T line) (es (asked top))

-- ---- K, O and M

-- no rule is of a statement
nothing_found : (line : ℕ) (s : Statement) (v : Seen) → [] ≡ of_line line (states s) v
unfolding of_line breach rule_at line_rule place_rule
nothing_found line s v = refl

module _ (T : Tables) (top : Option Item) (many c s line : ℕ) (closed : Bool) (v : DeclareSight) (said : Result ⊤ Refusal) (ec : closed ≡ closed_in T.book) (ev : v ≡ declare_sight T c s)
    (er : said ≡ passes (declare_refusal closed v)) where
  declare_number : declare_refusal closed v ≡ refusal_in (states (K c s)) top many T
  declare_number = ap₂ declare_refusal ec ev ∙ sym (declare_told T top many c s)

  pub declare_stays : (y : Answer) (k : Refusal) → said ≡ Err k → y ≡ Err k → leaves y T ≡ line_outcome line (states (K c s)) top many T
  declare_stays y k met ey = let q = stopped (declare_refusal closed v) er met in stays line (states (K c s)) top many T y (declare_refusal closed v) declare_number q.0 (ey ∙ sym q.1)

  pub declare_goes : (y : Findings) (S : Tables) {u : ⊤} → said ≡ Ok u → y ≡ findings_of [] → ((i : ℕ) → S ≡ acted line (states (K c s)) i T)
      → leaves (Ok y) S ≡ line_outcome line (states (K c s)) top many T
  declare_goes y S z ey es =
      goes line (states (K c s)) top many T (Ok y) [] S (sym declare_number ∙ passed (declare_refusal closed v) er z) (ap (λ (w : Findings). Ok w) ey) (nothing_found line (K c s) (seen_in T)) (es (asked top))

-- an accepted O names a handle alive
names_one : (closed : Bool) (v : StateSight) → state_refusal closed v ≡ 0 → v.alive ≡ true
unfolding state_refusal
names_one closed v = go closed v.known v.alive
  where
    go : (closed known alive : Bool) → ◌≡◌ {A = ℕ} (if_true closed then 4 else if_true not known then 9 else if_true not alive then 10 else 0) 0 → alive ≡ true
    go true known alive h = absurd (omega (arith, h))
    go false false alive h = absurd (omega (arith, h))
    go false true false h = absurd (omega (arith, h))
    go false true true h = refl

module _ (T : Tables) (top : Option Item) (many t h c line : ℕ) (closed : Bool) (v : StateSight) (said : Result ⊤ Refusal) (ec : closed ≡ closed_in T.book) (ev : v ≡ state_sight T t h c)
    (er : said ≡ passes (state_refusal closed v)) where
  state_number : state_refusal closed v ≡ refusal_in (states (O t h c)) top many T
  state_number = ap₂ state_refusal ec ev ∙ sym (state_told T top many t h c)

  pub state_stays : (y : Answer) (k : Refusal) → said ≡ Err k → y ≡ Err k → leaves y T ≡ line_outcome line (states (O t h c)) top many T
  state_stays y k met ey = let q = stopped (state_refusal closed v) er met in stays line (states (O t h c)) top many T y (state_refusal closed v) state_number q.0 (ey ∙ sym q.1)

  pub state_goes : (y : Findings) (S : Tables) {u : ⊤} → said ≡ Ok u → y ≡ findings_of [] → S ≡ stated T v.row c → leaves (Ok y) S ≡ line_outcome line (states (O t h c)) top many T
  state_goes y S z ey es =
      goes line (states (O t h c)) top many T (Ok y) [] S (sym state_number ∙ passed (state_refusal closed v) er z) (ap (λ (w : Findings). Ok w) ey) (nothing_found line (O t h c) (seen_in T))
      (es
      ∙ ap (λ (u : StateSight). stated T u.row c) ev
      ∙ stated_is_acted T t h c line (asked top) (state_sight T t h c).row (stated_row T t h c (sym (ap (λ (u : StateSight). u.alive) ev) ∙ names_one closed v (passed (state_refusal closed v) er z))))

module _ (T : Tables) (top : Option Item) (many x sort c static final line : ℕ) (closed : Bool) (v : IdentifySight) (said : Result ⊤ Refusal) (ec : closed ≡ closed_in T.book)
    (ev : v ≡ identify_sight T x c) (er : said ≡ passes (identify_refusal closed v)) where
  identify_number : identify_refusal closed v ≡ refusal_in (states (M x sort c static final)) top many T
  identify_number = ap₂ identify_refusal ec ev ∙ sym (identify_told T top many x sort c static final)

  pub identify_stays : (y : Answer) (k : Refusal) → said ≡ Err k → y ≡ Err k → leaves y T ≡ line_outcome line (states (M x sort c static final)) top many T
  identify_stays y k met ey = let q = stopped (identify_refusal closed v) er met in stays line (states (M x sort c static final)) top many T y (identify_refusal closed v) identify_number q.0 (ey ∙ sym q.1)

  pub identify_goes : (y : Findings) (S : Tables) {u : ⊤} → said ≡ Ok u → y ≡ findings_of [] → S ≡ identified T v.place x sort static final
      → leaves (Ok y) S ≡ line_outcome line (states (M x sort c static final)) top many T
  unfolding identify_sight
  identify_goes y S z ey es =
      goes line (states (M x sort c static final)) top many T (Ok y) [] S (sym identify_number ∙ passed (identify_refusal closed v) er z) (ap (λ (w : Findings). Ok w) ey) (nothing_found line (M x sort c static final) (seen_in T))
      (es ∙ identified_is_acted T x sort c static final line (asked top) v.place (ap (λ (u : IdentifySight). u.place) ev))
