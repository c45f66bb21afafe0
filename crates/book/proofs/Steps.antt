-- From what the code did to the words of the definitions: one law for each return. Assumes nothing.
use Rattle.std.proofs.Common.{◌≡◌, ℕ, zero, suc, pred, ◌+◌, ◌-◌, ◌*◌, ◌/◌, ◌%◌, ◌^◌, ◌<◌, ◌≤◌, min, max, Bool, true, false, not, ◌||◌, eqb, ltb, List, [], ◌∷◌, length, get_or, set, sym, refl, ap, ◌∙◌, ap₂, le_of_suc-le-suc, not-suc-le-zero, arith, ltb-false, le-ltb, lt-ltb, ne_eqb, eqb-true}
use Rattle.std.specs.Prelude.{Option, None, Some}
use Rattle.std.specs.Int.{from_bool}
use Rattle.std.specs.List.{range_with_len, sum_by}
use borrow.Author.Tests.{not-true, not-false}
use lib.Bits.{bit_and, bit_or}
use Rattle.words.specs.Choice.{one}
use Rattle.words.specs.Lists.{any, sum}
use Rattle.lines.specs.Line.{threads}
use Rattle.history.specs.Items.{Item, top_of}
use Rattle.history.specs.Frames.{Frame, entered, pushed, top_pushed, without_native, without_pushed}
use Rattle.history.specs.Thread.{all_threads}
use Rattle.history.specs.Acceptance.{deepest}
use Rattle.history.specs.Replies.{most_lines}
use Rattle.rows.specs.Scan.{how_many}
use Rattle.rows.specs.Marks.{bit}
use Rattle.book.specs.Layout.{width, whole, lines_at, closed_at, env_at, pending_at, monitors_at, frames_at, capacity_at, pushed_at, items_at, natives_at, function_at, asked_at, cell, put, wrote}
use Rattle.book.specs.Threads.{stack, depth, frame_is, is_pushed, thread_of, thread_in, top_capacity, opened, attached_function, marked_function, item_bound, item_is, items_of, items_in, natives, top_is, lines_in, closed_in, all_monitors}
use Rattle.book.specs.declared.Item.{Item as Open}
use Rattle.book.specs.Moves.{push_frame, frame_pushed, leave_native, native_left, frames_ended, pop_frame, frame_popped, raise_capacity, capacity_raised, with_mark, push_item, item_pushed, pop_item, item_popped, env_set, pending_set, monitor_added, monitor_taken, monitors_dropped, line_counted, closed_set}
use Rattle.book.specs.Turns.{ByTurns}
use Rattle.book.specs.Unfit.{overdone, overdone_in, unfit}
use Rattle.book.proofs.AllThreads.{rest, rest_none, rest_more, or_left, or_right, any_first}
use Rattle.book.proofs.Stacks.{length_stack}
use Rattle.book.proofs.Frames.{frame_in, length_frames}
use Rattle.book.proofs.Items.{item_in, same_item, length_items, length_tail}
use Rattle.book.proofs.Fitness.{not_overdone}
use Rattle.book.proofs.Natives.{natives_are, all_calls, in_turn, turns_left, turns_right, half_of, half_at_most}

-- ---- a number of the book
set_past : (l : List ℕ) (i v : ℕ) → length l ≤ i → l ≡ set l i v
set_past [] i v h = refl
set_past (x ∷ l) zero v h = absurd (not-suc-le-zero h)
set_past (x ∷ l) (suc i) v h = ap {B = List ℕ} (λ r. x ∷ r) (set_past l i v (le_of_suc-le-suc h))

pub store_past : (b : List ℕ) (t j v : ℕ) → length b ≤ t * width + j → b ≡ put b t j v
unfolding put
store_past b t j v h = set_past b (t * width + j) v h

pub closed_is : (b : List ℕ) (v : ℕ) → v ≡ cell b 0 closed_at → not (eqb v 0) ≡ closed_in b
unfolding closed_in
closed_is b v e = rw e

-- ---- frames
pub frames_are : (b : List ℕ) (t k d : ℕ) → k ≡ cell b t frames_at → d ≡ min k deepest → d ≡ length (thread_in b t).frames
unfolding thread_in depth
frames_are b t k d e m = omega (arith, length_frames (cell b t))

-- the frames, and their capacities, where there are d of them
frames_stand : (b : List ℕ) (t d : ℕ) → d ≡ length (thread_in b t).frames → (thread_in b t).frames ≡ stack (frame_in (cell b t)) d
unfolding thread_in thread_of
frames_stand b t d e = ap (stack (frame_in (cell b t))) (sym (e ∙ unfold thread_in thread_of in length_frames (cell b t)))

capacities_stand : (b : List ℕ) (t d : ℕ) → d ≡ length (thread_in b t).frames → (thread_in b t).capacities ≡ stack (λ i. cell b t (capacity_at i)) d
unfolding thread_in thread_of
capacities_stand b t d e = ap (stack (λ (i : ℕ). cell b t (capacity_at i))) (sym (e ∙ unfold thread_in thread_of in length_frames (cell b t)))

pub pushed_is : (b : List ℕ) (t i v : ℕ) → v ≡ cell b t (pushed_at i) → not (eqb v 0) ≡ is_pushed (cell b t) i
unfolding is_pushed
pushed_is b t i v e = rw e

pub capacity_none : (b : List ℕ) (t d : ℕ) → d ≡ length (thread_in b t).frames → (1 ≤ d → ⊥) → 0 ≡ top_capacity (thread_in b t).capacities
capacity_none b t d e n = let z : d ≡ 0 = omega (arith, n) in rw (capacities_stand b t d e, z)

pub capacity_some : (b : List ℕ) (t d top r : ℕ) → d ≡ length (thread_in b t).frames → (1 ≤ d) × (top ≡ d - 1) → r ≡ cell b t (capacity_at top)
    → r ≡ top_capacity (thread_in b t).capacities
capacity_some b t zero top r e s p = absurd (omega (arith, s.0))
capacity_some b t (suc d) top r e s p =
    let n : top ≡ d = omega (arith, s.1) in rw (capacities_stand b t (suc d) e) (p ∙ ap (λ (i : ℕ). cell b t (capacity_at i)) n)

is_top : (p : Bool) (fs : List Frame) → p ≡ top_pushed (frame_is p ∷ fs)
is_top true fs = refl
is_top false fs = refl

pub pushed_none : (b : List ℕ) (t d : ℕ) → d ≡ length (thread_in b t).frames → (1 ≤ d → ⊥) → false ≡ top_pushed (thread_in b t).frames
pushed_none b t d e n = let z : d ≡ 0 = omega (arith, n) in rw (frames_stand b t d e, z)

pub pushed_some : (b : List ℕ) (t d top : ℕ) (r : Bool) → d ≡ length (thread_in b t).frames → (1 ≤ d) × (top ≡ d - 1) → r ≡ is_pushed (cell b t) top
    → r ≡ top_pushed (thread_in b t).frames
pushed_some b t zero top r e s p = absurd (omega (arith, s.0))
pushed_some b t (suc d) top r e s p =
    let n : top ≡ d = omega (arith, s.1) in
    rw (frames_stand b t (suc d) e) (p ∙ ap (is_pushed (cell b t)) n ∙ is_top (is_pushed (cell b t) d) (stack (frame_in (cell b t)) d))

-- what X leaves of the lowest d frames
unfoldable pub left_of : List ℕ → ℕ → ℕ → ℕ
left_of b t d = length (without_native (stack (frame_in (cell b t)) d))

pub left_first : (b : List ℕ) (t d : ℕ) → d ≡ length (thread_in b t).frames → length (without_native (thread_in b t).frames) ≡ left_of b t d
unfolding left_of
left_first b t d e = rw (frames_stand b t d e)

pub left_entered : (b : List ℕ) (t d : ℕ) (r : Bool) → length (without_native (thread_in b t).frames) ≡ left_of b t d → 0 < d → r ≡ is_pushed (cell b t) (d - 1) → not r ≡ true
    → d - 1 ≡ length (without_native (thread_in b t).frames)
unfolding left_of
left_entered b t zero r i h p q = absurd (omega arith)
left_entered b t (suc d) r i h p q =
    let n : suc d - 1 ≡ d = omega arith in
    rw (n, i) (rw (← (p ∙ ap (is_pushed (cell b t)) n), not-true r q) (sym (length_stack (frame_in (cell b t)) d)))

pub left_pushed : (b : List ℕ) (t d : ℕ) (r : Bool) → length (without_native (thread_in b t).frames) ≡ left_of b t d → 0 < d → r ≡ is_pushed (cell b t) (d - 1) → not r ≡ false
    → length (without_native (thread_in b t).frames) ≡ left_of b t (d - 1)
unfolding left_of
left_pushed b t zero r i h p q = absurd (omega arith)
left_pushed b t (suc d) r i h p q =
    let n : suc d - 1 ≡ d = omega arith in rw (n, i) (rw (← (p ∙ ap (is_pushed (cell b t)) n), not-false r q))

pub left_none : (b : List ℕ) (t d : ℕ) → length (without_native (thread_in b t).frames) ≡ left_of b t d → d ≤ 0 → 0 ≡ length (without_native (thread_in b t).frames)
unfolding left_of
left_none b t zero i h = sym i
left_none b t (suc d) i h = absurd (omega arith)

pub one_is : (p : Bool) → from_bool p ≡ one p
one_is true = refl
one_is false = refl

pub push_full : (b : List ℕ) (t n d : ℕ) (p : Bool) → d ≡ length (thread_in b t).frames → deepest ≤ d → b ≡ frame_pushed b t n p
unfolding frame_pushed push_frame wrote
push_full b t n d p e h = rw (le-ltb (length (thread_in b t).frames) deepest (omega arith))

pub push_room : (b b₁ b₂ b₃ : List ℕ) (t n d m : ℕ) (p : Bool) → d ≡ length (thread_in b t).frames → d < deepest → m ≡ from_bool p → b₁ ≡ put b t (capacity_at d) n
    → b₂ ≡ put b₁ t (pushed_at d) m → b₃ ≡ put b₂ t frames_at (d + 1) → b₃ ≡ frame_pushed b t n p
unfolding frame_pushed push_frame wrote
push_room b b₁ b₂ b₃ t n d m p e h o x y z = rw (lt-ltb (length (thread_in b t).frames) deepest (omega arith), ← e, ← (o ∙ one_is p)) (cc)

pub leave_all : (b b₁ : List ℕ) (t d : ℕ) → d ≡ length (without_native (thread_in b t).frames) → b₁ ≡ put b t frames_at d → b₁ ≡ native_left b t
unfolding native_left leave_native wrote
leave_all b b₁ t d e x = rw (← e) x

pub no_frames : (b b₁ : List ℕ) (t : ℕ) → b₁ ≡ put b t frames_at 0 → b₁ ≡ frames_ended b t
unfolding frames_ended wrote
no_frames b b₁ t x = x

length_popped : (fs : List Frame) → length (without_pushed fs) ≡ length fs - one (top_pushed fs)
length_popped [] = omega arith
length_popped (entered ∷ fs) = omega arith
length_popped (pushed ∷ fs) = omega arith

pub pop_top : (b b₁ : List ℕ) (t d m v : ℕ) (r : Bool) → d ≡ length (thread_in b t).frames → r ≡ top_pushed (thread_in b t).frames → m ≡ from_bool r → v ≡ d - m
    → b₁ ≡ put b t frames_at v → b₁ ≡ frame_popped b t
unfolding frame_popped pop_frame wrote
pop_top b b₁ t d m v r e p o g x = rw (length_popped (thread_in b t).frames, ← e, ← p, ← (o ∙ one_is r), ← g) x

pub raise_none : (b : List ℕ) (t k d : ℕ) → d ≡ length (thread_in b t).frames → (1 ≤ d → ⊥) → b ≡ capacity_raised b t k
unfolding capacity_raised raise_capacity wrote
raise_none b t k d e n = let z : d ≡ 0 = omega (arith, n) in rw (le-ltb 0 (length (thread_in b t).frames) (omega arith))

pub raise_some : (b b₁ : List ℕ) (t k d top c m : ℕ) → d ≡ length (thread_in b t).frames → (1 ≤ d) × (top ≡ d - 1) → c ≡ top_capacity (thread_in b t).capacities → m ≡ max c k
    → b₁ ≡ put b t (capacity_at top) m → b₁ ≡ capacity_raised b t k
unfolding capacity_raised raise_capacity wrote
raise_some b b₁ t k d top c m e s p q x = rw (lt-ltb 0 (length (thread_in b t).frames) (omega (arith, s.0)), ← e, ← (s.1), ← p, ← q) x

-- ---- open items
pub items_are : (b : List ℕ) (t k d : ℕ) → k ≡ cell b t items_at → d ≡ min k deepest → d ≡ length (items_in b t)
unfolding items_in opened
items_are b t k d e m = omega (arith, length_items (cell b t))

items_stand : (b : List ℕ) (t d : ℕ) → d ≡ length (items_in b t) → items_in b t ≡ stack (item_in (cell b t)) d
unfolding items_in items_of
items_stand b t d e = ap (stack (item_in (cell b t))) (sym (e ∙ unfold items_in items_of in length_items (cell b t)))

pub item_none : (b : List ℕ) (t d : ℕ) → d ≡ length (items_in b t) → (1 ≤ d → ⊥) → top_is None ≡ top_of (items_in b t)
unfolding top_is
item_none b t d e n = let z : d ≡ 0 = omega (arith, n) in rw (items_stand b t d e, z)

pub item_some : (b : List ℕ) (t d top w f n : ℕ) (p : Bool) (r : Open) → d ≡ length (items_in b t) → (1 ≤ d) × (top ≡ d - 1) → w ≡ cell b t natives_at → p ≡ bit w top
    → f ≡ cell b t (function_at top) → n ≡ cell b t (asked_at top) → top_is (Some r) ≡ Some (item_is p f n) → top_is (Some r) ≡ top_of (items_in b t)
item_some b t zero top w f n p r e s m o x y i = absurd (omega (arith, s.0))
item_some b t (suc d) top w f n p r e s m o x y i =
    let k : top ≡ d = omega (arith, s.1) in
    rw (items_stand b t (suc d) e)
    (i ∙ ap {B = Option Item} (λ x. Some x)
    (same_item (o ∙ ap₂ bit m k) (x ∙ ap (λ (j : ℕ). cell b t (function_at j)) k) (y ∙ ap (λ (j : ℕ). cell b t (asked_at j)) k)))

-- an item by its mark and its function
pub item_attached : (f n : ℕ) (p : Bool) → p ≡ true → f ≡ attached_function → top_is (Some Open.Attached) ≡ Some (item_is p f n)
unfolding top_is item_is
item_attached f n p m e = rw (m, e)

pub item_native : (f n : ℕ) (p : Bool) → p ≡ true → (f ≡ attached_function → ⊥) → top_is (Some Open.Native) ≡ Some (item_is p f n)
unfolding top_is item_is
item_native f n p m d = rw (m, ne_eqb f attached_function d)

pub item_call : (f n g m : ℕ) (p : Bool) → p ≡ false → g ≡ f % item_bound → m ≡ n % item_bound → top_is (Some (Open.Call g m)) ≡ Some (item_is p f n)
unfolding top_is item_is
item_call f n g m p c x y = rw (c, x, y)

pub item_full : (b : List ℕ) (t f n d : ℕ) → d ≡ length (items_in b t) → deepest ≤ d → b ≡ item_pushed b t f n
unfolding item_pushed push_item wrote
item_full b t f n d e h = rw (le-ltb (length (items_in b t)) deepest (omega arith))

pub item_room : (b b₁ b₂ b₃ b₄ : List ℕ) (t f n d k w : ℕ) (m : Bool) → d ≡ length (items_in b t) → d < deepest → k ≡ cell b t natives_at → m ≡ marked_function f → w ≡ with_mark k d m
    → b₁ ≡ put b t (function_at d) f → b₂ ≡ put b₁ t (asked_at d) n → b₃ ≡ put b₂ t items_at (d + 1) → b₄ ≡ put b₃ t natives_at w → b₄ ≡ item_pushed b t f n
unfolding item_pushed push_item wrote
item_room b b₁ b₂ b₃ b₄ t f n d k w m e h p i q x y z u = rw (lt-ltb (length (items_in b t)) deepest (omega arith), ← e, ← p, ← i, ← q) (cc)

pub item_off : (b b₁ : List ℕ) (t d x : ℕ) → d ≡ length (items_in b t) → x ≡ d - 1 → b₁ ≡ put b t items_at x → b₁ ≡ item_popped b t
unfolding item_popped pop_item wrote
item_off b b₁ t d x e u v = rw (length_tail (items_in b t), ← e, ← u) v

-- ---- the rest of a thread
pub env_stored : (b b₁ : List ℕ) (t v : ℕ) → b₁ ≡ put b t env_at v → b₁ ≡ env_set b t v
unfolding env_set wrote
env_stored b b₁ t v x = x

pub pending_stored : (b b₁ : List ℕ) (t v : ℕ) → b₁ ≡ put b t pending_at v → b₁ ≡ pending_set b t v
unfolding pending_set wrote
pending_stored b b₁ t v x = x

pub one_added : (b b₁ : List ℕ) (t k m : ℕ) → k ≡ (thread_in b t).monitors → m ≡ min k most_lines → b₁ ≡ put b t monitors_at (m + 1) → b₁ ≡ monitor_added b t
unfolding monitor_added wrote
one_added b b₁ t k m p q x = rw (← p, ← q) x

pred_is : (n : ℕ) → pred n ≡ n - 1
pred_is zero = omega arith
pred_is (suc n) = omega arith

pub one_taken : (b b₁ : List ℕ) (t k m : ℕ) → k ≡ (thread_in b t).monitors → m ≡ k - 1 → b₁ ≡ put b t monitors_at m → b₁ ≡ monitor_taken b t
unfolding monitor_taken wrote
one_taken b b₁ t k m p q x = rw (pred_is (thread_in b t).monitors, ← p, ← q) x

pub all_dropped : (b b₁ : List ℕ) (t : ℕ) → b₁ ≡ put b t monitors_at 0 → b₁ ≡ monitors_dropped b t
unfolding monitors_dropped wrote
all_dropped b b₁ t x = x

-- monitors of all threads, added up from the first
pub added_up : (f : ℕ → ℕ) → sum_by f (range_with_len 1 16) ≡ sum f all_threads
added_up f = omega arith

pub monitors_added : (b : List ℕ) (r : ℕ) → r ≡ sum_by (λ (t : ℕ). min (thread_in b t).monitors most_lines) (range_with_len 1 16) → r ≡ all_monitors b
unfolding all_monitors
monitors_added b r e = e ∙ added_up (λ (t : ℕ). min (thread_in b t).monitors most_lines)

added_few : (f : ℕ → ℕ) → ((t : ℕ) → f t ≤ most_lines) → sum_by f (range_with_len 1 16) < 2 ^ 64
added_few f h = omega (arith, h 1, h 2, h 3, h 4, h 5, h 6, h 7, h 8, h 9, h 10, h 11, h 12, h 13, h 14, h 15, h 16)

pub monitors_fit : (b : List ℕ) → sum_by (λ (t : ℕ). min (thread_in b t).monitors most_lines) (range_with_len 1 16) < 2 ^ 64
monitors_fit b = added_few (λ (t : ℕ). min (thread_in b t).monitors most_lines) (λ t. omega arith)

-- ---- the trace
pub line_added : (b b₁ : List ℕ) (k m : ℕ) → k ≡ lines_in b → m ≡ min k most_lines → b₁ ≡ put b 0 lines_at (m + 1) → b₁ ≡ line_counted b
unfolding line_counted wrote
line_added b b₁ k m p q x = rw (← p, ← q) x

pub closed_stored : (b b₁ : List ℕ) → b₁ ≡ put b 0 closed_at 1 → b₁ ≡ closed_set b
unfolding closed_set wrote
closed_stored b b₁ x = x

-- ---- a book that is not fit
pub no_doubt : (items frames monitors m n : ℕ) (r : Bool) → m ≡ max items frames → n ≡ (frames + frames) % 2 ^ 64
    → r ≡ (ltb deepest m || ltb n items || ltb most_lines monitors) → r ≡ false → (natives : ℕ) → natives ≤ items - items / 2
    → overdone items frames natives monitors ≡ false
no_doubt items frames monitors m n r g a e f natives half =
    let none = sym e ∙ f in
    let two = or_left (ltb deepest m || ltb n items) (ltb most_lines monitors) none in
    let few : m ≤ deepest = ltb-false deepest m (or_left (ltb deepest m) (ltb n items) two) in
    let framed : items ≤ n = ltb-false n items (or_right (ltb deepest m) (ltb n items) two) in
    not_overdone items frames natives monitors (omega (arith, g, few)) (omega (arith, g, few)) (omega (arith, g, a, half, few, framed))
    (λ o. omega (arith, g, a, o, few, framed)) (ltb-false most_lines monitors (or_right (ltb deepest m || ltb n items) (ltb most_lines monitors) none))

-- no native stands in a call's place
told_by_turns : (w : ℕ) (r : Bool) → (r || not (eqb (bit_and w all_calls) 0)) ≡ false → ByTurns w
told_by_turns w r e =
    in_turn w (eqb-true (bit_and w all_calls) 0 (not-false (eqb (bit_and w all_calls) 0) (or_right r (not (eqb (bit_and w all_calls) 0)) e)))

pub not_counted : (items frames marks monitors : ℕ) (r : Bool)
    → (r ≡ false → (natives : ℕ) → natives ≤ items - items / 2 → overdone items frames natives monitors ≡ false)
    → (r || not (eqb (bit_and marks all_calls) 0)) ≡ false → false ≡ overdone items frames (how_many (bit marks) (min items deepest)) monitors
not_counted items frames marks monitors r f e =
    sym (f (or_left r (not (eqb (bit_and marks all_calls) 0)) e) (how_many (bit marks) (min items deepest)) (half_of marks items (told_by_turns marks r e)))

pub counted : (items frames marks monitors n natives : ℕ) (r : Bool) → n ≡ min items deepest → natives ≡ how_many (bit marks) n
    → r ≡ overdone items frames natives monitors → r ≡ overdone items frames (how_many (bit marks) (min items deepest)) monitors
counted items frames marks monitors n natives r m k e = e ∙ rw (k, m)

module _ (b : List ℕ) (t items frames monitors : ℕ) (r : Bool) where
  pub by_numbers : (marks : ℕ) → items ≡ cell b t items_at → frames ≡ cell b t frames_at → marks ≡ cell b t natives_at → monitors ≡ cell b t monitors_at
      → r ≡ overdone items frames (how_many (bit marks) (min items deepest)) monitors → r ≡ overdone_in b t
  unfolding overdone_in items_in
  by_numbers marks i f w m e = e ∙ rw (natives_are (cell b t), ← i, ← f, ← w, ← m)

  pub row_doubted : items ≡ get_or b (t * width + items_at) 0 → frames ≡ get_or b (t * width + frames_at) 0 → monitors ≡ get_or b (t * width + monitors_at) 0
      → (r ≡ false → (natives : ℕ) → natives ≤ items - items / 2 → overdone items frames natives monitors ≡ false)
      → r ≡ false → ByTurns (cell b t natives_at) → overdone_in b t ≡ false
  unfolding overdone_in items_in
  row_doubted i f m d e turns =
      let p : items ≡ cell b t items_at = unfold cell in i in
      let q : frames ≡ cell b t frames_at = unfold cell in f in
      let o : monitors ≡ cell b t monitors_at = unfold cell in m in
      rw (← q, ← o) (rw (← p) (d e (natives (items_of (cell b t))) (omega (arith, p, half_at_most (cell b t) turns))))

-- looked for from thread t on
unfoldable pub overdone_from : List ℕ → ℕ → Bool
overdone_from b t = any (overdone_in b) (rest t)

pub unfit_short : (b : List ℕ) → length b < whole → true ≡ unfit b
unfolding unfit
unfit_short b h = rw (lt-ltb (length b) whole h)

pub unfit_first : (b : List ℕ) (k : ℕ) → whole ≤ length b → k ≡ get_or b 0 0 → unfit b ≡ (ltb most_lines k || overdone_from b 1)
unfolding unfit overdone_from cell
unfit_first b k h e = rw (le-ltb (length b) whole h, e) (any_first (overdone_in b) (ltb most_lines (get_or b 0 0)))

pub unfit_by : (b : List ℕ) (k : ℕ) (r : Bool) → whole ≤ length b → k ≡ lines_in b → r ≡ any (overdone_in b) all_threads → (ltb most_lines k || r) ≡ unfit b
unfolding unfit lines_in
unfit_by b k r h e f = rw (le-ltb (length b) whole h, e, f)

-- where no thread before t is in doubt, by the marks of these threads together
pub doubt_first : (b : List ℕ) (k w : ℕ) → whole ≤ length b → k ≡ get_or b 0 0 → ltb most_lines k ≡ false → ByTurns w → unfit b ≡ overdone_from b 1
doubt_first b k w h e f turns = unfit_first b k h e ∙ rw f

pub doubt_next : (b : List ℕ) (t v w : ℕ) (r x : Bool) → (r ≡ false → ByTurns v → unfit b ≡ overdone_from b t) → t ≤ threads
    → (x ≡ false → ByTurns (cell b t natives_at) → overdone_in b t ≡ false) → w ≡ get_or b (t * width + natives_at) 0
    → (r || x) ≡ false → ByTurns (bit_or v w) → unfit b ≡ overdone_from b (t + 1)
unfolding overdone_from cell
doubt_next b t v w r x i h p q e turns =
    i (or_left r x e) (turns_left v w turns) ∙ rw (rest_more t h, p (or_right r x e) (rw (← q) (turns_right v w turns)))

pub doubt_none : (b : List ℕ) (t w : ℕ) (r : Bool) → (r ≡ false → ByTurns w → unfit b ≡ overdone_from b t) → threads < t
    → (r || not (eqb (bit_and w all_calls) 0)) ≡ false → false ≡ unfit b
unfolding overdone_from
doubt_none b t w r i h e =
    sym (i (or_left r (not (eqb (bit_and w all_calls) 0)) e) (told_by_turns w r e) ∙ rw (rest_none t h))
