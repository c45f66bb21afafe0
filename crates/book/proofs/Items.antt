-- What is written to a row changes the open items that it stands for, and keeps their counts true. Assumes nothing.
use Rattle.std.proofs.Common.{◌≡◌, ℕ, zero, suc, ◌+◌, ◌-◌, ◌<◌, ◌≤◌, min, Bool, true, false, eqb, List, [], ◌∷◌, length, sym, refl, ap, ◌∙◌, ap₂, inl, arith, lt-ltb}
use mathlib.Core.List.{tail}
use Rattle.words.specs.Choice.{if_true◌then◌else◌}
use Rattle.history.specs.Items.{Item}
use Rattle.history.specs.Acceptance.{deepest}
use Rattle.rows.specs.Marks.{bit}
use Rattle.rows.proofs.MarkLaws.{set_same, set_other, clear_same, clear_other}
use Rattle.book.specs.Layout.{width, frames_at, items_at, natives_at, function_at, asked_at, Write, into}
use Rattle.book.specs.Threads.{Row, stack, opened, marked_function, item_is, items_of}
use Rattle.book.specs.Moves.{with_mark, push_item, pop_item}
use Rattle.book.specs.Changes.{pushed_item, Kept}
use Rattle.book.proofs.Rows.{after, Among, none as nothing, more, after_apart}
use Rattle.book.proofs.Stacks.{stack_ext, length_stack}
use Rattle.book.proofs.Frames.{hit, miss}

-- ---- by their columns
pub opened_most : (c : Row) → opened c ≤ deepest
unfolding opened
opened_most c = omega arith

abbrev pub item_in : Row → ℕ → Item
item_in c i = item_is (bit (c natives_at) i) (c (function_at i)) (c (asked_at i))

pub same_item : {p q : Bool} {f g n m : ℕ} → p ≡ q → f ≡ g → n ≡ m → item_is p f n ≡ item_is q g m
same_item x y z = rw (x, y, z)

pub length_items : (c : Row) → length (items_of c) ≡ opened c
unfolding items_of
length_items c = length_stack (item_in c) (opened c)

-- they hang on their own columns alone
pub items_by : (c e : Row) → ((k : ℕ) → items_at ≤ k → k < width → c k ≡ e k) → items_of c ≡ items_of e
unfolding items_of opened
items_by c e h =
    let n : min (c items_at) deepest ≡ min (e items_at) deepest = ap (λ (x : ℕ). min x deepest) (h items_at (omega arith) (omega arith)) in
    stack_ext (item_in c) (item_in e) (min (c items_at) deepest)
    (λ i l. same_item (ap (λ (w : ℕ). bit w i) (h natives_at (omega arith) (omega arith))) (h (function_at i) (omega arith) (omega arith))
    (h (asked_at i) (omega arith) (omega arith)))
    ∙ ap (stack (item_in e)) n

-- ---- an item more

-- the writes that push item d, counted from 0; w are the marks then
abbrev pub opening : ℕ → ℕ → ℕ → ℕ → List Write
opening f n w d = into (function_at d) f ∷ into (asked_at d) n ∷ into items_at (d + 1) ∷ into natives_at w ∷ []

pub opening_among : (f n w d : ℕ) → d < deepest → Among items_at width (opening f n w d)
opening_among f n w d h =
    more {j = function_at d} (omega arith) (omega arith)
    (more {j = asked_at d} (omega arith) (omega arith) (more {j = items_at} (omega arith) (omega arith) (more {j = natives_at} (omega arith) (omega arith) nothing)))

opening_opened : (c : Row) (f n w d : ℕ) → d < deepest → opened (after c (opening f n w d)) ≡ suc d
unfolding opened
opening_opened c f n w d h = omega arith

opening_function : (c : Row) (f n w d i : ℕ) → d < deepest → i ≤ d
    → after c (opening f n w d) (function_at i) ≡ (if_true eqb (function_at i) (function_at d) then f else c (function_at i))
opening_function c f n w d i h l =
    miss natives_at w (function_at i) _ (λ q. absurd (omega arith))
    ∙ miss items_at (d + 1) (function_at i) _ (λ q. absurd (omega arith)) ∙ miss (asked_at d) n (function_at i) _ (λ q. absurd (omega arith))

opening_asked : (c : Row) (f n w d i : ℕ) → d < deepest → i ≤ d
    → after c (opening f n w d) (asked_at i) ≡ (if_true eqb (asked_at i) (asked_at d) then n else c (asked_at i))
opening_asked c f n w d i h l =
    miss natives_at w (asked_at i) _ (λ q. absurd (omega arith))
    ∙ miss items_at (d + 1) (asked_at i) _ (λ q. absurd (omega arith))
    ∙ ap (λ (x : ℕ). if_true eqb (asked_at i) (asked_at d) then n else x) (miss (function_at d) f (asked_at i) (c (asked_at i)) (λ q. absurd (omega arith)))

mark_own : (w d : ℕ) (p : Bool) → d < deepest → bit (with_mark w d p) d ≡ p
unfolding with_mark
mark_own w d true h = set_same w d
mark_own w d false h = clear_same w d h

mark_below : (w d i : ℕ) (p : Bool) → d < deepest → i < d → bit (with_mark w d p) i ≡ bit w i
unfolding with_mark
mark_below w d i true h l = set_other w d i (λ q. absurd (omega arith))
mark_below w d i false h l = clear_other w d i h (omega arith) (λ q. absurd (omega arith))

opened_more : (c : Row) (f n d : ℕ) (p : Bool) → opened c ≡ d → d < deepest
    → items_of (after c (opening f n (with_mark (c natives_at) d p) d)) ≡ item_is p f n ∷ items_of c
unfolding items_of
opened_more c f n d p e h =
    let w = with_mark (c natives_at) d p in
    let a = after c (opening f n w d) in
    rw (opening_opened c f n w d h, e)
    (ap₂ {C = List Item} (λ x l. x ∷ l)
    (same_item (mark_own (c natives_at) d p h)
    (opening_function c f n w d d h (omega arith) ∙ hit (function_at d) f _)
    (opening_asked c f n w d d h (omega arith) ∙ hit (asked_at d) n _))
    (stack_ext (item_in a) (item_in c) d
    (λ i l. same_item (mark_below (c natives_at) d i p h l)
    (opening_function c f n w d i h (omega arith) ∙ miss (function_at d) f (function_at i) (c (function_at i)) (λ q. absurd (omega arith)))
    (opening_asked c f n w d i h (omega arith) ∙ miss (asked_at d) n (asked_at i) (c (asked_at i)) (λ q. absurd (omega arith))))))

pub items_pushed : (c : Row) (f n : ℕ) → length (items_of c) < deepest
    → items_of (after c (push_item (items_of c) (c natives_at) f n)) ≡ pushed_item f n ∷ items_of c
unfolding push_item pushed_item
items_pushed c f n h =
    rw (lt-ltb (length (items_of c)) deepest h) (opened_more c f n (length (items_of c)) (marked_function f) (sym (length_items c)) h)

-- ---- without the top item
abbrev pub closing : ℕ → List Write
closing d = into items_at d ∷ []

pub closing_among : (d : ℕ) → Among items_at width (closing d)
closing_among d = more {j = items_at} (omega arith) (omega arith) nothing

closing_opened : (c : Row) (d : ℕ) → d ≤ deepest → opened (after c (closing d)) ≡ d
unfolding opened
closing_opened c d h = omega arith

closing_items : (c : Row) (d : ℕ) → d ≤ deepest → items_of (after c (closing d)) ≡ stack (item_in c) d
unfolding items_of
closing_items c d h =
    rw (closing_opened c d h)
    (stack_ext (item_in (after c (closing d))) (item_in c) d
    (λ i l. same_item (ap (λ (w : ℕ). bit w i) (miss items_at d natives_at (c natives_at) (λ q. absurd (omega arith))))
    (miss items_at d (function_at i) (c (function_at i)) (λ q. absurd (omega arith)))
    (miss items_at d (asked_at i) (c (asked_at i)) (λ q. absurd (omega arith)))))

tail_stack : (f : ℕ → Item) (d : ℕ) → tail (stack f d) ≡ stack f (length (tail (stack f d)))
tail_stack f zero = refl
tail_stack f (suc d) = ap (stack f) (sym (length_stack f d))

tail_items : (c : Row) → tail (items_of c) ≡ stack (item_in c) (length (tail (items_of c)))
unfolding items_of
tail_items c = tail_stack (item_in c) (opened c)

pub length_tail : (is : List Item) → length (tail is) ≡ length is - 1
length_tail [] = omega arith
length_tail (i ∷ is) = omega arith

pub tail_within : (c : Row) → length (tail (items_of c)) ≤ deepest
tail_within c = omega (arith, length_tail (items_of c), length_items c, opened_most c)

pub items_popped : (c : Row) → items_of (after c (pop_item (items_of c))) ≡ tail (items_of c)
unfolding pop_item
items_popped c = closing_items c (length (tail (items_of c))) (tail_within c) ∙ sym (tail_items c)

-- ---- their counts
pub pushed_kept : (c : Row) (f n : ℕ) → length (items_of c) < deepest → Kept c → Kept (after c (push_item (items_of c) (c natives_at) f n))
unfolding push_item
pushed_kept c f n h k =
    rw (lt-ltb (length (items_of c)) deepest h)
    (let w = with_mark (c natives_at) (length (items_of c)) (marked_function f) in
    record {
      items_fit = omega arith;
      frames_fit = omega (arith, k.frames_fit, after_apart c frames_at (opening_among f n w (length (items_of c)) h) (inl (omega arith)));
    })

pub popped_kept : (c : Row) → Kept c → Kept (after c (pop_item (items_of c)))
popped_kept c k = record { items_fit = unfold pop_item in tail_within c; frames_fit = unfold pop_item in omega (arith, k.frames_fit) }
