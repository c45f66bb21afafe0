-- Leaks ordered by their making line: all of them, in that order, those of one line as they stood. Assumes nothing.
use Prim.Native.Nat.{ℕ, ◌+◌, ◌≤◌, ◌<◌}
use mathlib.Core.Path.{◌≡◌, refl, sym, ap, ap₂, ◌∙◌}
use mathlib.Core.Bool.{Bool, true, false, ◌&&◌}
use mathlib.Core.List.Memᴰ
use mathlib.Core.List.{List, [], ◌∷◌, ◌++◌, map, Memᴰ}
use native.Mathlib.Omega.{arith}
use lib.Dec.{eqb, leb}
use lib.ListN.{length, length-map, length-append}
use borrow.Author.Tests.{leb-true, leb-false, eqb-true, eqb-false, eq-eqb}
use Rattle.words.specs.Choice.{if_true◌then◌else◌, one}
use Rattle.words.specs.Lists.{keep, count}
use Rattle.history.specs.Handles.{Alive, global_or_weak}
use Rattle.history.specs.Buffers.{Pin}
use Rattle.history.specs.Leaks.{Made, by_what, Leak, buffer_leak, handle_leak, placed, by_line, leaks_of}
use Rattle.history.specs.LeakOrder.{made_in_line, of_making_line, no_more, then_more, InOrder, Ascending}
use Rattle.history.proofs.Counts.{count_cons, count_all, length_keep, member_counts, keep_append, keep_kept, keep_map}
use Rattle.history.proofs.Tests.{either}

-- ---- none is lost or added

count_placed : (f : Leak → Bool) (x : Leak) (ys : List Leak) → count f (placed x ys) ≡ one (f x) + count f ys
count_placed f x [] = count_cons f x []
count_placed f x (y ∷ ys) = go (leb x.line y.line) (count_placed f x ys)
  where
    go : (b : Bool) → count f (placed x ys) ≡ one (f x) + count f ys → count f (if_true b then x ∷ y ∷ ys else y ∷ placed x ys) ≡ one (f x) + count f (y ∷ ys)
    go true ih = count_cons f x (y ∷ ys)
    go false ih = omega (arith, ih, count_cons f y ys, count_cons f y (placed x ys))

pub count_by_line : (f : Leak → Bool) (xs : List Leak) → count f (by_line xs) ≡ count f xs
unfolding by_line
count_by_line f [] = refl
count_by_line f (x ∷ xs) = omega (arith, count_placed f x (by_line xs), count_by_line f xs, count_cons f x xs)

length_by_line : (xs : List Leak) → length (by_line xs) ≡ length xs
length_by_line xs = sym (count_all (by_line xs)) ∙ count_by_line (λ x. true) xs ∙ count_all xs

-- one for each buffer, and for each global or weak
pub length_leaks : (ps : List (Made Pin)) (hs : List (Made Alive)) → length (leaks_of ps hs) ≡ length ps + count (by_what global_or_weak) hs
unfolding leaks_of
length_leaks ps hs =
    let shared_ones = keep (by_what global_or_weak) hs in
    omega (
      arith,
      length_by_line (map buffer_leak ps ++ map handle_leak shared_ones),
      length-append (map buffer_leak ps) (map handle_leak shared_ones),
      length-map ps buffer_leak,
      length-map shared_ones handle_leak,
      length_keep (by_what global_or_weak) hs,
    )

member_placed : {z : Leak} (x : Leak) (ys : List Leak) → Memᴰ z (placed x ys) → Memᴰ z (x ∷ ys)
member_placed x [] m = m
member_placed {z} x (y ∷ ys) m = go (leb x.line y.line) (member_placed x ys) m
  where
    later : Memᴰ z (x ∷ ys) → Memᴰ z (x ∷ y ∷ ys)
    later k = either (Memᴰ.cases_cons k) (λ is. Memᴰ.head is) (λ j. Memᴰ.tail (Memᴰ.tail j))

    go : (b : Bool) → (Memᴰ z (placed x ys) → Memᴰ z (x ∷ ys)) → Memᴰ z (if_true b then x ∷ y ∷ ys else y ∷ placed x ys) → Memᴰ z (x ∷ y ∷ ys)
    go true ih k = k
    go false ih k = either (Memᴰ.cases_cons k) (λ is. Memᴰ.tail (Memᴰ.head is)) (λ j. later (ih j))

pub member_by_line : {z : Leak} (xs : List Leak) → Memᴰ z (by_line xs) → Memᴰ z xs
unfolding by_line
member_by_line [] m = m
member_by_line {z} (x ∷ xs) m =
    either (Memᴰ.cases_cons (member_placed x (by_line xs) m)) (λ is. Memᴰ.head is) (λ j. Memᴰ.tail (member_by_line xs j))

-- ---- in order

placed_in_order : (x : Leak) (ys : List Leak) → InOrder ys → InOrder (placed x ys)
placed_in_order x [] k = then_more x [] (λ y m. absurd (Memᴰ.not-nil m)) no_more
placed_in_order x (y ∷ ys) (then_more _ _ before rest) = go (leb x.line y.line) refl (placed_in_order x ys rest)
  where
    go : (b : Bool) → leb x.line y.line ≡ b → InOrder (placed x ys) → InOrder (if_true b then x ∷ y ∷ ys else y ∷ placed x ys)
    go true e ih =
        let le = leb-true x.line y.line e in
        then_more x (y ∷ ys)
        (λ z m. either (Memᴰ.cases_cons m) (λ is. omega (arith, le, ap (λ (u : Leak). u.line) is)) (λ j. omega (arith, le, before z j)))
        (then_more y ys before rest)
    go false e ih =
        let lt = leb-false x.line y.line e in
        then_more y (placed x ys)
        (λ z m. either (Memᴰ.cases_cons (member_placed x ys m)) (λ is. omega (arith, lt, ap (λ (u : Leak). u.line) is)) (λ j. before z j))
        ih

pub in_order : (xs : List Leak) → InOrder (by_line xs)
unfolding by_line
in_order [] = no_more
in_order (x ∷ xs) = placed_in_order x (by_line xs) (in_order xs)

-- ---- of one line as they stood

keep_placed : (n : ℕ) (x : Leak) (ys : List Leak) → keep (of_making_line n) (placed x ys) ≡ keep (of_making_line n) (x ∷ ys)
keep_placed n x [] = refl
keep_placed n x (y ∷ ys) = go (leb x.line y.line) refl (keep_placed n x ys)
  where
    turned : (p q : Bool) (l : List Leak) → (p ≡ true → q ≡ true → ⊥) → (if_true q then y ∷ (if_true p then x ∷ l else l) else if_true p then x ∷ l else l) ≡ (if_true p then x ∷ (if_true q then y ∷ l else l) else if_true q then y ∷ l else l)
    turned true true l h = absurd (h refl refl)
    turned true false l h = refl
    turned false true l h = refl
    turned false false l h = refl

    go : (b : Bool) → leb x.line y.line ≡ b → keep (of_making_line n) (placed x ys) ≡ keep (of_making_line n) (x ∷ ys)
        → keep (of_making_line n) (if_true b then x ∷ y ∷ ys else y ∷ placed x ys) ≡ keep (of_making_line n) (x ∷ y ∷ ys)
    go true e ih = refl
    go false e ih =
        ap (λ (l : List Leak). if_true of_making_line n y then y ∷ l else l) ih
        ∙ turned (of_making_line n x) (of_making_line n y) (keep (of_making_line n) ys)
        (λ p q. omega (arith, leb-false x.line y.line e, eqb-true x.line n p, eqb-true y.line n q))

kept_by_line : (n : ℕ) (xs : List Leak) → keep (of_making_line n) (by_line xs) ≡ keep (of_making_line n) xs
unfolding by_line
kept_by_line n [] = refl
kept_by_line n (x ∷ xs) = keep_placed n x (by_line xs) ∙ ap (λ (l : List Leak). if_true of_making_line n x then x ∷ l else l) (kept_by_line n xs)

-- ---- the leaks

pub leaks_in_order : (ps : List (Made Pin)) (hs : List (Made Alive)) → InOrder (leaks_of ps hs)
unfolding leaks_of
leaks_in_order ps hs = in_order (map buffer_leak ps ++ map handle_leak (keep (by_what global_or_weak) hs))

pub of_one_line : (n : ℕ) (ps : List (Made Pin)) (hs : List (Made Alive))
    → keep (of_making_line n) (leaks_of ps hs)
    ≡ map buffer_leak (keep (made_in_line n) ps) ++ map handle_leak (keep (λ x. global_or_weak x.what && made_in_line n x) hs)
unfolding leaks_of
of_one_line n ps hs =
    let shared_ones = keep (by_what global_or_weak) hs in
    kept_by_line n (map buffer_leak ps ++ map handle_leak shared_ones)
    ∙ keep_append (of_making_line n) (map buffer_leak ps) (map handle_leak shared_ones)
    ∙ ap₂ (λ (l m : List Leak). l ++ m) (keep_map (of_making_line n) buffer_leak ps)
    (keep_map (of_making_line n) handle_leak shared_ones ∙ ap (map handle_leak) (keep_kept (made_in_line n) (by_what global_or_weak) hs))

-- ---- where no two are of one line

pub ascending : (xs : List Leak) → InOrder xs → ((n : ℕ) → count (of_making_line n) xs ≤ 1) → Ascending xs
ascending [] k single = no_more
ascending (x ∷ xs) (then_more _ _ before rest) single =
    then_more x xs
    (λ y m. apart y (before y m) m)
    (ascending xs rest (λ n. omega (arith, count_cons (of_making_line n) x xs, single n)))
  where
    apart : (y : Leak) → x.line ≤ y.line → Memᴰ y xs → x.line < y.line
    apart y le m = go (eqb y.line x.line) refl
      where
        go : (b : Bool) → eqb y.line x.line ≡ b → x.line < y.line
        go true e =
            absurd (omega (
              arith,
              single x.line,
              count_cons (of_making_line x.line) x xs,
              ap one (eq-eqb x.line x.line refl),
              member_counts (of_making_line x.line) xs y m e,
            ))
        go false e = omega (arith, le, eqb-false y.line x.line e)
