-- What a guide keeps of any rows: each used row is listed and counted; one row more, one less. Assumes nothing.
use mathlib.Core.Path.{◌≡◌, refl, sym, ap, ◌∙◌}
use mathlib.Core.Bool.{Bool, true, false}
use mathlib.Core.List.{List}
use Rattle.std.specs.Prelude.{Option, None, Some}
use Prim.Native.Nat.{ℕ, suc, ◌+◌, ◌≤◌, ◌<◌}
use native.Mathlib.Omega.{arith}
use lib.Dec.{eqb}
use lib.ListN.{length, get_or, length-set}
use lib.Seq.{get_or-set_other}
use Rattle.words.specs.Choice.{if_true◌then◌else◌}
use Rattle.rows.specs.Slots.{holding}
use Rattle.rows.specs.Table.{Layout, Table}
use Rattle.guide.specs.Words.{full_word, named}
use Rattle.guide.specs.Listing.{word_at, lists, with_row, put_row_at, with_listed, Listed}
use Rattle.guide.specs.Tallies.{more_at, less_at, Tallied}
use Rattle.guide.proofs.Changes.{not_none, below_last, Added, Removed, still}
use Rattle.guide.proofs.ListingLaws.{listed_more}
use Rattle.guide.proofs.TallyLaws.{tally_more, tally_next, tallied_like, tallied_plus, tallied_minus}

pub more_length : (G : List ℕ) (k : ℕ) → length (more_at G k) ≡ length G
unfolding more_at
more_length G k = length-set G k _

pub less_length : (G : List ℕ) (k : ℕ) → length (less_at G k) ≡ length G
unfolding less_at
less_length G k = length-set G k _

-- a number that is not one of these places is as it was
pub more_elsewhere : (G : List ℕ) (k j d : ℕ) → (j ≡ k → ⊥) → get_or (more_at G k) j d ≡ get_or G j d
unfolding more_at
more_elsewhere G k j d n = get_or-set_other G k j _ d n

pub less_elsewhere : (G : List ℕ) (k j d : ℕ) → (j ≡ k → ⊥) → get_or (less_at G k) j d ≡ get_or G j d
unfolding less_at
less_elsewhere G k j d n = get_or-set_other G k j _ d n

-- the words of these two places are as they were
lists_same : (G H : List ℕ) (a b r : ℕ) → get_or H a full_word ≡ get_or G a full_word → get_or H b full_word ≡ get_or G b full_word → lists H a b r ≡ lists G a b r
unfolding lists word_at
lists_same G H a b r p q = rw (p, q) refl

module _ {A : Type 0} (L : Layout A) (first second cell : A → ℕ) (places end : ℕ) (first_low : (x : A) → first x < places) (second_low : (x : A) → second x < places)
    (cell_low : (x : A) → places + cell x < end) where
  listed_length : (T : Table) (G : List ℕ) (a b r : ℕ) → length (with_listed L first second T G a b r) ≡ length G
  unfolding with_listed
  listed_length T G a b r = go (named (with_row L first second T a (word_at G a) r) r)
    where
      go : (c : Bool) → length (if_true c then put_row_at L first second T G a r else put_row_at L first second T (put_row_at L first second T G a r) b r) ≡ length G
      go true = length-set G a _
      go false = length-set (put_row_at L first second T G a r) b _ ∙ length-set G a _

  listed_elsewhere : (T : Table) (G : List ℕ) (a b r j d : ℕ) → (j ≡ a → ⊥) → (j ≡ b → ⊥) → get_or (with_listed L first second T G a b r) j d ≡ get_or G j d
  unfolding with_listed
  listed_elsewhere T G a b r j d na nb = go (named (with_row L first second T a (word_at G a) r) r)
    where
      go : (c : Bool) → get_or (if_true c then put_row_at L first second T G a r else put_row_at L first second T (put_row_at L first second T G a r) b r) j d ≡ get_or G j d
      go true = get_or-set_other G a j _ d na
      go false = get_or-set_other (put_row_at L first second T G a r) b j _ d nb ∙ get_or-set_other G a j _ d na

  pub record Kept (S : ℕ → Option A) (n : ℕ) (G : List ℕ) : Type 0 where
    pub long : end ≤ length G
    pub listed : Listed L first second S n G
    pub tallied : Tallied cell places end S n G

  -- with row r, which holds x
  abbrev pub with_kept : Table → List ℕ → ℕ → A → List ℕ
  with_kept T G r x = more_at (with_listed L first second T G (first x) (second x) r) (places + cell x)

  pub kept_length : (T : Table) (G : List ℕ) (r : ℕ) (x : A) → length (with_kept T G r x) ≡ length G
  kept_length T G r x = more_length (with_listed L first second T G (first x) (second x) r) (places + cell x) ∙ listed_length T G (first x) (second x) r

  -- all numbers behind the tallies are as they were
  pub kept_elsewhere : (T : Table) (G : List ℕ) (r : ℕ) (x : A) (j d : ℕ) → end ≤ j → get_or (with_kept T G r x) j d ≡ get_or G j d
  kept_elsewhere T G r x j d l =
      more_elsewhere (with_listed L first second T G (first x) (second x) r) (places + cell x) j d (λ q. absurd (omega (arith, q, cell_low x)))
      ∙ listed_elsewhere T G (first x) (second x) r j d (λ q. absurd (omega (arith, q, first_low x, cell_low x))) (λ q. absurd (omega (arith, q, second_low x, cell_low x)))

  pub kept_more : (T : Table) (G : List ℕ) (S S' : ℕ → Option A) (n n' r : ℕ) (x : A) → Added L T S n S' n' r x → Kept S n G → Kept S' n' (with_kept T G r x)
  kept_more T G S S' n n' r x d c =
      record {
        long = omega (arith, c.long, kept_length T G r x);
        listed = λ k y l e.
            lists_same W (with_kept T G r x) (first y) (second y) k
            (more_elsewhere W (places + cell x) (first y) full_word (λ q. absurd (omega (arith, q, first_low y))))
            (more_elsewhere W (places + cell x) (second y) full_word (λ q. absurd (omega (arith, q, second_low y))))
            ∙ listed_more L first second T G S S' n n' r x (omega (arith, first_low x, cell_low x, c.long)) (omega (arith, second_low x, cell_low x, c.long)) d c.listed k y l e;
        tallied = tallied_plus cell places end W x S S' n n' (cell_low x) (omega (arith, listed_length T G (first x) (second x) r, c.long)) d.few (d.grows cell)
            (λ k h. listed_elsewhere T G (first x) (second x) r (places + k) 0 (λ q. absurd (omega (arith, q, first_low x))) (λ q. absurd (omega (arith, q, second_low x))) ∙ c.tallied k h);
      }
    where
      W : List ℕ
      W = with_listed L first second T G (first x) (second x) r

  -- row r, which held x, is free
  pub kept_less : (G : List ℕ) (S S' : ℕ → Option A) (n r : ℕ) (x : A) → Removed L S S' n r x → Kept S n G → Kept S' n (less_at G (places + cell x))
  kept_less G S S' n r x d c =
      record {
        long = omega (arith, c.long, less_length G (places + cell x));
        listed = λ k y m e.
            lists_same G (less_at G (places + cell x)) (first y) (second y) k
            (less_elsewhere G (places + cell x) (first y) full_word (λ q. absurd (omega (arith, q, first_low y))))
            (less_elsewhere G (places + cell x) (second y) full_word (λ q. absurd (omega (arith, q, second_low y))))
            ∙ c.listed k y m (still L d k y m e);
        tallied = tallied_minus cell places end G x S S' n (cell_low x) c.long (tally_more cell S' S n r x d.low d.is d.was (λ k m u. sym (d.same k m u))) c.tallied;
      }

  -- rows with the same places and cells
  pub kept_like : (G : List ℕ) (S S' : ℕ → Option A) (n : ℕ) → ((k : ℕ) → k < n → (j : ℕ) → holding (λ (x : A). eqb (cell x) j) (S' k) ≡ holding (λ (x : A). eqb (cell x) j) (S k))
      → ((k : ℕ) (y : A) → k < n → S' k ≡ Some y → lists G (first y) (second y) k ≡ true) → Kept S n G → Kept S' n G
  kept_like G S S' n cells_same shown c =
      record {
        long = c.long;
        listed = λ k y l e. shown k y l e;
        tallied = tallied_like cell places end G S S' n cells_same c.tallied;
      }

  pub kept_same : (G : List ℕ) (S S' : ℕ → Option A) (n : ℕ) → ((k : ℕ) → k < n → S' k ≡ S k) → Kept S n G → Kept S' n G
  kept_same G S S' n same c =
      kept_like G S S' n (λ k m j. ap (holding (λ (x : A). eqb (cell x) j)) (same k m)) (λ k y m e. c.listed k y m (sym (same k m) ∙ e)) c

  -- numbers behind the tallies
  pub kept_beyond : (G H : List ℕ) (S : ℕ → Option A) (n : ℕ) → length H ≡ length G → ((j d : ℕ) → j < end → get_or H j d ≡ get_or G j d) → Kept S n G → Kept S n H
  kept_beyond G H S n e same c =
      record {
        long = omega (arith, c.long, e);
        listed = λ k y l i.
            lists_same G H (first y) (second y) k (same (first y) full_word (omega (arith, first_low y, cell_low y))) (same (second y) full_word (omega (arith, second_low y, cell_low y)))
            ∙ c.listed k y l i;
        tallied = λ k h. same (places + k) 0 h ∙ c.tallied k h;
      }

  -- a free row behind the others
  pub kept_skip : (G : List ℕ) (S : ℕ → Option A) (n : ℕ) → S n ≡ None → Kept S n G → Kept S (suc n) G
  kept_skip G S n free c =
      record {
        long = c.long;
        listed = λ k y l e. c.listed k y (below_last k n l (λ q. not_none y (sym free ∙ ap S (sym q) ∙ e))) e;
        tallied = λ k h. c.tallied k h ∙ omega (arith, tally_next cell S n None free k);
      }
