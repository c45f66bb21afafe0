-- A column of the code that passes one computed test has the letter of every number. Assumes nothing.
use mathlib.Core.Path.{◌≡◌, refl, ap, sym, ◌∙◌}
use mathlib.Core.Bool.{Bool, true, false, not}
use mathlib.Core.List.{List}
use Prim.Native.Nat.{ℕ, ◌*◌, ◌<◌}
use native.Mathlib.Omega.{arith}
use native.Mathlib.Decide.{dec_lt}
use lib.Dec.{eqb}
use borrow.Author.Tests.{lt-ltb, le-ltb, eqb-true}
use Rattle.words.specs.Choice.{one}
use Rattle.facts.specs.Table.{place, result_in, Fact, fact_of, no_fact, is_function, family}
use Rattle.facts.specs.Classes.{class_a, class_b}
use Rattle.facts.specs.Places.{places_of}
use Rattle.facts.specs.Identities.{wanted_of, writes_field}
use Rattle.facts.specs.Letters.{no_letter, place_letter, result_letter, family_in, places_in, wanted_in, wanted_letter, written_in, line_length, lines, in_lines, letter_at}
use Rattle.facts.specs.declared.identities.Wanted.{Wanted}
use Rattle.facts.specs.declared.Place.{Place}
use Rattle.facts.specs.declared.places.Places.{Places}
use Rattle.facts.specs.declared.Result.{Result}
use Rattle.facts.proofs.Outside.{no_fact_outside, no_family_outside, no_class_a_outside, no_class_b_outside, nothing_wanted_outside, writes_nothing_outside, above_last}
use Rattle.facts.proofs.Each.{each, each_at}
use Rattle.facts.proofs.Letters.{place_back, result_back, wanted_back, one_back}

abbrev numbers : ℕ
numbers = lines * line_length

-- the test: what is read from the column's letter is what is computed from document 01's ranges, at each number
abbrev pub agrees : (ℕ → ℕ) → (ℕ → ℕ) → List (List ℕ) → Bool
agrees read said t = each (λ f. eqb (read (in_lines t f)) (said f)) numbers

-- a mark is any letter
abbrev pub marked : ℕ → Bool
marked x = not (eqb x no_letter)

module _ (t : List (List ℕ)) where
  at_every : (read said : ℕ → ℕ) → agrees read said t ≡ true → ((f : ℕ) → is_function f ≡ false → said f ≡ read no_letter) → (f : ℕ) → read (letter_at t f) ≡ said f
  unfolding letter_at
  at_every read said tested outside f = go (dec_lt f numbers)
    where
      go : Dec (f < numbers) → read (letter_at t f) ≡ said f
      go (yes l) = rw (lt-ltb f numbers l) (eqb-true (read (in_lines t f)) (said f) (each_at (λ f. eqb (read (in_lines t f)) (said f)) numbers f tested l))
      go (no l) = rw (le-ltb f numbers (omega arith)) (sym (outside f (above_last f (omega arith))))

  module _ {x : ℕ} (f : ℕ) (here : x ≡ letter_at t f) where
    pub places_there : agrees (λ n. place_letter (places_in n).a) (λ f. place_letter (fact_of f).a) t ≡ true → agrees (λ n. place_letter (places_in n).b) (λ f. place_letter (fact_of f).b) t ≡ true
        → agrees (λ n. place_letter (places_in n).c) (λ f. place_letter (fact_of f).c) t ≡ true → agrees (λ n. (places_in n).first) class_a t ≡ true → agrees (λ n. (places_in n).second) class_b t ≡ true
        → {r : Places} → r ≡ places_in x → r ≡ places_of f
    places_there in_a in_b in_c at_first at_second given =
        given
        ∙ ap places_in here
        ∙ (λ i.
        record {
          a = place_told (λ p. p.a) (λ y. y.a) in_a refl i;
          b = place_told (λ p. p.b) (λ y. y.b) in_b refl i;
          c = place_told (λ p. p.c) (λ y. y.c) in_c refl i;
          first = at_every (λ n. (places_in n).first) class_a at_first no_class_a_outside f i;
          second = at_every (λ n. (places_in n).second) class_b at_second no_class_b_outside f i;
        })
      where
        place_told : (read : Places → Place) (part : Fact → Place) → agrees (λ n. place_letter (read (places_in n))) (λ f. place_letter (part (fact_of f))) t ≡ true
            → part no_fact ≡ read (places_in no_letter) → read (places_in (letter_at t f)) ≡ part (fact_of f)
        place_told read part tested none =
            sym (place_back (read (places_in (letter_at t f))))
            ∙ ap place (at_every (λ n. place_letter (read (places_in n))) (λ f. place_letter (part (fact_of f))) tested (λ f e. ap (λ x. place_letter (part x)) (no_fact_outside f e) ∙ ap place_letter none) f)
            ∙ place_back (part (fact_of f))

    pub result_there : agrees (λ n. n) (λ f. result_letter (fact_of f).result) t ≡ true → {r : Result} → r ≡ result_in x → r ≡ (fact_of f).result
    result_there tested given =
        given
        ∙ ap result_in (here ∙ at_every (λ n. n) (λ f. result_letter (fact_of f).result) tested (λ f e. ap (λ x. result_letter x.result) (no_fact_outside f e)) f)
        ∙ result_back (fact_of f).result

    pub mark_there : (allowed : ℕ → Bool) → agrees (λ n. one (marked n)) (λ f. one (allowed f)) t ≡ true → ((f : ℕ) → is_function f ≡ false → allowed f ≡ false) → marked x ≡ allowed f
    mark_there allowed tested none =
        ap marked here
        ∙ one_back (marked (letter_at t f)) (allowed f) (at_every (λ n. one (marked n)) (λ f. one (allowed f)) tested (λ f e. ap one (none f e)) f)

    pub family_there : agrees family_in family t ≡ true → {r : ℕ} → r ≡ family_in x → r ≡ family f
    family_there tested given = given ∙ ap family_in here ∙ at_every family_in family tested no_family_outside f

    pub wanted_there : agrees (λ n. wanted_letter (wanted_in n)) (λ f. wanted_letter (wanted_of f)) t ≡ true → {r : Wanted} → r ≡ wanted_in x → r ≡ wanted_of f
    wanted_there tested given =
        given
        ∙ ap wanted_in here
        ∙ sym (wanted_back (wanted_in (letter_at t f)))
        ∙ ap wanted_in (at_every (λ n. wanted_letter (wanted_in n)) (λ f. wanted_letter (wanted_of f)) tested (λ f e. ap wanted_letter (nothing_wanted_outside f e)) f)
        ∙ wanted_back (wanted_of f)

    pub written_there : agrees (λ n. one (written_in n)) (λ f. one (writes_field f)) t ≡ true → written_in x ≡ writes_field f
    written_there tested =
        ap written_in here
        ∙ one_back (written_in (letter_at t f)) (writes_field f) (at_every (λ n. one (written_in n)) (λ f. one (writes_field f)) tested (λ f e. ap one (writes_nothing_outside f e)) f)
