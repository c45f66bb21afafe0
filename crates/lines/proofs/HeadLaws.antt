-- What is read of a line by its letter and sizes, or why nothing is. Assumes nothing.
use mathlib.Core.Path.{◌≡◌, ap, sym, ◌∙◌}
use mathlib.Core.Bool.{true}
use mathlib.Core.List.{List}
use Prim.Native.Nat.{ℕ}
use Rattle.std.specs.Prelude.{Result, Ok, Err}
use lib.ListN.{length, get_or, drop}
use Rattle.lines.specs.Forms.{numbers_of}
use Rattle.lines.specs.Reading.{Read, refused, fields, of_fields}
use Rattle.lines.specs.Numbered.{number_of}
use Rattle.lines.specs.Sizes.{line_in}
use Rattle.lines.specs.Gathered.{fields_from, letter_alone, Gathered, gathered_as, made, said, Headed}
use Rattle.lines.specs.declared.heads.Tally.{Tally}
use Rattle.lines.specs.declared.heads.Head.{Head}
use Rattle.lines.specs.declared.refusal.Refusal.{Refusal}
use Rattle.lines.proofs.Content.{alone}
use Rattle.lines.proofs.Numbered.{never}
use Rattle.lines.proofs.GatheredLaws.{gathered_of, made_numbers, made_rest}

pub refused_headed : {k : Refusal} {x : Read} {vs : List ℕ} → refused (number_of k) ≡ x → Headed x (Err k) vs
refused_headed h = record { read = h; rest = λ e p. absurd (never (h ∙ p)) }

-- the head of what was gathered after a letter
pub gathered_headed : (s : List ℕ) → letter_alone s ≡ true → (t : Tally) (vs : List ℕ) → gathered_as t vs ≡ gathered_of (get_or s 0 0) (fields_from s 2)
    → {h : Result Head Refusal} → ((ws : List ℕ) → said h ws ≡ made (get_or s 0 0) t ws) → Headed (of_fields (fields s)) h vs
gathered_headed s a t vs g m =
    let b = get_or s 0 0 in
    let ws = fields_from s 2 in
    record {
      read = m vs ∙ ap (λ (r : Gathered). made b r.tally r.values) g ∙ made_numbers b ws ∙ sym (alone s a);
      rest = λ e p. ap (λ (r : Gathered). drop (length (numbers_of e)) r.values) g ∙ made_rest b ws e (sym (alone s a) ∙ p);
    }

module _ {x : Read} {r : Result Head Refusal} {vs : List ℕ} (k : Headed x r vs) where
  pub head_said : {h : Head} → r ≡ Ok h → line_in h.letter h.count h.minus vs ≡ x
  head_said e = sym (ap (λ (g : Result Head Refusal). said g vs) e) ∙ k.read
