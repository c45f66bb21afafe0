-- That the promise of the list of leaks is tight. Assumes nothing.
use mathlib.Core.Path.{◌≡◌, refl, sym, ap, ◌∙◌}
use mathlib.Core.List.{[]}
use Rattle.std.specs.Prelude.{ℕ, Result, Ok, Err}
use Rattle.leaks.proofs as leaks
use Rattle.leaks.specs.contracts as of_leaks
use Rattle.leaks.specs.Reply.{reply_of}
use Rattle.lines.proofs.Answered.{number_back}
use Rattle.lines.specs.Numbered.{number_of, refusal_of}
use Rattle.lines.specs.declared.refusal.Refusal.{Refusal}
use Rattle.tables.specs.Listing.{Listing}
use Rattle.tight.specs.Tight.{given, Tight}
use Rattle.tight.proofs.Shapes.{by_two}

one_number : (j k : Refusal) → number_of j ≡ number_of k → j ≡ k
one_number j k e = sym (number_back j) ∙ ap refusal_of e ∙ number_back k

one_reply : (x y : Result ℕ Refusal) → reply_of x ≡ reply_of y → x ≡ y
one_reply (Ok m) (Ok n) e = cc
one_reply (Ok m) (Err k) e = cc
one_reply (Err k) (Ok n) e = cc
one_reply (Err j) (Err k) e = ap Err (one_number j k cc)

pub list_tight : Tight of_leaks.list.ended leaks.list.Reads.Asked leaks.list.Reads.Learnt
list_tight κs args = (
  tt,
  λ x y p q.
      by_two (λ r l. given r (tt, (tt, (tt, (tt, (tt, (l, tt)))))))
      (one_reply x.reply y.reply (ap (λ (o : Listing). o.reply) (p [] ∙ sym (q []))), ap (λ (o : Listing). o.left) (p [] ∙ sym (q [])))
      (refl, refl),
)
