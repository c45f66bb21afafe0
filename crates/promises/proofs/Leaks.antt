-- Calls of the list of leaks: what the contract says is the list over lent tables, and so what is proved of it. Assumes nothing.
use Prim.Native.Nat.{ℕ}
use mathlib.Core.Path.{◌≡◌, ap, ap₂, sym, ◌∙◌}
use mathlib.Core.List.{List}
use Rattle.std.specs.Prelude.{Result, Err}
use Rattle.lines.specs.declared.refusal.Refusal.{Refusal}
use Rattle.lines.specs.Numbered.{number_of}
use Rattle.tables.specs.Tables.{Tables}
use Rattle.tables.specs.Listing.{Listing, lists, list_of}
use Rattle.leaks.specs.Reply.{reply_of}
use Rattle.demands.proofs.Demands.{demands}
use Rattle.promises.specs.Calls.{Lists}
use Rattle.promises.specs.Promises.{LeaksListed, UnlistedChangesNothing}
use Rattle.promises.proofs.Steps.{tables_are}

list_is : (T : Tables) (ns ns' : List ℕ) (r : Result ℕ Refusal) → Lists T ns r ns' → lists (reply_of r) ns' ≡ list_of T ns
list_is T ns ns' r c = ap (lists (reply_of r)) (sym c.given_back) ∙ c.promised T.classes ∙ ap₂ list_of c.read c.slice

pub leaks_listed : LeaksListed
leaks_listed T S calls ns ns' r long before c =
    list_is S ns ns' r c ∙ ap (λ (X : Tables). list_of X ns) (tables_are T S calls before) ∙ (demands.from_a_start T long calls).lists ns

pub unlisted_changes_nothing : UnlistedChangesNothing
unlisted_changes_nothing T ns ns' k c =
    let is = list_is T ns ns' (Err k) c in
    let refused = sym (ap (λ (l : Listing). l.reply) is) in
    let any = demands.of_any_tables T in
    (ap (λ (l : Listing). l.left) is ∙ any.list_untouched ns (number_of k) refused, any.list_numbered ns (number_of k) refused)
