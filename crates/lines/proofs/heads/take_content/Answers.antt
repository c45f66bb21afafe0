-- `lines::heads::take_content` meets its contract. Assumes nothing.
use mathlib.Core.Path.{ap, sym, ◌∙◌}
use borrow.Author.Tests.{not-true, not-false}
use Rattle.lines.specs.Gathered.{fields_from, nothing_yet, no_values, gathered_as, gathered}
use Rattle.lines.specs.declared.forms.Counts.{Counts}
use Rattle.lines.proofs.Content.{not_alone}
use Rattle.lines.proofs.HeadLaws.{refused_headed, gathered_headed}
use mathlib.Core.Bool.{not}
use Rattle.lines.proofs.heads.take_content.Goals as goal

pub returns-then-not-letter_alone : goal.returns-then-not-letter_alone
returns-then-not-letter_alone c = refused_headed (sym (not_alone c.args.s.now (sym c.letter_alone.ensures ∙ not-true c.letter_alone.result (ap not c.if-not-letter_alone.true))))

pub returns : goal.returns
returns c =
    let s = c.args.s.now in
    gathered_headed s (sym c.letter_alone.ensures ∙ not-false c.letter_alone.result (ap not c.if-not-letter_alone.false)) c.gather.result _
    (c.gather.ensures ∙ ap (λ (f : Counts). gathered f.signed (gathered_as nothing_yet no_values) (fields_from s 2)) c.counts_of-counts.ensures)
    c.take_gathered.ensures
