-- `answers::Judged::findings` meets its contract. Assumes nothing.
use mathlib.Core.Path.{sym, ap, ◌∙◌}
use Rattle.answers.specs.Answer.{findings_of}
use Rattle.answers.proofs.OfLine.{clean_listed}
use Rattle.answers.proofs.Judged.findings.Goals as goal

pub returns-then-is_clean : goal.returns-then-is_clean
returns-then-is_clean c = c.none.ensures ∙ ap findings_of (sym (clean_listed _ (sym c.is_clean.ensures ∙ c.if-is_clean.true)))
