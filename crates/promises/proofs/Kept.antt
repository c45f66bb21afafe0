-- The code keeps what is demanded of it. Assumes nothing.
use Rattle.promises.specs.Promises.{Promises}
use Rattle.promises.proofs.Lines.{written_is_read, read_is_written}
use Rattle.promises.proofs.Leaks.{leaks_listed, unlisted_changes_nothing}
use Rattle.promises.proofs.Steps.{refusal_changes_nothing, refusal_number, answers, refusal_answers, tables_are}

pub promises : Promises
promises =
    record {
      refusal_changes_nothing = refusal_changes_nothing;
      refusal_number = refusal_number;
      written_is_read = written_is_read;
      read_is_written = read_is_written;
      answers = answers;
      refusal_answers = refusal_answers;
      tables_are = tables_are;
      leaks_listed = leaks_listed;
      unlisted_changes_nothing = unlisted_changes_nothing;
    }
