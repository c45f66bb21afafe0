-- `book::set_env` meets its contract. Assumes nothing.
use Rattle.book.proofs.Steps.{env_stored}
use Rattle.book.proofs.set_env.Goals as goal

pub returns : goal.returns
returns c = search env_stored
