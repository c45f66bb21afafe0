-- Calls of the code: what a function may answer and leave, by the contract that the checker makes of its text. Assumes nothing.
-- Of a function f the checker makes `f.ended`, its signature, and `f.Reads.Learnt`, what a caller learns of the reply and of what is left.
use Rattle.std.specs.Prelude.{ℕ, ◌≡◌, List, [], ◌∷◌, Result}
use contract.Lifetimes.{Lfts}
use denote.Triple.Entry.{Args}
use denote.Triple.Clauses.{Lasts, at_exit}
use Rattle.lines.proofs as lines
use Rattle.lines.specs.contracts as of_lines
use Rattle.writer.proofs as writer
use Rattle.writer.specs.contracts as of_writer
use Rattle.judge.proofs as judge
use Rattle.judge.specs.contracts as of_judge
use Rattle.leaks.proofs as leaks
use Rattle.leaks.specs.contracts as of_leaks
use Rattle.lines.specs.declared.Event.{Event}
use Rattle.lines.specs.declared.refusal.Refusal.{Refusal}
use Rattle.answers.specs.Answer.{Answer}
use Rattle.tables.specs.Tables.{Tables, tables}

-- a call of `lines::read_line` on these bytes answers r and leaves these slots
pub record Reads (bs : List ℕ) (r : Result Event Refusal) (hs : List ℕ) : Type 0 where
  pub κs : Lfts (of_lines.read_line.ended).signature.lifetimes
  pub args : Args (of_lines.read_line.ended).signature κs
  pub left : Lasts of_lines.read_line.ended κs args
  pub line : args.0.now ≡ bs
  pub slots : left.1.0 ≡ hs
  pub promised : lines.read_line.Reads.Learnt κs args r (at_exit of_lines.read_line.ended κs args left)

-- a call of `writer::write_line` on a buffer d, what the reader answered and these slots answers r and leaves d'
pub record Writes (d : List ℕ) (e : Result Event Refusal) (hs : List ℕ) (r : Result ℕ Refusal) (d' : List ℕ) : Type 0 where
  pub κs : Lfts (of_writer.write_line.ended).signature.lifetimes
  pub args : Args (of_writer.write_line.ended).signature κs
  pub left : Lasts of_writer.write_line.ended κs args
  pub buffer : args.0.now ≡ d
  pub event : args.1.0 ≡ e
  pub slots : args.1.1.0.now ≡ hs
  pub written : left.0 ≡ d'
  pub promised : writer.write_line.Reads.Learnt κs args r (at_exit of_writer.write_line.ended κs args left)

-- a call of `judge::start` on tables T leaves S
pub record Starts (T S : Tables) : Type 0 where
  pub κs : Lfts (of_judge.start.ended).signature.lifetimes
  pub args : Args (of_judge.start.ended).signature κs
  pub left : Lasts of_judge.start.ended κs args
  pub lent : tables args.0.now args.1.0.now args.1.1.0.now args.1.1.1.0.now args.1.1.1.1.0.now args.1.1.1.1.1.0.now ≡ T
  pub given_back : tables left.0 left.1.0 left.1.1.0 left.1.1.1.0 left.1.1.1.1.0 left.1.1.1.1.1.0 ≡ S
  pub promised : judge.start.Reads.Learnt κs args tt (at_exit of_judge.start.ended κs args left)

-- a call of `judge::step` on tables T and a line answers r and leaves S
pub record Steps (T : Tables) (bs : List ℕ) (r : Answer) (S : Tables) : Type 0 where
  pub κs : Lfts (of_judge.step.ended).signature.lifetimes
  pub args : Args (of_judge.step.ended).signature κs
  pub left : Lasts of_judge.step.ended κs args
  pub line : args.0.now ≡ bs
  pub lent : tables args.1.0.now args.1.1.0.now args.1.1.1.0.now args.1.1.1.1.0.now args.1.1.1.1.1.0.now args.1.1.1.1.1.1.0.now ≡ T
  pub given_back : tables left.1.0 left.1.1.0 left.1.1.1.0 left.1.1.1.1.0 left.1.1.1.1.1.0 left.1.1.1.1.1.1.0 ≡ S
  pub promised : judge.step.Reads.Learnt κs args r (at_exit of_judge.step.ended κs args left)

-- a call of `leaks::list` on tables T, whose classes it is not lent, and a slice ns answers r and leaves ns'
pub record Lists (T : Tables) (ns : List ℕ) (r : Result ℕ Refusal) (ns' : List ℕ) : Type 0 where
  pub κs : Lfts (of_leaks.list.ended).signature.lifetimes
  pub args : Args (of_leaks.list.ended).signature κs
  pub left : Lasts of_leaks.list.ended κs args
  pub read : tables args.0.now args.1.0.now args.1.1.0.now args.1.1.1.0.now args.1.1.1.1.0.now T.classes ≡ T
  pub slice : args.1.1.1.1.1.0.now ≡ ns
  pub given_back : left.1.1.1.1.1.0 ≡ ns'
  pub promised : leaks.list.Reads.Learnt κs args r (at_exit of_leaks.list.ended κs args left)

-- a start on tables T, then a step for each of these lines, newest first, each on what the one before left: at last S is left
pub data Called (T : Tables) : List (List ℕ) → Tables → Type 0 where
  started : {S : Tables} → Starts T S → Called T [] S
  stepped : {calls : List (List ℕ)} {S S' : Tables} {bs : List ℕ} {r : Answer} → Called T calls S → Steps S bs r S' → Called T (bs ∷ calls) S'
