-- What an event that was read and its slots stand for. Assumes nothing.
use Rattle.std.specs.Prelude.{ℕ, List, take, Result, Ok, Err}
use Rattle.lines.specs.Line.{N, X, C, R, A, D, Z, K, O, M, states}
use Rattle.lines.specs.Reading.{Read, says, refused}
use Rattle.lines.specs.Events.{result_in_line}
use Rattle.lines.specs.Numbered.{number_of}
use Rattle.lines.specs.declared.Event.{Event}
use Rattle.lines.specs.declared.refusal.Refusal.{Refusal}
use Rattle.tables.specs.Acting.{items_moved}

abbrev pub read_as : Event → List ℕ → Read
read_as (Event.Enter t env n) hs = says (N t env (take n hs))
read_as (Event.Leave t r) hs = says (X t r)
read_as (Event.Call t env f a b c n) hs = says (C t env f a b c n)
read_as (Event.Return t f h s p) hs = says (R t f (result_in_line f h s) p)
read_as (Event.Attach t env) hs = says (A t env)
read_as (Event.Detach t) hs = says (D t)
read_as (Event.Declare c s) hs = says (states (K c s))
read_as (Event.State t h c) hs = says (states (O t h c))
read_as (Event.Identify x sort c static final) hs = says (states (M x sort c static final))
read_as Event.End hs = says Z

-- the thread whose open items it is of, 0 for none
abbrev pub thread_named : Event → ℕ
thread_named (Event.Enter t env n) = t
thread_named (Event.Leave t r) = t
thread_named (Event.Call t env f a b c n) = t
thread_named (Event.Return t f h s p) = t
thread_named (Event.Attach t env) = t
thread_named (Event.Detach t) = t
thread_named (Event.Declare c s) = 0
thread_named (Event.State t h c) = 0
thread_named (Event.Identify x sort c static final) = 0
thread_named Event.End = 0

-- how many of the slots it names
abbrev pub slots_named : Event → ℕ
slots_named (Event.Enter t env n) = n
slots_named (Event.Leave t r) = 0
slots_named (Event.Call t env f a b c n) = 0
slots_named (Event.Return t f h s p) = 0
slots_named (Event.Attach t env) = 0
slots_named (Event.Detach t) = 0
slots_named (Event.Declare c s) = 0
slots_named (Event.State t h c) = 0
slots_named (Event.Identify x sort c static final) = 0
slots_named Event.End = 0

-- what was read, or was refused
abbrev pub thread_read : Result Event Refusal → ℕ
thread_read (Ok x) = thread_named x
thread_read (Err k) = 0

abbrev pub read_from : Result Event Refusal → List ℕ → Read
read_from (Ok x) hs = read_as x hs
read_from (Err k) hs = refused (number_of k)

-- the open items after what was read
abbrev pub items_after : Read → List ℕ → List ℕ
items_after (says e) b = items_moved e b
items_after (refused k) b = b
