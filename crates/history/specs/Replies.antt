-- The reply to the next line after any calls, refused ones among them. Assumes nothing.
use Rattle.std.specs.Prelude.{ℕ, suc, List, [], ◌∷◌, eqb, leb, length}
use Rattle.words.specs.Choice.{if_true◌then◌else◌}
use Rattle.lines.specs.Reading.{Read, says, refused, read}
use Rattle.history.specs.Past.{History}
use Rattle.history.specs.Seen.{seen}
use Rattle.history.specs.Acceptance.{Room, refusal}
use Rattle.history.specs.Findings.{of_line}
use Rattle.history.specs.declared.Finding.{Finding}

-- a trace has at most 1,000,000 lines
abbrev pub most_lines : ℕ
most_lines = 1000000

-- a line that was read, after the history
abbrev pub weighed : Room → History → Read → Read
weighed room past (refused k) = refused k
weighed room past (says e) = if_true eqb (refusal room e past) 0 then says e else refused (refusal room e past)

-- what these bytes are after these accepted lines: line 1,000,001 is 1 whatever it holds
unfoldable pub verdict : Room → History → List ℕ → Read
verdict room past bs = if_true leb most_lines (length past) then refused 1 else weighed room past (read bs)

pub data Reply : Type 0 where
  accepted : List Finding → Reply
  not_accepted : ℕ → Reply

abbrev pub reply_of : History → Read → Reply
reply_of past (refused k) = not_accepted k
reply_of past (says e) = accepted (of_line (suc (length past)) e (seen past))

unfoldable pub reply : Room → History → List ℕ → Reply
reply room past bs = reply_of past (verdict room past bs)

-- a refused line changes nothing
abbrev pub with_line : History → Read → History
with_line past (refused k) = past
with_line past (says e) = e ∷ past

-- the lines accepted of these calls; calls stand newest first
unfoldable pub heard : Room → List (List ℕ) → History
heard room [] = []
heard room (bs ∷ before) = with_line (heard room before) (verdict room (heard room before) bs)
