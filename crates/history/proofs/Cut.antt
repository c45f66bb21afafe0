-- The lines of an input are cut after each LF, and are the input again when joined. Assumes nothing.
use Prim.Native.Nat.{ℕ}
use mathlib.Core.Path.{◌≡◌, refl, sym, ap, ◌∙◌}
use mathlib.Core.Logic.{◌≢◌}
use mathlib.Core.List.Memᴰ
use mathlib.Core.List.{List, [], ◌∷◌, Memᴰ, nil≢cons}
use lib.Dec.{eqb}
use borrow.Author.Tests.{eqb-true, eqb-false}
use Rattle.words.specs.Lists.{joined}
use Rattle.words.specs.Text.{line_feed}
use Rattle.lines.specs.Reading.{onto_first}
use Rattle.history.specs.Report.{lines_of}
use Rattle.history.specs.Cut.{Cut, no_more, ended, rest}
use Rattle.history.proofs.Tests.{either, whether}

joined_onto : (b : ℕ) (lines : List (List ℕ)) → joined (onto_first b lines) (λ bs. bs) ≡ b ∷ joined lines (λ bs. bs)
joined_onto b [] = refl
joined_onto b (bs ∷ lines) = refl

pub lines_joined : (input : List ℕ) → joined (lines_of input) (λ bs. bs) ≡ input
unfolding lines_of
lines_joined [] = refl
lines_joined (b ∷ input) =
    let ih : b ∷ joined (lines_of input) (λ bs. bs) ≡ b ∷ input = ap (λ (bs : List ℕ). b ∷ bs) (lines_joined input) in
    whether (eqb b line_feed) (λ is. rw is ih) (λ is. rw is (joined_onto b (lines_of input) ∙ ih))

-- another byte before it
no_feed : (b : ℕ) (bs : List ℕ) → b ≢ line_feed → ¬ Memᴰ line_feed bs → ¬ Memᴰ line_feed (b ∷ bs)
no_feed b bs d h m = either (Memᴰ.cases_cons m) (λ e. d (sym e)) h

cut_onto : (b : ℕ) (lines : List (List ℕ)) → b ≢ line_feed → Cut lines → Cut (onto_first b lines)
cut_onto b _ d no_more = rest (b ∷ []) (no_feed b [] d Memᴰ.not-nil) (λ e. nil≢cons (sym e))
cut_onto b _ d (ended bs lines h k) = ended (b ∷ bs) lines (no_feed b bs d h) k
cut_onto b _ d (rest bs h s) = rest (b ∷ bs) (no_feed b bs d h) (λ e. nil≢cons (sym e))

pub lines_cut : (input : List ℕ) → Cut (lines_of input)
unfolding lines_of
lines_cut [] = no_more
lines_cut (b ∷ input) =
    whether (eqb b line_feed)
    (λ is. rw (is, eqb-true b line_feed is) (ended [] (lines_of input) Memᴰ.not-nil (lines_cut input)))
    (λ is. rw is (cut_onto b (lines_of input) (eqb-false b line_feed is) (lines_cut input)))
