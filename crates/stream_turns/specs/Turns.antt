-- The turns of a run: each reads a piece and prints its text. Which turn is the last, and how many there may be.
-- Assumes nothing.
use Rattle.std.specs.Prelude.{Bool, true, cond, not, ◌||◌, List, ◌++◌, ℕ, zero, suc, ◌+◌, ◌-◌, ◌*◌, ◌/◌, eqb, length, take, drop}
use Rattle.spec_program.specs.Output.{longest_input}
use Rattle.spec_program.specs.Machine.{State, is_over, steps, steps_text, finish_text}

-- the bytes of a piece: 100 of the longest words
abbrev pub piece_size : ℕ
piece_size = 100 * 255

-- the most turns: as many pieces as hold the longest input that matters
abbrev pub turns : ℕ
turns = longest_input / piece_size + 1

-- a turn is the last where its write failed, its read was short or the run has ended
abbrev pub is_last : Bool → Bool → Bool → Bool
is_last sent full over = not sent || not full || over

-- how many turns are left after one
unfoldable pub turns_left : ℕ → Bool → Bool → Bool → ℕ
turns_left left sent full over = cond (is_last sent full over) 0 (left - 1)

-- what at most `left` turns and the end of input print from the state s, where every write succeeds: each turn reads the next piece of the input,
-- which is short where less is left
unfoldable pub turns_text : ℕ → State → List ℕ → List ℕ
turns_text zero s input = finish_text s
turns_text (suc left) s input =
    let piece = take piece_size input in
    let s' = steps s piece in
    let more = turns_text left s' (drop piece_size input) in
    steps_text s piece ++ cond (is_last true (eqb (length piece) piece_size) (is_over s')) (finish_text s') more
