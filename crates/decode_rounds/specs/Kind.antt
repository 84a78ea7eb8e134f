-- The kinds of answer in the code.
-- Assumes nothing.
use Rattle.std.specs.Prelude.{◌≡◌, ℕ}
use Rattle.spec_decoding.specs.Decode as D
use Rattle.decode_rounds.specs.declared.Kind.{Kind}
use Rattle.decode_rounds.specs.declared.Kind.TheVariants.{Clean, Mended, Stalled, Spent}

-- the kind that each case of the code's enum stands for
abbrev pub kind_of : Kind → D.Kind
kind_of Clean = D.clean
kind_of Mended = D.mended
kind_of Stalled = D.stalled
kind_of Spent = D.spent

-- the letter of its kind
abbrev pub letter_of : Kind → ℕ
letter_of kind = D.letter (kind_of kind)

-- what the conversion to a letter gives
abbrev pub Letters : Kind → ℕ → Type 0
Letters kind byte = byte ≡ letter_of kind
