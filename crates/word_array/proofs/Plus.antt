-- The sum of two words of symbols below 2 ^ p is the exclusive or, place for place, whichever p is.
-- Assumes nothing.
use mathlib.Core.Path.{◌≡◌, sym, ap₂, ◌∙◌}
use mathlib.Core.List.{List}
use Prim.Native.Nat.{ℕ, ◌<◌}
use lib.Bits.{bit_xor}
use Rattle.spec_range.specs.Table.{padded}
use Rattle.spec_range.proofs.Loop.{padded_same}
use Rattle.spec_field.specs.Symbols.{gf}
use Rattle.spec_word.specs.Word.{plus}
use Rattle.spec_word.proofs.Place.{at_lt, at-plus}
use Rattle.word_array.specs.Stored.{place}

pub plus-at : (p n : ℕ) (a b : List ℕ) {j : ℕ} → j < n → place (plus (gf p) n a b) j ≡ bit_xor (place a j) (place b j)
plus-at p n a b l = sym (at_lt n (plus (gf p) n a b) l) ∙ at-plus (gf p) n a b l ∙ ap₂ bit_xor (at_lt n a l) (at_lt n b l)

pub padded-plus : (size p n : ℕ) (a b : List ℕ) → padded size n (λ j. bit_xor (place a j) (place b j)) ≡ padded size n (place (plus (gf p) n a b))
padded-plus size p n a b = padded_same size n (λ k l. sym (plus-at p n a b l))
