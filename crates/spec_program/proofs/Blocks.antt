-- The text of bytes that come in blocks: where the first part is a row of whole words, the texts of two parts join.
-- Assumes nothing.
use mathlib.Core.Path.{◌≡◌, refl, sym, ap, ap₂, ◌∙◌}
use mathlib.Core.List.{List, [], ◌∷◌, ◌++◌, append_assoc, append-nil}
use Prim.Native.Nat.{ℕ, zero, suc, ◌*◌, ◌/◌, ◌%◌, ◌≤◌, ◌<◌}
use native.Mathlib.Nat.{le_of_eq, suc-mul, div-eq-sub-div, div-eq_of_lt, mod-eq-sub-mod, mod-eq_of_lt}
use native.Mathlib.Numerals.{add-one}
use native.Mathlib.Omega.{arith}
use lib.ListN.{length, take, drop, length-drop, length-append, drop_of_length-le}
use lib.Seq.{take-append-le, drop-append-le, take_all}
use Rattle.spec_program.specs.Line.{refusal_line}
use Rattle.spec_program.specs.Output.{word_size, word_line, lines_of, piece_line, text_of}

pub piece_some : (size : ℕ) → 0 < size → piece_line size ≡ refusal_line 9
piece_some zero h = absurd (omega arith)
piece_some (suc size) h = refl

module _ (bytes : List ℕ) (pos : 0 < word_size bytes) where
  -- a word in front
  text-more : (words : List ℕ) → word_size bytes ≤ length words
      → text_of bytes words ≡ word_line bytes (take (word_size bytes) words) ++ text_of bytes (drop (word_size bytes) words)
  unfolding text_of lines_of
  text-more words l =
      let rest = drop (word_size bytes) words in
      ap₂ (λ (k r : ℕ). lines_of bytes k words ++ piece_line r)
      (div-eq-sub-div pos l ∙ add-one _ ∙ ap (λ (k : ℕ). suc (k / word_size bytes)) (sym (length-drop (word_size bytes) words)))
      (mod-eq-sub-mod l ∙ ap (λ (k : ℕ). k % word_size bytes) (sym (length-drop (word_size bytes) words)))
      ∙ append_assoc (word_line bytes (take (word_size bytes) words)) (lines_of bytes (length rest / word_size bytes) rest) (piece_line (length rest % word_size bytes))

  -- less than a word
  pub text_piece : (piece : List ℕ) → length piece < word_size bytes → text_of bytes piece ≡ piece_line (length piece)
  unfolding text_of lines_of
  text_piece piece l = ap₂ (λ (k r : ℕ). lines_of bytes k piece ++ piece_line r) (div-eq_of_lt l) (mod-eq_of_lt l)

  -- whole words, and then anything
  pub text_join : (count : ℕ) (a b : List ℕ) → length a ≡ count * word_size bytes → text_of bytes (a ++ b) ≡ text_of bytes a ++ text_of bytes b
  text_join zero [] b h = ap (λ (t : List ℕ). t ++ text_of bytes b) (sym (text_piece [] pos))
  text_join zero (x ∷ a) b h = absurd (omega arith)
  text_join (suc count) a b h =
      let n = word_size bytes in
      let l : n ≤ length a = omega (arith, suc-mul count n) in
      text-more (a ++ b) (omega (arith, length-append a b))
      ∙ ap₂ (λ (u v : List ℕ). word_line bytes u ++ text_of bytes v) (take-append-le n a b l) (drop-append-le n a b l)
      ∙ ap (λ (t : List ℕ). word_line bytes (take n a) ++ t) (text_join count (drop n a) b (omega (arith, suc-mul count n, length-drop n a)))
      ∙ sym (append_assoc (word_line bytes (take n a)) (text_of bytes (drop n a)) (text_of bytes b))
      ∙ ap (λ (t : List ℕ). t ++ text_of bytes b) (sym (text-more a l))

  -- one word
  pub text_word : (word : List ℕ) → length word ≡ word_size bytes → text_of bytes word ≡ word_line bytes word
  text_word word h =
      text-more word (le_of_eq (sym h))
      ∙ ap₂ (λ (u v : List ℕ). word_line bytes u ++ text_of bytes v) (take_all (word_size bytes) word (le_of_eq h)) (drop_of_length-le word (le_of_eq h))
      ∙ ap (λ (t : List ℕ). word_line bytes word ++ t) (text_piece [] pos)
      ∙ append-nil (word_line bytes word)
