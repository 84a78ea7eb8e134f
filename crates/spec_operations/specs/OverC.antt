-- SCOPE 5.6 to 5.26: Two calls over C: what holds of the numbers that they return and of the buffers that they write.
-- Assumes nothing.
use Rattle.std.specs.Prelude.{◌≡◌, List, [], ◌∷◌, ℕ, ◌%◌}
use Rattle.spec_field.specs.Answer.{done}
use Rattle.spec_book.specs.Layout.{field_of, book_of}
use Rattle.spec_decoding.specs.Symmetry.{move}
use Rattle.spec_operations.specs.Packed.{bytes_of}
use Rattle.spec_operations.specs.Remainder.{Sorted}
use Rattle.spec_operations.specs.Game.{game_values}

-- SCOPE 5.6, 5.7: neither call, with the numbers r and r', is refused, and the second leaves what the first was given: a word, or a message written out
pub record GivenBackOverC (r r' : ℕ) (given back : List ℕ) : Type 0 where
  pub first_done : r ≡ 0
  pub second_done : r' ≡ 0
  pub given_back : back ≡ given

-- SCOPE 5.10: what two calls of decode return, r and r', and write; a caller over C does not see the matrices (4.2), and so nothing of 5.15
pub record RelatedOverC (bytes : List ℕ) (t c : ℕ) (v : List ℕ) (r r' : ℕ) (answer answer' : List ℕ) : Type 0 where
  -- SCOPE 4.2: the lowest byte is 0: neither is refused
  pub not_refused : r % 256 ≡ 0
  -- SCOPE 5.13: kind, rounds and changed, which the other bytes are, are equal
  pub same_number : r' ≡ r
  -- SCOPE 5.14: the answer word is moved as the received word was
  pub moved_answer : answer' ≡ move (field_of bytes) (book_of bytes).n t c v answer

-- SCOPE 5.18 to 5.20: neither of two calls of remainder is refused, and the remainders R and R' that they write are sorted as those of two such answers
pub record SortedOverC (bytes w w' : List ℕ) (r r' : ℕ) (R R' : List ℕ) : Type 0 where
  pub first_done : r ≡ 0
  pub second_done : r' ≡ 0
  pub sorted : Sorted bytes w w' (done []) (done []) R R'

-- SCOPE 5.21: two calls of code return the same number, and where it is 0 they write the same word
pub record SameWordOverC (r r' : ℕ) (w w' : List ℕ) : Type 0 where
  pub same_number : r ≡ r'
  pub same_word : r ≡ 0 → w ≡ w'

-- SCOPE 5.26: a game is not refused, none of its words is held, its letter is W, and its messages are those that were coded
pub record BackWholeOverC (r : ℕ) (given back : List ℕ) : Type 0 where
  pub whole : r ≡ bytes_of (0 ∷ game_values 0)
  pub given_back : back ≡ given
