-- How two words are compared, one of them by the table of its multiples, and what is known of them then.
-- Assumes nothing.
use Rattle.std.specs.Prelude.{◌≡◌, Bool, ◌&&◌, List, ℕ, ◌+◌, ◌*◌, ◌^◌, ◌≤◌, ◌<◌, eqb, length}
use Rattle.spec_range.specs.Fold.{all}
use Rattle.spec_word.specs.Word.{nonzero}
use Rattle.sizes.specs.Blocks.{span, stride}
use Rattle.word_array.specs.Stored.{place, Sizes}
use Rattle.word_table.specs.Multiples.{word_of, Multiples}

-- a word of n symbols lies in the bytes from `from` on, and is compared with that of the table t, which has symbol 1 at place 0
pub record Pair (p n : ℕ) (bytes : List ℕ) (from : ℕ) (t : List ℕ) : Type 0 where
  pub sizes : Sizes p n
  pub room : from + span n ≤ length bytes + 1
  pub symbol : (j : ℕ) → j + 1 < span n → place bytes (from + j) < 2 ^ p
  pub multiples : Multiples (stride n) p n t
  pub first : word_of (stride n) n t 0 ≡ 1

-- the n places of d from k on are those of t from `from` on
unfoldable pub same_row : ℕ → List ℕ → ℕ → List ℕ → ℕ → Bool
same_row n d k t from = all n (λ j. eqb (place d (k + j)) (place t (from + j)))

-- the n places of d from k on are the row of t, of `stride` places, for the symbol at k, which is not zero
unfoldable pub turn_ok : ℕ → ℕ → List ℕ → ℕ → List ℕ → Bool
turn_ok stride n d k t = nonzero (place d k) && same_row n d k t (stride * place d k)
