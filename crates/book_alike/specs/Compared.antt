-- What condition 8 asks of a book's dual words, and what is known of them where it is tested.
-- Assumes nothing.
use Rattle.std.specs.Prelude.{◌≡◌, Bool, not, List, ℕ, ◌≤◌, ◌<◌}
use Rattle.spec_range.specs.Fold.{all}
use Rattle.spec_field.specs.Symbols.{gf}
use Rattle.spec_word.specs.Alike.{alike}
use Rattle.sizes.specs.Blocks.{stride}
use Rattle.word_table.specs.Multiples.{word_of, Multiples}
use Rattle.book_duals.specs.Duals.{dual_word, Tested}

-- dual word l is like none before it
unfoldable pub differ : ℕ → ℕ → List ℕ → ℕ → Bool
differ p n bytes l = all l (λ m. not (alike (gf p) n (dual_word n bytes m) (dual_word n bytes l)))

-- the dual words have symbols, and symbol 1 at place 0
pub record Comparable (bytes : List ℕ) (p n duals : ℕ) : Type 0 where
  pub tested : Tested bytes p n duals
  pub most : duals ≤ 32
  pub first : (l : ℕ) → l < duals → dual_word n bytes l 0 ≡ 1

-- t is the table of the multiples of dual word l
pub record TableOf (bytes : List ℕ) (p n l : ℕ) (t : List ℕ) : Type 0 where
  pub multiples : Multiples (stride n) p n t
  pub word : word_of (stride n) n t ≡ dual_word n bytes l
