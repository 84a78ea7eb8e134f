-- SCOPE 2.9: Words that are alike: one is a nonzero symbol times a turn of the other.
-- Assumes nothing.
use Rattle.std.specs.Prelude.{Bool, ◌&&◌, ℕ, ◌+◌, eqb}
use Rattle.spec_range.specs.Fold.{all, any}
use Rattle.spec_field.specs.Field.{FieldOps}
use Rattle.spec_word.specs.Word.{nonzero}

module _ (F : FieldOps) (n : ℕ) where
  -- SCOPE 2.9: w is v turned by t and multiplied by c: it has at place j + t what v has at place j, times c
  unfoldable pub is_multiple_of_turn : ℕ → ℕ → (ℕ → ℕ) → (ℕ → ℕ) → Bool
  is_multiple_of_turn c t w v = all n (λ j. eqb (w (j + t)) (F.mul c (v j)))

  -- SCOPE 2.9: w and v are alike: w is so for some nonzero symbol c and some turn t
  unfoldable pub alike : (ℕ → ℕ) → (ℕ → ℕ) → Bool
  alike w v = any F.q (λ c. nonzero c && any n (λ t. is_multiple_of_turn c t w v))
