-- SCOPE 3: A codebook as coding and decoding see it, whatever its bytes.
-- Assumes nothing.
use Rattle.std.specs.Prelude.{◌≡◌, Bool, List, ℕ, ◌-◌, ◌+◌, ◌<◌}
use Rattle.spec_field.specs.Field.{FieldOps}
use Rattle.spec_word.specs.Word.{weight, product}
use Rattle.spec_word.specs.Division.{remainder, divides}
use Rattle.spec_word.specs.CyclicCode.{Generator}

-- SCOPE 3.1: what a codebook's records hold
pub record Book : Type 0 where
  -- SCOPE 2.1: the length of a word
  pub n : ℕ
  -- SCOPE 3.6: the generator's degree
  pub degree : ℕ
  pub generator : ℕ → ℕ
  -- SCOPE 3.9: I, the most rounds
  pub most_rounds : ℕ
  -- SCOPE 3.10: D, the bound of the update set's two counts
  pub most_places : ℕ
  -- SCOPE 3.2: L, the count of dual words
  pub dual_count : ℕ
  pub dual : ℕ → ℕ → ℕ

-- SCOPE 3.8: k, the length of a full message
abbrev pub message_length : Book → ℕ
message_length B = B.n - B.degree

-- SCOPE 4.32: the remainder of a word by the generator: n − k symbols, which is the degree, from x^0
abbrev pub remainder_by : FieldOps → Book → (ℕ → ℕ) → List ℕ
remainder_by F B w = remainder F B.degree B.generator B.n w

-- SCOPE 4.4: a word is a code word of the book: all n − k symbols of its remainder are zero
abbrev pub is_code_word : FieldOps → Book → (ℕ → ℕ) → Bool
is_code_word F B w = divides F B.degree B.generator B.n w

-- SCOPE 3.16: what coding and decoding rest on; every book that passes the conditions 1 to 8 has it
pub record Usable (F : FieldOps) (B : Book) : Type 0 where
  pub generates : Generator F B.n B.degree B.generator
  pub dual_symbols : (l : ℕ) → l < B.dual_count → (j : ℕ) → B.dual l j < F.q
  pub dual_period : (l : ℕ) → l < B.dual_count → (j : ℕ) → B.dual l (j + B.n) ≡ B.dual l j
  pub dual_product : (l : ℕ) → l < B.dual_count → (m : ℕ) → m < B.n → product F B.n B.generator (B.dual l) m ≡ 0
  pub one_weight : (l : ℕ) → l < B.dual_count → weight B.n (B.dual l) ≡ weight B.n (B.dual 0)
