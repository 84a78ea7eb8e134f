-- Signatures: what the code adds up, and that words that are alike have one signature.
-- Assumes nothing.
use mathlib.Core.Path.{◌≡◌, sym, ap, ap₂, ◌∙◌}
use mathlib.Core.Bool.{Bool, true, false}
use mathlib.Core.List.{List}
use Prim.Native.Nat.{ℕ, ◌+◌, ◌*◌, ◌%◌, ◌^◌, ◌≤◌, ◌<◌}
use native.Mathlib.Nat.{add-zero, add_assoc, mod-eq_of_lt, mod-add-mod, mul-le-mul}
use native.Mathlib.Omega.{arith}
use lib.Bits.{bit_and, and_le_r, and_mask, and_zero_r, xor_lt}
use lib.Dec.{eqb}
use mir.Syntax.{w8, w16}
use mir.Val.{bool_byte, Fits}
use Rattle.spec_range.specs.Fold.{total}
use Rattle.spec_range.specs.Table.{table, padded}
use Rattle.spec_range.proofs.Tests.{same_eqb}
use Rattle.spec_range.proofs.Fold.{fold_cong, fold-short, fold-parts, fold-rotate, sums}
use Rattle.spec_range.proofs.Loop.{fold_none, fold_more}
use Rattle.spec_field.specs.Field.{FieldOps, FieldLaws}
use Rattle.spec_field.proofs.Laws.{mul-cancel}
use Rattle.spec_word.proofs.Place.{Word}
use Rattle.spec_word.proofs.Alike.{MultipleOfTurn}
use Rattle.word_array.specs.Stored.{place}
use Rattle.word_array.proofs.Filled.{read_padded, padded_past}
use Rattle.word_table.proofs.Window.{read_table}
use Rattle.word_alike.specs.Signature.{mark_of, mark_at, signature_of}

-- ---- marks

abbrev square : ℕ → ℕ
square x = x * x

-- a mark goes by which symbols are equal, none of them more than n places on
mark_same : (n : ℕ) (w v : ℕ → ℕ) (j i : ℕ) → ((a : ℕ) → a ≤ n → eqb (w j) (w (j + a)) ≡ eqb (v i) (v (i + a))) → mark_at n w j ≡ mark_at n v i
unfolding mark_at
mark_same n w v j i h =
    let at : (k : ℕ) → eqb (w j) (w (j + bit_and k n)) ≡ eqb (v i) (v (i + bit_and k n)) = λ k. h (bit_and k n) (and_le_r k n) in
    rw (at 1, at 3, at 7, at 12, at 20)

-- and is a byte
pub test_byte : (b : Bool) {k : ℕ} → k < 2 ^ 8 → bool_byte b * k < 2 ^ 8
test_byte true l = omega arith
test_byte false l = omega arith

mark_byte : (a b c d e : Bool) → mark_of a b c d e < 2 ^ 8
unfolding mark_of
mark_byte a b c d e =
    xor_lt 8 _ _ (xor_lt 8 _ _ (xor_lt 8 _ _ (xor_lt 8 _ _ (test_byte a (omega arith)) (test_byte b (omega arith))) (test_byte c (omega arith)))
    (test_byte d (omega arith))) (test_byte e (omega arith))

mark_at-byte : (n : ℕ) (w : ℕ → ℕ) (j : ℕ) → mark_at n w j < 2 ^ 8
unfolding mark_at
mark_at-byte n w j = mark_byte _ _ _ _ _

-- ---- signatures

-- a signature goes by the places of the word twice over
pub signature_same : (n : ℕ) (w v : ℕ → ℕ) → ((j : ℕ) → j < n + n → w j ≡ v j) → signature_of n w ≡ signature_of n v
unfolding signature_of
signature_same n w v h =
    ap (λ (x : ℕ). x % 65536) (fold_cong ◌+◌ 0 n (λ j l. ap square (mark_same n w v j j (λ a b. ap₂ eqb (h j (omega arith)) (h (j + a) (omega arith))))))

-- the squares of b blocks of marks, zero where `inside` is, are added up
abbrev pub SignedTo : ℕ → (ℕ → ℕ) → List ℕ → ℕ → ℕ → Type 0
SignedTo n w inside b sum = sum ≡ total (64 * b) (λ j. square (bit_and (mark_at n w j) (place inside j))) % 65536

pub signed_to_none : (n : ℕ) (w : ℕ → ℕ) (inside : List ℕ) → SignedTo n w inside 0 0
signed_to_none n w inside = sym (ap (λ (x : ℕ). x % 65536) (fold_none ◌+◌ 0 _))

-- a block more
pub signed_to_more : (n from b : ℕ) (rows inside : List ℕ) {sum sum' : ℕ} {m : List ℕ} → SignedTo n (λ j. place rows (from + j)) inside b sum
    → m ≡ table 64 (λ j. bit_and (mark_at n (λ j. place rows (from + 64 * b + j)) j) (place inside (64 * b + j)))
    → sum' ≡ (sum + total 64 (λ j. place m j * place m j)) % 65536 → SignedTo n (λ j. place rows (from + j)) inside (b + 1) sum'
signed_to_more n from b rows inside {sum} {m = m} h e next =
    next ∙ ap (λ (x : ℕ). (x + total 64 (λ j. square (place m j))) % 65536) h ∙ mod-add-mod (total (64 * b) part) 65536 (total 64 (λ j. square (place m j)))
    ∙ ap (λ (x : ℕ). x % 65536)
    (ap (λ (x : ℕ). total (64 * b) part + x) (fold_cong ◌+◌ 0 64 (λ j l. ap square (read_table _ e l ∙ moved j)))
    ∙ sym (fold-parts ◌+◌ 0 sums (64 * b) 64 part) ∙ ap (λ (k : ℕ). total k part) (omega arith))
  where
    w : ℕ → ℕ
    w j = place rows (from + j)

    part : ℕ → ℕ
    part j = square (bit_and (mark_at n w j) (place inside j))

    moved : (j : ℕ) → bit_and (mark_at n (λ j. place rows (from + 64 * b + j)) j) (place inside (64 * b + j))
        ≡ bit_and (mark_at n w (64 * b + j)) (place inside (64 * b + j))
    moved j =
        ap (λ (x : ℕ). bit_and x (place inside (64 * b + j)))
        (mark_same n (λ j. place rows (from + 64 * b + j)) w j (64 * b + j) (λ a _. ap₂ eqb (ap (place rows) (omega arith)) (ap (place rows) (omega arith))))

-- the marks below n alone count
pub signed_to_end : {n blocks sum : ℕ} (w : ℕ → ℕ) {inside : List ℕ} → n ≤ 64 * blocks → blocks ≤ 4 → inside ≡ padded 256 n (λ _. 255)
    → SignedTo n w inside blocks sum → sum ≡ signature_of n w
unfolding signature_of
signed_to_end {n} {blocks} w {inside} fits most e h =
    h ∙ ap (λ (x : ℕ). x % 65536)
    (fold-short ◌+◌ 0 sums n (64 * blocks) fits _ (λ j a _. ap square (past j a)) ∙ fold_cong ◌+◌ 0 n (λ j l. ap square (within j l)))
  where
    past : (j : ℕ) → n ≤ j → bit_and (mark_at n w j) (place inside j) ≡ 0
    past j a = ap (bit_and (mark_at n w j)) (ap (λ (v : List ℕ). place v j) e ∙ padded_past 256 n _ (omega arith) j a) ∙ and_zero_r (mark_at n w j)

    within : (j : ℕ) → j < n → bit_and (mark_at n w j) (place inside j) ≡ mark_at n w j
    within j l = ap (bit_and (mark_at n w j)) (read_padded _ e (omega arith) l) ∙ and_mask (mark_at n w j) 8 ∙ mod-eq_of_lt (mark_at-byte n w j)

-- ---- words that are alike

module _ (F : FieldOps) (laws : FieldLaws F) (n : ℕ) {w v : ℕ → ℕ} (w-word : Word F n w) (v-word : Word F n v) where
  pub alike_signature : MultipleOfTurn F w v → signature_of n w ≡ signature_of n v
  unfolding signature_of
  alike_signature m =
      ap (λ (x : ℕ). x % 65536)
      (sym (fold-rotate ◌+◌ 0 sums n m.t (λ j. square (mark_at n w j)) (λ j. ap square (mark_same n w w (j + n) j (λ a b. period a j))))
      ∙ fold_cong ◌+◌ 0 n (λ j l. ap square (mark_same n w v (j + m.t) j (λ a b. moved a j))))
    where
      period : (a j : ℕ) → eqb (w (j + n)) (w (j + n + a)) ≡ eqb (w j) (w (j + a))
      period a j = ap₂ eqb (w-word.period j) (ap w (omega arith) ∙ w-word.period (j + a))

      moved : (a j : ℕ) → eqb (w (j + m.t)) (w (j + m.t + a)) ≡ eqb (v j) (v (j + a))
      moved a j =
          ap₂ eqb (m.same j) (ap w (omega arith) ∙ m.same (j + a))
          ∙ same_eqb (λ p. mul-cancel F laws m.c_pos m.c_lt (v-word.symbol j) (v-word.symbol (j + a)) p) (λ p. ap (F.mul m.c) p)

-- ---- the sum that a loop takes of the squares of bytes, in 16 digits, with one before

abbrev pub SquaresTo : List ℕ → ℕ → ℕ → ℕ → Type 0
SquaresTo m before j sum = sum ≡ (before + total j (λ i. place m i * place m i)) % 65536

pub squares_none : (m : List ℕ) {before : ℕ} → Fits w16 before → SquaresTo m before 0 before
squares_none m {before} l = sym (ap (λ (x : ℕ). (before + x) % 65536) (fold_none ◌+◌ 0 _) ∙ mod-eq_of_lt (omega arith) ∙ add-zero before)

pub squares_more : (m : List ℕ) (before j : ℕ) {sum : ℕ} → SquaresTo m before j sum
    → SquaresTo m before (j + 1) ((sum + place m j * place m j) % 65536)
squares_more m before j h =
    let now : ℕ = total j (λ i. place m i * place m i) in
    ap (λ (x : ℕ). (x + place m j * place m j) % 65536) h ∙ mod-add-mod (before + now) 65536 (place m j * place m j)
    ∙ ap (λ (x : ℕ). x % 65536) (add_assoc before now (place m j * place m j) ∙ ap (λ (x : ℕ). before + x) (sym (fold_more ◌+◌ 0 j _)))

-- the square of a byte
pub square_high : {x : ℕ} → Fits w8 x → x * x ≤ 65025
square_high l = mul-le-mul {n₂ = 255} {m₂ = 255} (omega arith) (omega arith)
