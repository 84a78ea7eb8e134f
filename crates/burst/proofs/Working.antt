-- Where symbols and answers of a burst stand, and its number by the parameters.
-- Assumes nothing.
use mathlib.Core.Path.{◌≡◌, sym, ◌∙◌, subst}
use mathlib.Core.Bool.{Bool, ◌&&◌}
use mathlib.Core.List.{List}
use Prim.Native.Nat.{ℕ, suc, ◌+◌, ◌*◌, ◌^◌, ◌≤◌, ◌<◌}
use native.Mathlib.Nat.{mul-le-mul, mul_comm, suc-mul, le_refl, le_trans, lt_of_lt_of_le}
use lib.Arith.{digits_lt}
use lib.Dec.{T, eqb}
use lib.ListN.{length}
use Rattle.spec_range.proofs.Tests.{cond_true}
use Rattle.spec_book.specs.Conditions.{words_ok, input_refusal}
use Rattle.spec_operations.specs.Burst.{burst_input_refusal}
use Rattle.book.specs.Params.{Describes}
use Rattle.book.specs.declared.Params.{Params}

-- symbol j of word m lies within the burst; so would it were words sent one after another, and reading them so is then refused for what is read
pub within : (j m n words : ℕ) {size : ℕ} → j < n → m < words → n * words ≤ size → (j * words + m < size) × (m * n + j < size)
within j m n words {size} hj hm h =
    (lt_of_lt_of_le (digits_lt hj hm) h, lt_of_lt_of_le (digits_lt hm hj) (subst (λ (k : ℕ). k ≤ size) (mul_comm n words) h))

-- a burst is no longer than sixteen words of 255 symbols
pub burst_small : {n words : ℕ} → n ≤ 255 → words ≤ 16 → n * words ≤ 4080
burst_small hn hw = mul-le-mul hn hw

-- the number, by the parameters that were read off the book
pub burst_number : (bytes : List ℕ) (c : Params) → Describes bytes c → (words : ℕ) (r : List ℕ) (room list entries : ℕ) {number q : ℕ} {exact : Bool}
    → T (words_ok words) → number ≡ input_refusal q (eqb (length r) (c.n * words)) exact r → q ≡ 2 ^ c.p
    → exact ≡ (eqb room (c.n * words) && eqb list words && eqb entries (2 ^ c.p * c.n)) → number ≡ burst_input_refusal bytes words r room list entries
unfolding burst_input_refusal
burst_number bytes c d words r room list entries t h hq he = h ∙ rw (hq, he, d.p_is, d.n_is) (sym (cond_true (words_ok words) _ 14 t))

-- word m's part of the answers ends within them, and is not far on
pub part_end : (m n : ℕ) {words : ℕ} → m < words → n ≤ 255 → words ≤ 16 → m * n + n ≤ 4080
part_end m n h hn hw = subst (λ (k : ℕ). k ≤ 4080) (suc-mul m n) (mul-le-mul (le_trans h hw) hn)

pub part_within : (m n : ℕ) {words size : ℕ} → m < words → size ≡ n * words → m * n + n ≤ size
part_within m n {words} {size} h e =
    subst (λ (k : ℕ). k ≤ size) (suc-mul m n) (subst (λ (k : ℕ). suc m * n ≤ k) (mul_comm words n ∙ sym e) (mul-le-mul h (le_refl n)))
