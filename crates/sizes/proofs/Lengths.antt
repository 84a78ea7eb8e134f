-- What is known of blocks.
-- Assumes nothing.
use mathlib.Core.Path.{◌≡◌, ap, ◌∙◌}
use mathlib.Core.Bool.{Bool, cond}
use Prim.Native.Nat.{ℕ, ◌*◌, ◌^◌, ◌≤◌, ◌<◌}
use native.Mathlib.Omega.{arith}
use native.Mathlib.Decide.{dec_lt}
use borrow.Author.Tests.{lt-ltb, le-ltb}
use lib.Dec.{ltb}
use Rattle.sizes.specs.Blocks.{blocks, stride, shift}

-- the three cases of a length
pub data Length (n : ℕ) : Type 0 where
  one : n < 64 → blocks n ≡ 1 → shift n ≡ 7 → Length n
  two : 64 ≤ n → n < 128 → blocks n ≡ 2 → shift n ≡ 8 → Length n
  four : 128 ≤ n → blocks n ≡ 4 → shift n ≡ 9 → Length n

pub length_of : (n : ℕ) → Length n
unfolding blocks shift
length_of n = go (dec_lt n 64) (dec_lt n 128)
  where
    go : Dec (n < 64) → Dec (n < 128) → Length n
    go (yes a) _ =
        one a (ap (λ (b : Bool). cond b 1 (cond (ltb n 128) 2 4)) (lt-ltb n 64 a)) (ap (λ (b : Bool). cond b 7 (cond (ltb n 128) 8 9)) (lt-ltb n 64 a))
    go (no a) (yes b) =
        let low : 64 ≤ n = omega arith in
        two low b
        (ap (λ (b : Bool). cond b 1 (cond (ltb n 128) 2 4)) (le-ltb n 64 low) ∙ ap (λ (b : Bool). cond b 2 4) (lt-ltb n 128 b))
        (ap (λ (b : Bool). cond b 7 (cond (ltb n 128) 8 9)) (le-ltb n 64 low) ∙ ap (λ (b : Bool). cond b 8 9) (lt-ltb n 128 b))
    go (no a) (no b) =
        let low : 64 ≤ n = omega arith in
        let high : 128 ≤ n = omega arith in
        four high
        (ap (λ (b : Bool). cond b 1 (cond (ltb n 128) 2 4)) (le-ltb n 64 low) ∙ ap (λ (b : Bool). cond b 2 4) (le-ltb n 128 high))
        (ap (λ (b : Bool). cond b 7 (cond (ltb n 128) 8 9)) (le-ltb n 64 low) ∙ ap (λ (b : Bool). cond b 8 9) (le-ltb n 128 high))

pub blocks_low : (n : ℕ) → 1 ≤ blocks n
blocks_low n = go (length_of n)
  where
    go : Length n → 1 ≤ blocks n
    go (one a e f) = omega (arith, e)
    go (two a b e f) = omega (arith, e)
    go (four a e f) = omega (arith, e)

pub blocks_high : (n : ℕ) → blocks n ≤ 4
blocks_high n = go (length_of n)
  where
    go : Length n → blocks n ≤ 4
    go (one a e f) = omega (arith, e)
    go (two a b e f) = omega (arith, e)
    go (four a e f) = omega (arith, e)

-- the word fits, with a place to spare
pub blocks_fit : {n : ℕ} → n ≤ 255 → n < 64 * blocks n
blocks_fit {n} h = go (length_of n)
  where
    go : Length n → n < 64 * blocks n
    go (one a e f) = omega (arith, e)
    go (two a b e f) = omega (arith, e)
    go (four a e f) = omega (arith, e)

pub blocks_one : {n : ℕ} → n < 64 → blocks n ≡ 1
blocks_one {n} l = go (length_of n)
  where
    go : Length n → blocks n ≡ 1
    go (one a e f) = e
    go (two a b e f) = omega arith
    go (four a e f) = omega arith

pub shift_is : (n : ℕ) → 2 ^ shift n ≡ stride n
shift_is n = go (length_of n)
  where
    go : Length n → 2 ^ shift n ≡ stride n
    go (one a e f) = ap (λ (s : ℕ). 2 ^ s) f ∙ omega (arith, e)
    go (two a b e f) = ap (λ (s : ℕ). 2 ^ s) f ∙ omega (arith, e)
    go (four a e f) = ap (λ (s : ℕ). 2 ^ s) f ∙ omega (arith, e)
