-- What the layers above know of a finite field of characteristic 2: its operations and their laws. The symbols are the numbers below q.
-- Assumes nothing.
use Rattle.std.specs.Prelude.{◌≡◌, ℕ, ◌<◌}

pub record FieldOps : Type 0 where
  pub q : ℕ
  pub add : ℕ → ℕ → ℕ
  pub mul : ℕ → ℕ → ℕ
  pub inv : ℕ → ℕ

-- Most laws hold of all numbers, so that a sum of products is regrouped with no bound at hand.
pub record FieldLaws (F : FieldOps) : Type 0 where
  pub one_below : 1 < F.q
  pub add_below : (a b : ℕ) → a < F.q → b < F.q → F.add a b < F.q
  pub add_comm : (a b : ℕ) → F.add a b ≡ F.add b a
  pub add_assoc : (a b c : ℕ) → F.add (F.add a b) c ≡ F.add a (F.add b c)
  pub add_zero : (a : ℕ) → F.add a 0 ≡ a
  pub add_self : (a : ℕ) → F.add a a ≡ 0
  pub mul_below : (a b : ℕ) → F.mul a b < F.q
  pub mul_comm : (a b : ℕ) → F.mul a b ≡ F.mul b a
  pub mul_assoc : (a b c : ℕ) → F.mul (F.mul a b) c ≡ F.mul a (F.mul b c)
  pub mul_add : (a b c : ℕ) → F.mul a (F.add b c) ≡ F.add (F.mul a b) (F.mul a c)
  pub mul_zero : (a : ℕ) → F.mul a 0 ≡ 0
  pub mul_one : (a : ℕ) → a < F.q → F.mul a 1 ≡ a
  pub inv_below : (a : ℕ) → F.inv a < F.q
  pub mul_inv : (a : ℕ) → 0 < a → a < F.q → F.mul a (F.inv a) ≡ 1
