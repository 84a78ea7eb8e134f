-- A map of the symbols of one field to those of another that keeps 1, sums and products.
-- Assumes nothing.
use Rattle.std.specs.Prelude.{◌≡◌, ℕ, ◌<◌}
use Rattle.spec_field.specs.Field.{FieldOps}

-- That it keeps 0 and is one to one follows: image-zero, image-apart.
pub record FieldMap (F F' : FieldOps) : Type 0 where
  pub image : ℕ → ℕ
  pub image_below : (a : ℕ) → a < F.q → image a < F'.q
  pub image_one : image 1 ≡ 1
  pub image_add : (a b : ℕ) → a < F.q → b < F.q → image (F.add a b) ≡ F'.add (image a) (image b)
  pub image_mul : (a b : ℕ) → a < F.q → b < F.q → image (F.mul a b) ≡ F'.mul (image a) (image b)
