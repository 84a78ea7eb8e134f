-- The update set is empty exactly where every correction is 0.
-- Assumes nothing.
use mathlib.Core.Path.{◌≡◌, sym}
use mathlib.Core.Bool.{Bool, true, false, not, ◌&&◌}
use Prim.Native.Nat.{ℕ, ◌<◌}
use native.Mathlib.Nat.{ne_of_gt}
use borrow.Author.Tests.{eq-eqb, ne_eqb}
use lib.Dec.{T, eqb}
use Rattle.spec_range.specs.Fold.{all}
use Rattle.spec_range.proofs.Fold.{fold_cong}
use Rattle.spec_field.specs.Field.{FieldOps, FieldLaws}
use Rattle.spec_book.specs.Book.{Book}
use Rattle.spec_decoding.specs.Decode.{in_update_set, correction, empty_update_set}
use Rattle.spec_decoding.proofs.Peak.{correction_inside, correction_outside}

test : (b : Bool) (e : ℕ) → (T b → 0 < e) → ((T b → ⊥) → e ≡ 0) → not b ≡ eqb e 0
test true e pos zero = sym (ne_eqb e 0 (ne_of_gt (pos tt)))
test false e pos zero = sym (eq-eqb e 0 (zero (λ t. t)))

pub empty_zero : (F : FieldOps) → FieldLaws F → (B : Book) (m : ℕ → ℕ → ℕ) → empty_update_set F B m ≡ all B.n (λ j. eqb (correction F B m j) 0)
unfolding empty_update_set
empty_zero F laws B m =
    fold_cong ◌&&◌ true B.n (λ j l.
    test (in_update_set F B m j) (correction F B m j) (λ t. (correction_inside F laws B m j t).nonzero) (correction_outside F laws B m j))
