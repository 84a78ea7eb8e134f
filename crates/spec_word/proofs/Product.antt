-- The product of words modulo x^n - 1: commutative, associative, and how it takes a word that is turned, multiplied and added to.
-- Assumes nothing.
use mathlib.Core.Path.{◌≡◌, sym, ap, ap₂, ◌∙◌}
use Prim.Native.Nat.{ℕ, ◌+◌, ◌-◌, ◌%◌, ◌<◌}
use native.Mathlib.Nat.{mod-lt}
use native.Mathlib.Omega.{arith}
use Rattle.spec_range.proofs.Fold.{fold_cong, fold-op, fold-swap, fold-permute}
use Rattle.spec_field.specs.Field.{FieldOps, FieldLaws}
use Rattle.spec_field.proofs.Laws.{mul_left_comm}
use Rattle.spec_word.specs.Word.{sum, product}
use Rattle.spec_word.proofs.Sums.{field_sums, mul-sum, sum_below}
use Rattle.spec_word.proofs.Place.{period_mod, reflect_reflect}

-- w' is w turned by t, multiplied by c, and with v added
abbrev pub Shifted : FieldOps → ℕ → ℕ → (ℕ → ℕ) → (ℕ → ℕ) → (ℕ → ℕ) → Type 0
Shifted F t c v w w' = (j : ℕ) → w' (j + t) ≡ F.add (F.mul c (w j)) (v (j + t))

-- a function of period n
abbrev pub Periodic : ℕ → (ℕ → ℕ) → Type 0
Periodic n f = (j : ℕ) → f (j + n) ≡ f j

module _ (F : FieldOps) (laws : FieldLaws F) (n : ℕ) where
  open F use {q, add as ◌⊕◌, mul as ◌⊗◌}
  open laws use {mul_below, mul_comm, mul_add}

  infixl 60 ◌⊕◌
  infixl 70 ◌⊗◌
  pub product-below : (a b : ℕ → ℕ) (m : ℕ) → product F n a b m < q
  unfolding product
  product-below a b m = sum_below F laws n _ (λ u _. mul_below (a u) (b (m + (n - u))))

  -- it goes by the places below n of the left factor, and by the values of the right one
  pub product_cong : {a a' b b' : ℕ → ℕ} → ((u : ℕ) → u < n → a u ≡ a' u) → ((j : ℕ) → b j ≡ b' j) → (m : ℕ) → product F n a b m ≡ product F n a' b' m
  unfolding product
  product_cong ha hb m = fold_cong ◌⊕◌ 0 n (λ u l. ap₂ ◌⊗◌ (ha u l) (hb (m + (n - u))))

  pub product_period : (a b : ℕ → ℕ) → Periodic n b → Periodic n (product F n a b)
  unfolding product
  product_period a b p m = fold_cong ◌⊕◌ 0 n (λ u _. ap (a u ⊗◌) (ap b (omega arith) ∙ p (m + (n - u))))

  pub product_comm : (a b : ℕ → ℕ) → Periodic n a → Periodic n b → (m : ℕ) → product F n a b m ≡ product F n b a m
  unfolding product
  product_comm a b pa pb m =
      fold_cong ◌⊕◌ 0 n (λ u l.
      mul_comm (a u) (b (m + (n - u)))
      ∙ ap₂ ◌⊗◌ (sym (period_mod n b pb (m + (n - u)))) (sym (ap a (reflect_reflect n m u l)) ∙ period_mod n a pa (m + (n - reflect u))))
      ∙ fold-permute ◌⊕◌ 0 (field_sums F laws) n reflect reflect below below (reflect_reflect n m) (reflect_reflect n m) (λ u. b u ⊗ a (m + (n - u)))
    where
      reflect : ℕ → ℕ
      reflect u = (m + (n - u)) % n

      below : (u : ℕ) → u < n → reflect u < n
      below u l = mod-lt (m + (n - u)) (omega arith)

  -- the outer two factors of three may change places
  product-left-comm : (a b c : ℕ → ℕ) (m : ℕ) → product F n a (product F n b c) m ≡ product F n b (product F n a c) m
  unfolding product
  product-left-comm a b c m =
      spread a b
      ∙ fold-swap ◌⊕◌ 0 (field_sums F laws) n n (λ u v. a u ⊗ (b v ⊗ c (m + (n - u) + (n - v))))
      ∙ fold_cong ◌⊕◌ 0 n (λ v _. fold_cong ◌⊕◌ 0 n (λ u _.
      mul_left_comm F laws (a u) (b v) (c (m + (n - u) + (n - v))) ∙ ap (λ (x : ℕ). b v ⊗ (a u ⊗ c x)) (omega arith)))
      ∙ sym (spread b a)
    where
      spread : (a b : ℕ → ℕ) → sum F n (λ u. a u ⊗ sum F n (λ v. b v ⊗ c (m + (n - u) + (n - v))))
          ≡ sum F n (λ u. sum F n (λ v. a u ⊗ (b v ⊗ c (m + (n - u) + (n - v)))))
      spread a b = fold_cong ◌⊕◌ 0 n (λ u _. mul-sum F laws (a u) n (λ v. b v ⊗ c (m + (n - u) + (n - v))))

  pub product_assoc : (a b c : ℕ → ℕ) → Periodic n a → Periodic n b → Periodic n c
      → (m : ℕ) → product F n (product F n a b) c m ≡ product F n a (product F n b c) m
  product_assoc a b c pa pb pc m =
      product_comm (product F n a b) c (product_period a b pb) pc m
      ∙ product-left-comm c a b m
      ∙ product_cong {a = a} {b = product F n c b} (λ u _. ap a (omega arith)) (product_comm c b pc pb) m

  pub product_shifted : (t c : ℕ) (b r v r' : ℕ → ℕ) → Shifted F t c v r r'
      → (m : ℕ) → product F n b r' (m + t) ≡ c ⊗ product F n b r m ⊕ product F n b v (m + t)
  unfolding product
  product_shifted t c b r v r' shifted m =
      fold_cong ◌⊕◌ 0 n (λ u l.
      ap (λ (x : ℕ). b u ⊗ r' x) (aside u) ∙ ap (b u ⊗◌) (shifted (m + (n - u)))
      ∙ mul_add (b u) (c ⊗ r (m + (n - u))) (v (m + (n - u) + t))
      ∙ ap₂ ◌⊕◌ (mul_left_comm F laws (b u) c (r (m + (n - u)))) (ap (λ (x : ℕ). b u ⊗ v x) (sym (aside u))))
      ∙ fold-op ◌⊕◌ 0 (field_sums F laws) n (λ u. c ⊗ (b u ⊗ r (m + (n - u)))) (λ u. b u ⊗ v (m + t + (n - u)))
      ∙ ap (◌⊕ product F n b v (m + t)) (sym (mul-sum F laws c n (λ u. b u ⊗ r (m + (n - u)))))
    where
      aside : (u : ℕ) → m + t + (n - u) ≡ m + (n - u) + t
      aside u = omega arith
