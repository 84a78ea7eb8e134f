-- The weight of a dual word by whole blocks of its record, its kind byte among them, and its first symbol.
-- Assumes nothing.
use mathlib.Core.Path.{◌≡◌, sym, ap, ap₂, ◌∙◌}
use mathlib.Core.Bool.{true, not}
use mathlib.Core.List.{List}
use Prim.Native.Nat.{ℕ, suc, ◌+◌, ◌-◌, ◌*◌, ◌≤◌, ◌<◌}
use native.Mathlib.Omega.{arith}
use borrow.Author.Tests.{ne_eqb}
use lib.Dec.{eqb}
use Rattle.spec_range.specs.Fold.{indicator, count}
use Rattle.spec_range.proofs.Tests.{same_eqb}
use Rattle.spec_range.proofs.Fold.{fold_cong, fold_head, fold-parts, fold-short, sums}
use Rattle.spec_range.proofs.Count.{count_le}
use Rattle.spec_range.proofs.Loop.{fold_none}
use Rattle.sizes.specs.Blocks.{span, blocks}
use Rattle.sizes.proofs.Lengths.{blocks_fit}
use Rattle.spec_word.specs.Word.{nonzero, weight}
use Rattle.word_array.specs.Stored.{place}
use Rattle.spec_book.specs.Layout.{width, dual_at}
use Rattle.book_duals.specs.Duals.{dual_word, Lying}
use Rattle.book_duals.proofs.Places.{dual_at_lem}

-- ---- block by block

-- the nonzero bytes of b blocks are counted
pub record Weighed (bytes : List ℕ) (start blocks b t : ℕ) : Type 0 where
  pub within : b ≤ blocks
  pub counted : t ≡ count (64 * b) (λ j. nonzero (place bytes (start + j)))

pub weighed_none : (bytes : List ℕ) (start blocks : ℕ) → Weighed bytes start blocks 0 0
weighed_none bytes start blocks = record { within = omega arith; counted = sym (fold_none ◌+◌ 0 _) }

module _ {bytes : List ℕ} {start blocks b t : ℕ} (h : Weighed bytes start blocks b t) where
  pub weighed_le : t ≤ 64 * b
  weighed_le = omega (arith, h.counted, count_le (64 * b) (λ j. nonzero (place bytes (start + j))))

  pub weighed_more : {x : ℕ} → b < blocks → x ≡ count 64 (λ j. nonzero (place bytes (start + 64 * b + j))) → Weighed bytes start blocks (b + 1) (t + x)
  weighed_more l e =
      record {
        within = omega arith;
        counted = ap₂ ◌+◌ h.counted (e ∙ fold_cong ◌+◌ 0 64 (λ j k. ap (λ (m : ℕ). indicator (nonzero (place bytes m))) (omega arith)))
            ∙ sym (fold-parts ◌+◌ 0 sums (64 * b) 64 (λ j. indicator (nonzero (place bytes (start + j)))))
            ∙ ap (λ (n : ℕ). count n (λ j. nonzero (place bytes (start + j)))) (omega arith);
      }

  pub weighed_end : blocks ≤ b → t ≡ count (64 * blocks) (λ j. nonzero (place bytes (start + j)))
  weighed_end l = h.counted ∙ ap (λ (b : ℕ). count (64 * b) (λ j. nonzero (place bytes (start + j)))) (omega (arith, h.within))

-- ---- of a dual word

module _ {bytes : List ℕ} {n duals : ℕ} (h : Lying bytes n duals) {l start : ℕ} (b : l < duals) (e : start ≡ dual_at (width bytes) l) where
  -- its symbol at place 0
  pub dual_first : place bytes (start + 1) ≡ dual_word n bytes l 0
  dual_first = ap (place bytes) (omega arith) ∙ dual_at_lem bytes l (ap (◌+ 1) e) 0 h.n_low

  kind : nonzero (place bytes (start + 0)) ≡ true
  kind =
      let here : start + 0 ≡ dual_at (width bytes) l = omega arith in
      rw here (ap not (ne_eqb (place bytes (dual_at (width bytes) l)) 0 (λ z. omega (arith, h.kind l b))))

  -- its kind adds 1, and from place n on it adds nothing
  pub dual_weight : count (span n) (λ j. nonzero (place bytes (start + j))) ≡ 1 + weight n (dual_word n bytes l)
  unfolding weight
  dual_weight =
      let last = span n - 1 in
      let fits : n < span n = blocks_fit h.n_high in
      let all : span n ≡ suc last = omega arith in
      ap (λ (m : ℕ). count m (λ j. nonzero (place bytes (start + j)))) all
      ∙ fold_head ◌+◌ 0 sums last (λ j. indicator (nonzero (place bytes (start + j))))
      ∙ ap₂ ◌+◌ (ap indicator kind)
      (fold-short ◌+◌ 0 sums n last (omega arith) _ (λ j a c.
      ap (λ (x : ℕ). indicator (nonzero x)) (ap (place bytes) (omega arith) ∙ h.zero l j b a (omega (arith, h.spanned))))
      ∙ fold_cong ◌+◌ 0 n (λ j k. ap (λ (x : ℕ). indicator (nonzero x)) (ap (place bytes) (omega arith) ∙ dual_at_lem bytes l (ap (◌+ 1) e) j k)))

-- the same is added to both
pub weights_same : (a b : ℕ) {x y : ℕ} → x ≡ 1 + a → y ≡ 1 + b → eqb x y ≡ eqb a b
weights_same a b {x} {y} e f = same_eqb {a = x} {b = y} {c = a} {d = b} (λ q. omega arith) (λ q. omega arith)
