-- Condition 4 by bounds: a symbol may stand at a place where it is below the place's bound.
-- Assumes nothing.
use mathlib.Core.Path.{◌≡◌, refl, sym, ap, ap₂, ◌∙◌}
use mathlib.Core.Bool.{Bool, true, false, not, cond, ◌&&◌, ◌||◌}
use mathlib.Core.List.{List}
use Prim.Native.Nat.{ℕ, suc, ◌+◌, ◌*◌, ◌/◌, ◌^◌, ◌≤◌, ◌<◌}
use native.Mathlib.Decide.{dec_lt}
use native.Mathlib.Omega.{arith}
use lib.Pow.{pow_mono}
use borrow.Author.Tests.{lt-ltb, le-ltb, le-leb, lt-leb, eq-eqb, ne_eqb}
use lib.Dec.{T, eqb, leb, ltb}
use lib.ListN.{get_or, replicate, length-replicate, get_or-replicate}
use lib.Seq.{ext_get_or}
use Rattle.spec_range.specs.Fold.{all, count}
use Rattle.spec_range.specs.Table.{table}
use Rattle.spec_range.proofs.Fold.{fold_cong, fold_head, fold-parts, tests}
use Rattle.spec_range.proofs.Table.{table-length, table_at}
use Rattle.spec_range.proofs.Count.{none_counted}
use Rattle.spec_range.proofs.Loop.{Over, fold_none}
use Rattle.spec_book.specs.Layout.{width, byte, body_place, word_length, symbol_digits}
use Rattle.spec_book.specs.Conditions.{sizes_ok, place_ok, body_ok}
use Rattle.spec_book.proofs.Accepting.{Form, short, long, form, width_high, sizes}
use Rattle.book_records.specs.Records.{bound, Bounds, below, Body}

-- the bounds once those of the kind and of n symbols are written
pub bounds_end : (q : ℕ) {n j : ℕ} {out : List ℕ} → 1 ≤ j → j ≤ n + 1 → n < j → Over j (λ k. cond (eqb k 0) 255 q) (replicate 256 1) out
    → out ≡ table 256 (bound q n)
bounds_end q {n} {j} {out} pos h l o =
    ext_get_or 0 out _ (o.long ∙ length-replicate {A = ℕ} 256 1 ∙ sym (table-length 256 _)) (λ k b. at k (omega (arith, o.long, length-replicate {A = ℕ} 256 1)))
  where
    at : (k : ℕ) → k < 256 → get_or out k 0 ≡ get_or (table 256 (bound q n)) k 0
    at k b = go (dec_lt k j) ∙ sym (table_at 256 _ b)
      where
        go : Dec (k < j) → get_or out k 0 ≡ bound q n k
        go (yes d) = o.at k d ∙ rw (le-leb k n (omega arith)) refl
        go (no d) =
            o.rest k (omega arith) ∙ get_or-replicate 256 k 1 0 b ∙ rw (ne_eqb k 0 (λ e. omega arith), lt-leb k n (omega arith)) refl

-- the bounds of bytes whose s and p are right
pub bounded : {bytes bounds : List ℕ} {q n size : ℕ} → T (sizes_ok bytes) → q ≡ 2 ^ symbol_digits bytes → n ≡ word_length bytes
    → bounds ≡ table 256 (bound q n) → size ≡ 1 + width bytes → Bounds bytes (size / 64) bounds
bounded {bytes} {size = size} t e f h b = record { digits = (sizes bytes t).p_low; spanned = go (form bytes); bound_at = rw (e, f) at h }
  where
    go : Form bytes → 64 * (size / 64) ≡ 1 + width bytes
    go (short f w) = omega (arith, w)
    go (long f w) = omega (arith, w)

-- there is a bound for every place of a record
pub bounds_room : {bytes bounds : List ℕ} {blocks : ℕ} → Bounds bytes blocks bounds → 64 * blocks ≤ 256
bounds_room {bytes} s = omega (arith, s.spanned, width_high bytes)

-- below the bound is what condition 4 asks of a place
below-bound : (q n j c : ℕ) → 2 ≤ q → not (leb (bound q n (suc j)) c) ≡ place_ok q n j c
below-bound q n j c two =
    ap (λ (b : Bool). not (leb (cond b 255 (cond (ltb j n) q 1)) c)) (ne_eqb (suc j) 0 (λ e. omega arith)) ∙ go (ltb j n) (dec_lt c q) (dec_lt 0 c)
  where
    last : (b : Bool) → (b && false) ≡ false
    last true = refl
    last false = refl

    go : (b : Bool) → Dec (c < q) → Dec (0 < c) → not (leb (cond b q 1) c) ≡ (ltb c q && (b || eqb c 0))
    go true (yes l) z = rw (lt-leb q c l, lt-ltb c q l) refl
    go true (no l) z = rw (le-leb q c (omega arith), le-ltb c q (omega arith)) refl
    go false l (yes z) = rw (le-leb 1 c z, ne_eqb c 0 (λ e. omega arith)) (sym (last (ltb c q)))
    go false l (no z) = rw (lt-leb 1 c (omega arith), lt-ltb c q (omega arith), eq-eqb c 0 (omega arith)) refl

-- ---- the places of a record, block by block

-- none of a block is at or above its bound
pub none_bad : (bytes bounds : List ℕ) (start at : ℕ) {t : ℕ} → t ≡ count 64 (λ j. leb (get_or bounds (at + j) 0) (byte bytes (start + (at + j))))
    → eqb t 0 ≡ all 64 (λ j. below bounds bytes start (at + j))
none_bad bytes bounds start at e =
    ap (λ (x : ℕ). eqb x 0) e ∙ none_counted 64 (λ j. leb (get_or bounds (at + j) 0) (byte bytes (start + (at + j))))

-- the places of b blocks are below their bounds
pub record Bounded (bytes bounds : List ℕ) (start blocks b : ℕ) (ok : Bool) : Type 0 where
  pub within : b ≤ blocks
  pub passed : ok ≡ all (64 * b) (below bounds bytes start)

pub bounded_none : (bytes bounds : List ℕ) (start blocks : ℕ) → Bounded bytes bounds start blocks 0 true
bounded_none bytes bounds start blocks = record { within = omega arith; passed = sym (fold_none ◌&&◌ true _) }

module _ {bytes bounds : List ℕ} {start blocks b : ℕ} {ok : Bool} (h : Bounded bytes bounds start blocks b ok) where
  pub bounded_more : {good : Bool} → b < blocks → good ≡ all 64 (λ j. below bounds bytes start (64 * b + j))
      → Bounded bytes bounds start blocks (b + 1) (ok && good)
  bounded_more l e =
      record {
        within = omega arith;
        passed = ap₂ ◌&&◌ h.passed e ∙ sym (fold-parts ◌&&◌ true tests (64 * b) 64 (below bounds bytes start))
            ∙ ap (λ (n : ℕ). all n (below bounds bytes start)) (omega arith);
      }

  -- of a whole record: its kind is below 255, and the others are what condition 4 asks for
  pub bounded_end : blocks ≤ b → Bounds bytes blocks bounds → Body bytes start → ok ≡ body_ok bytes start
  unfolding body_ok
  bounded_end l s k =
      h.passed ∙ ap (λ (n : ℕ). all n (below bounds bytes start)) (omega (arith, s.spanned))
      ∙ fold_head ◌&&◌ true tests (width bytes) (below bounds bytes start)
      ∙ ap (λ (b : Bool). b && all (width bytes) (λ j. below bounds bytes start (suc j))) kind
      ∙ fold_cong ◌&&◌ true (width bytes) symbol
    where
      -- a bound
      bound-is : (i : ℕ) → i < 256 → get_or bounds i 0 ≡ bound (2 ^ symbol_digits bytes) (word_length bytes) i
      bound-is i d = ap (λ (b : List ℕ). get_or b i 0) s.bound_at ∙ table_at 256 _ d

      kind : below bounds bytes start 0 ≡ true
      kind = ap not (ap₂ leb (bound-is 0 (omega arith)) (ap (byte bytes) (omega arith)) ∙ lt-leb 255 (byte bytes start) k.kind)

      symbol : (j : ℕ) → j < width bytes
          → below bounds bytes start (suc j) ≡ place_ok (2 ^ symbol_digits bytes) (word_length bytes) j (body_place bytes start j)
      symbol j d =
          ap not (ap₂ leb (bound-is (suc j) (omega (arith, width_high bytes))) (ap (byte bytes) (omega arith)))
          ∙ below-bound _ (word_length bytes) j (body_place bytes start j) (pow_mono s.digits)
