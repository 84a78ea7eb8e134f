-- What the layers above read off a widened word, a table and a product.
-- Assumes nothing.
use mathlib.Core.Path.{◌≡◌, sym, ap, ◌∙◌, subst}
use mathlib.Core.List.{List}
use Prim.Native.Nat.{ℕ, ◌*◌, ◌%◌, ◌^◌, ◌≤◌, ◌<◌}
use native.Mathlib.Nat.{mod-lt, mul-le-mul_left, add-mod_right}
use native.Mathlib.Decide.{dec_lt}
use native.Mathlib.Omega.{arith}
use lib.ListN.{get_or-eq_default}
use lib.Pow.{pow_pos, pow_mono}
use Rattle.spec_range.specs.Table.{table, padded}
use Rattle.spec_range.proofs.Loop.{padded-at, padded-reads}
use Rattle.spec_range.proofs.Table.{table_at, table-length}
use Rattle.spec_field.specs.Symbols.{gf}
use Rattle.spec_field.proofs.Gf.{gf_laws}
use Rattle.spec_word.specs.Word.{at, product}
use Rattle.spec_word.proofs.Place.{period_mod}
use Rattle.spec_word.proofs.Product.{Periodic, product_period}
use Rattle.word_array.specs.Stored.{place, Sizes, Stored}
use Rattle.word_table.specs.Multiples.{word_of, Multiplied, entry}

-- ---- a widened word

pub widened_stored : (p size n : ℕ) (w : List ℕ) → n ≤ size → Stored p n w → Stored p size (padded size n (place w))
widened_stored p size n w h st = record { symbol = λ j _. subst (λ (x : ℕ). x < 2 ^ p) (sym (padded-reads size n (place w) h j)) (go j (dec_lt j n)) }
  where
    go : (j : ℕ) → Dec (j < n) → place (table n (place w)) j < 2 ^ p
    go j (yes l) = subst (λ (x : ℕ). x < 2 ^ p) (sym (table_at n (place w) l)) (st.symbol j l)
    go j (no l) = subst (λ (x : ℕ). x < 2 ^ p) (sym (get_or-eq_default (table n (place w)) 0 (omega (arith, table-length n (place w))))) (pow_pos p)

pub widened_at : (size n : ℕ) (w : List ℕ) → 1 ≤ n → n ≤ size → (j : ℕ) → at n (padded size n (place w)) j ≡ at n w j
unfolding at
widened_at size n w low h j = padded-at size n (place w) h (mod-lt j low)

-- ---- the word of a table

-- 2 ^ most rows hold every table of a field that has no more symbols
pub table_fits : (stride most p : ℕ) → p ≤ most → stride * 2 ^ p ≤ stride * 2 ^ most
table_fits stride most p h = mul-le-mul_left stride (pow_mono h)

pub word_of_period : (stride n : ℕ) (t : List ℕ) → Periodic n (word_of stride n t)
unfolding word_of
word_of_period stride n t j = ap (entry stride t 1) (add-mod_right j n)

-- ---- a product, at every place

pub multiplied_at : {span p n : ℕ} {b f : ℕ → ℕ} {r : List ℕ} → Sizes p n → Periodic n f → Multiplied span p n b f r
    → (m : ℕ) → at n r m ≡ product (gf p) n b f m
unfolding at
multiplied_at {p = p} {n} {b} {f} {r} s per h m =
    h.places (m % n) (mod-lt m s.n_low)
    ∙ period_mod n (product (gf p) n b f) (product_period (gf p) (gf_laws p s.p_low s.p_high) n b f per) m
