-- What readable bytes hold: where the generator's places are, and what is known of the bodies.
-- Assumes nothing.
use mathlib.Core.Path.{◌≡◌, refl, sym, subst}
use mathlib.Core.Bool.{Bool, true, false, cond}
use mathlib.Core.List.{List}
use Prim.Native.Nat.{ℕ, ◌+◌, ◌^◌, ◌≤◌, ◌<◌}
use native.Mathlib.Omega.{arith}
use lib.Dec.{T, eqb, eqb→eq}
use Rattle.spec_range.proofs.Tests.{and_left, and_right}
use Rattle.spec_range.proofs.Table.{table_at, all-at}
use Rattle.sizes.specs.Blocks.{span}
use Rattle.word_array.specs.Stored.{Sizes}
use Rattle.spec_book.specs.Layout.{generator_at, dual_at, byte, is_long, width, duals_in, body_place, symbol_digits, word_length, degree_of, book_of}
use Rattle.spec_book.specs.Conditions.{kinds_ok, body_ok, symbols_ok}
use Rattle.spec_book.proofs.Accepting.{sizes, body_symbol}
use Rattle.book_layout.proofs.Sized.{word_sizes, word_spanned}
use Rattle.book_records.specs.Records.{Readable}
use Rattle.book.specs.Params.{Sized, Read}

pub generator_at_lem : (bytes : List ℕ) {j : ℕ} → j < width bytes → (book_of bytes).generator j ≡ body_place bytes generator_at j
unfolding book_of
generator_at_lem bytes l = table_at (width bytes) (body_place bytes generator_at) l

pub degree_of_lem : (bytes : List ℕ) {n : ℕ} → n ≡ word_length bytes → degree_of n (book_of bytes).generator ≡ (book_of bytes).degree
unfolding book_of
degree_of_lem bytes e = rw e

-- ---- readable bytes

module _ {bytes : List ℕ} (r : Readable bytes) where
  pub generator_body : T (body_ok bytes generator_at)
  unfolding symbols_ok
  generator_body = and_left (body_ok bytes generator_at) _ r.symbols

  pub dual_body : (l : ℕ) → l < duals_in bytes → T (body_ok bytes (dual_at (width bytes) l))
  unfolding symbols_ok
  dual_body = all-at (duals_in bytes) _ (and_right (body_ok bytes generator_at) _ r.symbols)

  -- the kind byte of a dual word is 4, or 6
  pub dual_kind : (l : ℕ) → l < duals_in bytes → 0 < byte bytes (dual_at (width bytes) l)
  unfolding kinds_ok
  dual_kind l b =
      let t = r.kinds in
      let k = all-at (duals_in bytes) (λ l. eqb (byte bytes (dual_at (width bytes) l)) (cond (is_long bytes) 6 4)) (search (and_left, and_right) depth 5) l b in
      subst (λ (x : ℕ). 0 < x) (sym (eqb→eq _ _ k)) (some (is_long bytes))
    where
      some : (b : Bool) → 0 < cond b 6 4
      some true = omega arith
      some false = omega arith

  pub sized : {n : ℕ} → n ≡ word_length bytes → Sized bytes n
  sized e =
      let s = sizes bytes r.sizes in
      record { whole = r.whole; n_is = e; n_low = omega (arith, s.n_low); n_high = omega (arith, s.n_high) }

  pub read_of : {n : ℕ} → n ≡ word_length bytes → Read bytes (symbol_digits bytes) n
  read_of e = record { readable = r; sized = sized e; p_is = refl }

-- ---- p and n of readable bytes

module _ {bytes : List ℕ} {p n : ℕ} (h : Read bytes p n) where
  pub read_sizes : Sizes p n
  read_sizes = rw (h.p_is, h.sized.n_is) (word_sizes bytes (sizes bytes h.readable.sizes))

  pub read_spanned : span n ≤ 1 + width bytes
  read_spanned = rw h.sized.n_is (word_spanned bytes (sizes bytes h.readable.sizes))

  -- the places of the generator that a word takes in whole blocks
  pub generator_symbol : (j : ℕ) → j + 1 < span n → body_place bytes generator_at j < 2 ^ p
  generator_symbol j l = rw h.p_is (body_symbol bytes generator_at (generator_body h.readable) j (omega (arith, read_spanned)))
