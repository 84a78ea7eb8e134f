-- Coding gives code words, and reading takes the message back.
-- Assumes nothing.
use mathlib.Core.Path.{◌≡◌, refl, sym, ap, ◌∙◌, subst, fun_ext}
use mathlib.Core.List.{List, [], ◌∷◌, ◌++◌, append-nil}
use Prim.Native.Nat.{ℕ, zero, suc, ◌+◌, ◌-◌, ◌%◌, ◌≤◌, ◌<◌}
use native.Mathlib.Nat.{mod-eq_of_lt, add-mod_right, le_of_eq, le_trans, not-le_of_lt}
use native.Mathlib.Decide.{dec_le}
use native.Mathlib.Omega.{arith}
use lib.Dec.{T}
use lib.ListN.{get_or, length, replicate, length-append, length-replicate, get_or-eq_default}
use lib.Seq.{ext_get_or}
use Rattle.spec_range.specs.Table.{table}
use Rattle.spec_field.specs.Field.{FieldOps, FieldLaws}
use Rattle.spec_word.specs.Word.{at, product}
use Rattle.spec_word.specs.Division.{coefficients, quotient}
use Rattle.spec_book.specs.Book.{Book, Usable, message_length, is_code_word}
use Rattle.spec_coding.specs.Coder.{written_out, encode, message}
use Rattle.spec_range.proofs.Fold.{fold_cong, fold-extend}
use Rattle.spec_range.proofs.Table.{table_at, table-length}
use Rattle.spec_range.proofs.Loop.{zero_at}
use Rattle.spec_field.proofs.Laws as L
use Rattle.spec_word.proofs.Sums.{Symbols, field_sums}
use Rattle.spec_word.proofs.Division as D
use Rattle.spec_word.proofs.Quotient as Q
use Rattle.spec_word.proofs.Place.{SymbolList, at_lt, at_table}

-- ---- a message written out

-- zeros after a list change no coefficient
zeros_after : (f : List ℕ) (count u : ℕ) → coefficients (f ++ replicate count 0) u ≡ coefficients f u
zeros_after [] count u = zero_at count u
zeros_after (x ∷ f) count zero = refl
zeros_after (x ∷ f) count (suc u) = zeros_after f count u

module _ (B : Book) (f : List ℕ) where
  pub written_out_at : (u : ℕ) → coefficients (written_out B f) u ≡ coefficients f u
  unfolding written_out
  written_out_at = zeros_after f (message_length B - length f)

  pub written_out_length : length f ≤ message_length B → length (written_out B f) ≡ message_length B
  unfolding written_out
  written_out_length h =
      length-append f (replicate (message_length B - length f) 0)
      ∙ ap (length f +◌) (length-replicate (message_length B - length f) 0) ∙ omega arith

  -- a full message has all its symbols
  pub written_out_full : length f ≡ message_length B → written_out B f ≡ f
  unfolding written_out
  written_out_full e =
      let none : message_length B - length f ≡ 0 = omega arith in
      ap (λ (count : ℕ). f ++ replicate count 0) none ∙ append-nil f

  pub encode-written_out : (F : FieldOps) → encode F B (written_out B f) ≡ encode F B f
  unfolding encode
  encode-written_out F = ap (λ (h : ℕ → ℕ). table B.n (product F B.n h (λ j. B.generator (j % B.n)))) (fun_ext written_out_at)

module _ (F : FieldOps) (laws : FieldLaws F) (B : Book) (ok : Usable F B) where
  open F use {q, add as ◌⊕◌, mul as ◌⊗◌}
  open laws use {add_zero}
  open B use {n, degree, generator}
  open ok use {generates}
  open generates use {degree_pos, degree_lt, monic, above}

  infixl 60 ◌⊕◌
  infixl 70 ◌⊗◌
  -- the generator's place (j - u) mod n, where u is below k, is x^u·g's place j
  turned-generator : (u j : ℕ) → u < n - degree → j < n → generator ((j + (n - u)) % n) ≡ Q.raised F degree generator u j
  turned-generator u j hu hj = go (dec_le u j)
    where
      go : Dec (u ≤ j) → generator ((j + (n - u)) % n) ≡ Q.raised F degree generator u j
      go (yes l) =
          ap (λ (x : ℕ). generator (x % n)) (omega arith) ∙ ap generator (add-mod_right (j - u) n ∙ mod-eq_of_lt (omega arith))
          ∙ sym (Q.raised-high F degree generator laws degree_pos u j l)
      go (no l) =
          ap generator (mod-eq_of_lt (omega arith)) ∙ above (j + (n - u)) (omega (arith, degree_lt))
          ∙ sym (Q.raised-low F degree generator laws degree_pos u j (omega arith))

  -- ---- a message of at most k symbols

  module _ (f : List ℕ) (short : length f ≤ message_length B) where
    encode-times : (j : ℕ) → j < n → at n (encode F B f) j ≡ Q.times F degree generator (n - degree) (coefficients f) j
    unfolding encode product
    encode-times j l =
        at_table n (product F n (coefficients f) (λ j. generator (j % n))) l
        ∙ fold-extend ◌⊕◌ 0 (field_sums F laws) (n - degree) n (omega (arith, degree_lt)) (λ u. coefficients f u ⊗ generator ((j + (n - u)) % n))
        (λ u h. ap (◌⊗ generator ((j + (n - u)) % n)) (get_or-eq_default f 0 (le_trans short h)) ∙ L.zero_mul F laws _)
        ∙ fold_cong ◌⊕◌ 0 (n - degree) (λ u h. ap (coefficients f u ⊗◌) (turned-generator u j h l))
        ∙ sym (Q.times-sum F degree generator laws degree_pos (n - degree) (coefficients f) j)

  module _ (f : List ℕ) (short : length f ≤ message_length B) (symbols : Symbols F (coefficients f)) where
    -- f·g and the remainder 0
    abbrev combined : ℕ → ℕ
    combined = Q.combine F degree generator (n - degree) (coefficients f) (λ j. 0)

    as-combined : (j : ℕ) → j < n → at n (encode F B f) j ≡ combined j
    unfolding Q.combine
    as-combined j l = encode-times f short j l ∙ sym (L.zero_add F laws _)

    pub encode-code : T (is_code_word F B (at n (encode F B f)))
    encode-code =
        D.divides-of F degree generator laws n (at n (encode F B f)) (λ i h.
        D.remainder-cong F degree generator laws n (at n (encode F B f)) combined as-combined i
        ∙ Q.combine-remainder F degree generator laws degree_pos monic above (n - degree) n (coefficients f) (λ j. 0) symbols
        (λ i _. refl) (omega (arith, degree_lt)) i h)

    pub message-encode : message F B (encode F B f) ≡ written_out B f
    unfolding message
    message-encode =
        ext_get_or 0 (message F B (encode F B f)) (written_out B f) (table-length (n - degree) _ ∙ sym (written_out_length B f short)) (λ i l.
        same i (subst (λ (x : ℕ). i < x) (table-length (n - degree) _) l))
      where
        same : (i : ℕ) → i < n - degree → get_or (message F B (encode F B f)) i 0 ≡ get_or (written_out B f) i 0
        same i l =
            table_at (n - degree) (coefficients (quotient F degree generator n (at n (encode F B f)))) l
            ∙ Q.quotient-at F degree generator laws degree_pos n (at n (encode F B f)) i
            ∙ Q.quotient-cong F degree generator laws degree_pos n (at n (encode F B f)) combined as-combined i
            ∙ Q.combine-quotient F degree generator laws degree_pos monic above (n - degree) n (coefficients f) (λ j. 0) symbols
            (λ i _. refl) (omega (arith, degree_lt)) i
            ∙ Q.prefix_below (n - degree) (coefficients f) i l
            ∙ sym (written_out_at B f i)

  -- ---- a code word

  module _ (w : List ℕ) (hw : SymbolList F n w) where
    message-at : (u : ℕ) → coefficients (message F B w) u ≡ Q.quotient_at F degree generator n (at n w) u
    unfolding message
    message-at u = go (dec_le (n - degree) u)
      where
        Qs : List ℕ
        Qs = quotient F degree generator n (at n w)

        go : Dec (n - degree ≤ u) → coefficients (table (n - degree) (coefficients Qs)) u ≡ Q.quotient_at F degree generator n (at n w) u
        go (yes l) =
            get_or-eq_default (table (n - degree) (coefficients Qs)) 0 (le_trans (le_of_eq (table-length (n - degree) (coefficients Qs))) l)
            ∙ sym (Q.quotient-above F degree generator laws degree_pos n (at n w) u (λ j c d. absurd (not-le_of_lt d (omega arith))))
        go (no l) =
            table_at (n - degree) (coefficients Qs) (omega arith) ∙ Q.quotient-at F degree generator laws degree_pos n (at n w) u

    -- a code word is the product of its message and g
    pub encode-message : T (is_code_word F B (at n w)) → encode F B (message F B w) ≡ w
    encode-message t =
        ext_get_or 0 (encode F B (message F B w)) w (length-encode ∙ sym hw.exact) (λ j l. same j (subst (λ (x : ℕ). j < x) length-encode l))
      where
        length-encode : length (encode F B (message F B w)) ≡ n
        length-encode = unfold encode in table-length n _

        length-message : length (message F B w) ≡ n - degree
        length-message = unfold message in table-length (n - degree) _

        quot : ℕ → ℕ
        quot = Q.quotient_at F degree generator n (at n w)

        same : (j : ℕ) → j < n → get_or (encode F B (message F B w)) j 0 ≡ get_or w j 0
        same j l =
            sym (at_lt n (encode F B (message F B w)) l)
            ∙ encode-times (message F B w) (le_of_eq length-message) j l
            ∙ ap (λ (f : ℕ → ℕ). Q.times F degree generator (n - degree) f j) (fun_ext message-at)
            ∙ sym (Q.times-extend F degree generator laws degree_pos (n - degree) n quot (omega arith)
            (λ u h. Q.quotient-above F degree generator laws degree_pos n (at n w) u (λ j c d. absurd (not-le_of_lt d (omega arith)))) j)
            ∙ sym (add_zero (Q.times F degree generator n quot j)) ∙ ap (Q.times F degree generator n quot j ⊕◌) (sym (none (dec_le degree j)))
            ∙ sym (Q.division F degree generator laws degree_pos n (at n w) j)
            ∙ Q.prefix_below n (at n w) j l ∙ at_lt n w l
          where
            none : Dec (degree ≤ j) → D.remainder_at F degree generator n (at n w) j ≡ 0
            none (yes h) = Q.remainder-above F degree generator laws degree_pos monic above n (at n w) hw.symbols j h
            none (no h) = D.divided-of F degree generator laws n (at n w) t j (omega arith)
