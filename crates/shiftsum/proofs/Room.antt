-- A decode or a burst over the C boundary: with a matrix of the book's own size, so that its size is never refused.
-- Assumes nothing.
use mathlib.Core.Path.{◌≡◌, refl, sym, ap, ◌∙◌, subst}
use mathlib.Core.Bool.{true, false}
use mathlib.Core.List.{List}
use Prim.Native.Nat.{ℕ, zero, suc, ◌*◌, ◌≤◌}
use native.Mathlib.Omega.{arith}
use lib.ListN.{length, take, replicate, length-replicate}
use lib.Seq.{length-take-le}
use Rattle.spec_field.specs.Answer.{Answer, answer, or_else, left}
use Rattle.spec_book.specs.Layout.{is_long, field_of}
use Rattle.spec_book.specs.Conditions.{refusal}
use Rattle.spec_book.proofs.Known.{n_word_length}
use Rattle.spec_operations.specs.Decoding.{matrix_size, decode_input_refusal, decode_refusal, decode_bytes, values, Decodes}
use Rattle.spec_operations.specs.Packed.{result_of, Returns}
use Rattle.spec_operations.specs.Burst.{burst_input_refusal, burst_refusal, burst_word}
use Rattle.book.specs.Opened.{few_symbols, MatrixBound, MatrixFits}
use Rattle.burst.specs.Said.{Outcome, Answered}
use Rattle.shiftsum.specs.Made.{Made}

-- ---- which rooms hold the matrix

module _ (bytes : List ℕ) where
  pub any_matrix : MatrixFits bytes 4080
  any_matrix = record { fits = λ size h. h.most; most = omega arith }

  pub few_matrix : few_symbols bytes ≡ true → MatrixFits bytes 2040
  few_matrix s = record { fits = λ size h. h.few s; most = omega arith }

  pub few_short_matrix : few_symbols bytes ≡ true → is_long bytes ≡ false → MatrixFits bytes 504
  few_short_matrix s f = record { fits = λ size h. h.few_short s f; most = omega arith }

module _ {bytes : List ℕ} {entries size : ℕ} (f : MatrixFits bytes entries) (h : MatrixBound bytes size) where
  pub within : size ≤ length (replicate {A = ℕ} entries 0)
  within = omega (arith, f.fits size h, length-replicate {A = ℕ} entries 0)

  -- the part of the room that is lent is of that size
  pub lent : MatrixBound bytes (length (take size (replicate {A = ℕ} entries 0)))
  lent = subst (MatrixBound bytes) (sym (length-take-le size (replicate {A = ℕ} entries 0) within)) h

-- ---- the exact size

-- a book that is refused is so whatever the matrix, and for any other the size is exact; `next` is the number that goes by the size
sized : (bytes : List ℕ) (next : ℕ → ℕ) {size : ℕ} → MatrixBound bytes size → or_else (refusal bytes) (next size) ≡ or_else (refusal bytes) (next (matrix_size bytes))
sized bytes next {size} h = go (refusal bytes) refl
  where
    go : (k : ℕ) → refusal bytes ≡ k → or_else k (next size) ≡ or_else k (next (matrix_size bytes))
    go zero e = ap next (h.exact e ∙ ap (λ (n : ℕ). (field_of bytes).q * n) (sym (n_word_length bytes e)))
    go (suc k) e = refl

pub decoded_into : (bytes received : List ℕ) (room : ℕ) {size r : ℕ} {word₀ entries₀ word entries : List ℕ} {a : Answer} → MatrixBound bytes size
    → Decodes (decode_refusal bytes received room size) (decode_bytes bytes received) word₀ entries₀ a word entries → r ≡ result_of a
    → Returns (decode_refusal bytes received room (matrix_size bytes)) (values (decode_bytes bytes received)) (decode_bytes bytes received).answer word₀ r word
unfolding decode_refusal
decoded_into bytes received room {word₀ = word₀} m h p =
    let number = sized bytes (decode_input_refusal bytes received room) m in
    record {
      returns = p ∙ ap result_of (h.says ∙ ap (λ (k : ℕ). answer k (values (decode_bytes bytes received))) number);
      buffer = h.answer_buffer ∙ ap (λ (k : ℕ). left k (decode_bytes bytes received).answer word₀) number;
    }

-- the matrix of a burst is of the exact size too
pub made_into : (bytes : List ℕ) (words : ℕ) (received answers₀ : List ℕ) (list : ℕ) {size : ℕ} {entries₀ answers entries : List ℕ} {r : Outcome} → MatrixBound bytes size
    → Answered (burst_refusal bytes words received (length answers₀) list size) words (burst_word bytes words received) answers₀ entries₀ r answers entries
    → Made (burst_refusal bytes words received (length answers₀) list (matrix_size bytes)) words (burst_word bytes words received) answers₀ r answers
unfolding burst_refusal
made_into bytes words received answers₀ list {entries₀ = entries₀} {answers = answers} {entries = entries} {r = r} m h =
    record {
      entries₀ = entries₀;
      entries = entries;
      answered =
          subst (λ (k : ℕ). Answered k words (burst_word bytes words received) answers₀ entries₀ r answers entries)
          (sized bytes (burst_input_refusal bytes words received (length answers₀) list) m) h;
    }
