-- Which bursts are taken, what is known of one that is, and that its words are words.
-- Assumes nothing.
use mathlib.Core.Path.{◌≡◌, ◌∙◌, sym, subst}
use mathlib.Core.Bool.{◌&&◌}
use mathlib.Core.List.{List}
use Prim.Native.Nat.{ℕ, ◌+◌, ◌*◌, ◌<◌}
use lib.Arith.{digits_lt}
use lib.Dec.{T, eqb, eqb→eq}
use lib.ListN.{length, get_or}
use Rattle.spec_range.proofs.Tests.{eq→eqb, and_left, and_right, and_both, cond_true}
use Rattle.spec_field.specs.Field.{FieldOps}
use Rattle.spec_word.specs.Word.{IsWord}
use Rattle.spec_word.specs.Mixed.{unmixed}
use Rattle.spec_word.proofs.Mixed.{unmixed-length, unmixed-at}
use Rattle.spec_book.specs.Layout.{field_of}
use Rattle.spec_book.specs.Conditions.{words_ok}
use Rattle.spec_book.proofs.Inputs.{accepted_input, input_accepted}
use Rattle.spec_book.proofs.Sound.{passed}
use Rattle.spec_operations.specs.Decoding.{matrix_size}
use Rattle.spec_operations.specs.Burst.{burst_size, burst_input_refusal}

-- ---- a burst that is taken

pub record TakenBurst (bytes : List ℕ) (words : ℕ) (r : List ℕ) (answers list entries : ℕ) : Type 0 where
  pub count : T (words_ok words)
  pub size : length r ≡ burst_size bytes words
  pub answers_size : answers ≡ burst_size bytes words
  pub list_size : list ≡ words
  pub entries_size : entries ≡ matrix_size bytes
  pub symbol : (k : ℕ) → k < length r → get_or r k 0 < (field_of bytes).q

module _ (bytes : List ℕ) (words : ℕ) (r : List ℕ) (answers list entries : ℕ) where
  pub burst_taken : TakenBurst bytes words r answers list entries → burst_input_refusal bytes words r answers list entries ≡ 0
  unfolding burst_input_refusal
  burst_taken h =
      cond_true (words_ok words) _ _ h.count
      ∙ input_accepted (record {
        size = eq→eqb h.size;
        sizes =
            and_both (eqb answers (burst_size bytes words) && eqb list words) (eqb entries (matrix_size bytes))
            (and_both (eqb answers (burst_size bytes words)) (eqb list words) (eq→eqb h.answers_size) (eq→eqb h.list_size))
            (eq→eqb h.entries_size);
        symbol = h.symbol;
      })

  pub taken_burst : burst_input_refusal bytes words r answers list entries ≡ 0 → TakenBurst bytes words r answers list entries
  unfolding burst_input_refusal
  taken_burst e =
      let counted = passed (words_ok words) 13 _ e in
      let input =
      accepted_input (field_of bytes).q (eqb (length r) (burst_size bytes words))
      (eqb answers (burst_size bytes words) && eqb list words && eqb entries (matrix_size bytes)) r counted.1 in
      let both = and_left (eqb answers (burst_size bytes words) && eqb list words) (eqb entries (matrix_size bytes)) input.sizes in
      record {
        count = counted.0;
        size = eqb→eq (length r) (burst_size bytes words) input.size;
        answers_size = eqb→eq answers (burst_size bytes words) (and_left (eqb answers (burst_size bytes words)) (eqb list words) both);
        list_size = eqb→eq list words (and_right (eqb answers (burst_size bytes words)) (eqb list words) both);
        entries_size =
            eqb→eq entries (matrix_size bytes)
            (and_right (eqb answers (burst_size bytes words) && eqb list words) (eqb entries (matrix_size bytes)) input.sizes);
        symbol = input.symbol;
      }

-- each word of a burst of symbols is a word
pub unmixed_word : (F : FieldOps) (n words : ℕ) (r : List ℕ) → length r ≡ n * words → ((k : ℕ) → k < length r → get_or r k 0 < F.q)
    → {m : ℕ} → m < words → IsWord F n (unmixed n words r m)
unmixed_word F n words r e symbol {m} h =
    record {
      size = unmixed-length n words r m;
      symbol = λ j l.
          subst (λ (s : ℕ). s < F.q) (sym (unmixed-at n words r m l)) (symbol (j * words + m) (subst (λ (k : ℕ). j * words + m < k) (sym e) (digits_lt l h)));
    }
