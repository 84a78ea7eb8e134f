-- What `burst_made` says of what it made gives the contract of `shiftsum_burst`.
-- Assumes nothing.
use mathlib.Core.Path.{◌≡◌, refl, sym, ap, ◌∙◌, subst}
use mathlib.Core.List.{List, []}
use Prim.Native.Nat.{ℕ, zero, suc, ◌≤◌}
use native.Mathlib.Omega.{arith}
use native.Mathlib.Nat.{le_of_eq}
use lib.ListN.{length}
use Rattle.spec_field.specs.Answer.{answer, refused, left}
use Rattle.spec_operations.specs.Decoding.{matrix_size}
use Rattle.spec_operations.specs.Burst.{burst_refusal, burst_word, records_of, ReturnsBurst}
use Rattle.spec_operations.specs.Packed.{result_of}
use Rattle.spec_book.proofs.Inputs.{words_high}
use Rattle.std.specs.Prelude.{Ok, Err}
use Rattle.refusal.specs.declared.Refusal.{Refusal}
use Rattle.refusal.specs.Number.{number_of}
use Rattle.burst.specs.Said.{list_bytes, Outcome}
use Rattle.burst.specs.declared.Record.{Record}
use Rattle.burst.specs.declared.Burst.{Burst}
use Rattle.burst.proofs.Listing.{taken, counted_most, listed}
use Rattle.shiftsum.specs.Made.{Made}
use Rattle.shiftsum.proofs.Filled.{upto}

-- what a refused call leaves
kept : (number n : ℕ) → refused n ≡ answer number [] → (new old : List ℕ) → old ≡ left number new old
kept zero n e new old = let no : ◌≡◌ {A = ℕ} 0 1 = cc in absurd (omega (arith, no))
kept (suc number) n e new old = refl

module _ (book : List ℕ) (words : ℕ) (received answers : List ℕ) (records : List Record) where
  abbrev number : ℕ
  number = burst_refusal book words received (length answers) (length records) (matrix_size book)

  -- what `burst_made` says of what it made, and of the answers that it left
  abbrev pub Said : Outcome → List ℕ → Type 0
  Said made last = Made number words (burst_word book words received) answers made last

  -- a burst that is refused leaves the records as they were
  pub returned_refused : (why : Refusal) (last : List ℕ) → Said (Err why) last
      → ReturnsBurst number words (burst_word book words received) answers (list_bytes records) (number_of why) last (list_bytes records)
  returned_refused why last said =
      let bursts = said.answered.bursts in
      let number_is = ap result_of bursts.says in
      record {
        with_answers = record { returns = number_is; buffer = bursts.answers_buffer };
        with_records = record { returns = number_is; buffer = kept number (number_of why) bursts.says _ (list_bytes records) };
      }

  module _ (made : Burst) (last : List ℕ) (said : Said (Ok made) last) where
    within : (most : ℕ) → (number ≡ 0 → words ≤ most) → made.count ≤ most
    within most h = subst (λ (k : ℕ). k ≤ most) (sym said.answered.count_is) (counted_most number words most h)

    pub high : made.count ≤ 16
    high = within 16 (λ z. words_high words (taken book words received (length answers) (length records) (matrix_size book) z).count)

    pub fits : made.count ≤ length records
    fits = within (length records) (λ z. le_of_eq (sym (taken book words received (length answers) (length records) (matrix_size book) z).list_size))

    -- so the contract holds of the number 0, of those answers, and of the records zs that the loop left
    pub returned : (zs : List Record) → zs ≡ upto made.count made.records records
        → ReturnsBurst number words (burst_word book words received) answers (list_bytes records) 0 last (list_bytes zs)
    returned zs are =
        let bursts = said.answered.bursts in
        let number_is = ap result_of bursts.says in
        record {
          with_answers = record { returns = number_is; buffer = bursts.answers_buffer };
          with_records = record {
            returns = number_is;
            buffer =
                ap list_bytes are
                ∙ listed number words (records_of words (burst_word book words received)) made records said.answered.count_is
                (λ z. (taken book words received (length answers) (length records) (matrix_size book) z).list_size) bursts.records_list;
          };
        }
