-- What was read off a book's bytes once: what the conditions ask of it, and what opening answers.
-- Assumes nothing.
use mathlib.Core.Path.{◌≡◌, refl, sym, ap, ◌∙◌}
use mathlib.Core.List.{List}
use Prim.Native.Nat.{ℕ, ◌+◌}
use native.Mathlib.Omega.{arith}
use Rattle.spec_field.proofs.Refusals.{found_first, found_next}
use Rattle.sizes.specs.Blocks.{stride}
use Rattle.word_array.specs.Stored.{place}
use Rattle.word_table.specs.Multiples.{Tabled}
use Rattle.spec_book.specs.Layout.{byte, width, symbol_digits, word_length, duals_in, degree_of, field_of, book_of}
use Rattle.spec_book.specs.Conditions.{limits_ok, book_refusal, refusal}
use Rattle.book_records.specs.Records.{records_refusal, Readable}
use Rattle.book_records.proofs.Tested.{records_first, readable_number}
use Rattle.book.proofs.Reading.{degree_of_lem, read_of}
use Rattle.book.specs.Params.{Tabulated, Describes, limits_test}
use Rattle.book.specs.Opened.{Gathered}
use Rattle.book.specs.declared.Params.{Params}

pub tabulated : {bytes : List ℕ} {p n : ℕ} {t₀ t : List ℕ} → Tabled (stride n) p n (λ j. place bytes (4 + j)) t₀ t → Tabulated bytes p n t
tabulated m = record { multiples = m.multiples; word = m.word }

-- c was read off readable bytes, record by record
pub gathered : {bytes : List ℕ} (r : Readable bytes) {c : Params} {t₀ t : List ℕ} {record_size : ℕ} → c.p ≡ symbol_digits bytes → c.n ≡ word_length bytes
    → Tabled (stride c.n) c.p c.n (λ j. place bytes (4 + j)) t₀ t → c.degree ≡ degree_of c.n (book_of bytes).generator
    → record_size ≡ 1 + width bytes → c.rounds ≡ place bytes (3 + record_size + 1) → c.places ≡ place bytes (3 + record_size + 2)
    → c.duals ≡ duals_in bytes → Gathered bytes c t
unfolding book_of
gathered {bytes} r p_is n_is m degree_is size_is rounds_is places_is duals_is =
    record {
      read = rw p_is (read_of r n_is);
      table = tabulated m;
      degree_is = degree_is ∙ degree_of_lem bytes n_is;
      rounds_is = rounds_is ∙ ap (byte bytes) (omega (arith, size_is));
      places_is = places_is ∙ ap (byte bytes) (omega (arith, size_is));
      duals_is = duals_is;
    }

pub gathered_limits : {bytes : List ℕ} {c : Params} {t : List ℕ} → Gathered bytes c t
    → limits_test c.n c.rounds c.places ≡ limits_ok (field_of bytes) (book_of bytes)
unfolding limits_test limits_ok book_of
gathered_limits h = rw (h.read.sized.n_is, h.rounds_is, h.places_is)

-- ---- what opening answers, where none of the numbers 1 to 4 applies and the first from 5 to 8 was looked for

module _ (bytes : List ℕ) {number : ℕ} (r : Readable bytes) (e : number ≡ book_refusal (field_of bytes) (book_of bytes)) where
  pub number_is : number ≡ refusal bytes
  number_is =
      e ∙ found_next _ (records_refusal bytes) (book_refusal (field_of bytes) (book_of bytes)) refl (readable_number bytes r)
      ∙ sym (records_first bytes)

  pub described : {c : Params} {t : List ℕ} → Gathered bytes c t → number ≡ 0 → Describes bytes c
  unfolding book_of
  described h n =
      record {
        accepted = sym number_is ∙ n;
        p_is = h.read.p_is;
        n_is = h.read.sized.n_is;
        degree_is = h.degree_is;
        rounds_is = h.rounds_is;
        places_is = h.places_is;
        duals_is = h.duals_is;
      }

-- one of the numbers 1 to 4 was found
pub records_number : (bytes : List ℕ) {number : ℕ} → number ≡ records_refusal bytes → (number ≡ 0 → ⊥) → number ≡ refusal bytes
records_number bytes e h = found_first _ (records_refusal bytes) (book_refusal (field_of bytes) (book_of bytes)) e h ∙ sym (records_first bytes)
