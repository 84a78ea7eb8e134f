-- What code, read and remainder write, from what their calls ensure.
-- Assumes nothing.
use mathlib.Core.Path.{◌≡◌, refl, sym, ap, ◌∙◌}
use mathlib.Core.Bool.{Bool}
use mathlib.Core.List.{List}
use Prim.Native.Nat.{ℕ, ◌+◌, ◌-◌, ◌≤◌, ◌<◌}
use native.Mathlib.Nat.{le_refl, le_of_eq, le_trans}
use native.Mathlib.Omega.{arith}
use lib.Dec.{eqb}
use lib.ListN.{length}
use Rattle.spec_range.specs.Table.{table}
use Rattle.spec_range.proofs.Table.{table_same}
use Rattle.spec_field.specs.Symbols.{gf}
use Rattle.spec_field.proofs.Gf.{gf_laws}
use Rattle.spec_word.specs.Word.{at}
use Rattle.spec_word.specs.Division.{coefficients, all_zero}
use Rattle.spec_word.proofs.Place.{at_lt}
use Rattle.spec_word.proofs.Product.{product_cong}
use Rattle.spec_word.proofs.Unique.{remainder-listed}
use Rattle.spec_book.specs.Book.{is_code_word}
use Rattle.spec_book.specs.Conditions.{message_fits}
use Rattle.spec_book.specs.Layout.{field_of, book_of}
use Rattle.spec_book.proofs.Known.{book_laws, book_accepted}
use Rattle.spec_coding.specs.Coder.{encode, message}
use Rattle.spec_operations.specs.Coding.{coded, message_of}
use Rattle.spec_operations.specs.Remainder.{remainder_of}
use Rattle.sizes.specs.Blocks.{span, stride}
use Rattle.sizes.proofs.Lengths.{blocks_fit, blocks_high}
use Rattle.word_array.specs.Stored.{place, Sizes, Stored}
use Rattle.word_table.specs.Window.{Window}
use Rattle.word_table.specs.Multiples.{word_of, Multiples}
use Rattle.word_table.specs.Rows.{turned_sum, Summands}
use Rattle.word_table.proofs.Rows.{rows_apart}
use Rattle.word_table.proofs.Sums.{message-product}
use Rattle.word_divide.specs.Window.{DividedBy}
use Rattle.word_divide.proofs.Degree.{quotient_by}
use Rattle.word_divide.proofs.Dividing.{divided_same}
use Rattle.book.specs.Opened.{OpenBook}
use Rattle.book.specs.declared.Params.{Params}
use Rattle.book.proofs.Described.{params_sizes, degree_low, degree_high, word_is, word_low, remainder-tabulated, code-tabulated}
use Rattle.coder.proofs.Opening.{Taken, size_is, size_at_most}

module _ {bytes : List ℕ} {c : Params} {t : List ℕ} (b : OpenBook bytes c t) where
  sizes : Sizes c.p c.n
  sizes = params_sizes bytes c b.describes

  -- an array of 256 places has as many as the output
  pub room_within : {fits : Bool} {input : List ℕ} {room wanted : ℕ} → Taken c.p fits input room wanted → wanted ≤ c.n → {size : ℕ} → 256 ≤ size → room ≤ size
  room_within i h l = omega (arith, i.room_is, sizes.n_high)

  -- ---- code

  module _ {fits : Bool} {f : List ℕ} {room : ℕ} (i : Taken c.p fits f room c.n) where
    message_within : fits ≡ message_fits (c.n - c.degree) (length f) → length f ≤ c.n
    message_within e = omega (arith, size_at_most e i)

    -- what the product asks of a message: the table has a row for each symbol
    pub product_fits : fits ≡ message_fits (c.n - c.degree) (length f) → Summands (stride c.n) (span c.n) c.n (length f) f 0 t × (span c.n ≤ 256)
    product_fits e = (
      record {
        fits = omega (arith, blocks_fit {n = c.n} sizes.n_high);
        within = message_within e;
        room = omega arith;
        row = λ u l. le_trans (rows_apart (stride c.n) (i.symbol (0 + u) (omega arith))) b.table_is.multiples.size;
      },
      omega (arith, blocks_high c.n),
    )

    pub word_coded : {r₀ r out : List ℕ} → fits ≡ message_fits (c.n - c.degree) (length f)
        → Window 0 (span c.n) (turned_sum (stride c.n) c.n (length f) (λ u. place f (0 + u)) t) r₀ r → out ≡ table room (place r) → out ≡ coded bytes f
    unfolding encode
    word_coded {r} e hr ho =
        ho ∙ ap (λ (k : ℕ). table k (place r)) i.room_is
        ∙ table_same c.n (λ j l.
        message-product f sizes (omega (arith, blocks_fit {n = c.n} sizes.n_high)) b.table_is.multiples (message_within e) (le_refl (length f)) i.symbol hr j l
        ∙ product_cong (gf c.p) (gf_laws c.p sizes.p_low sizes.p_high) c.n (λ u _. refl) (word_is bytes c b.describes b.table_is) j)
        ∙ rw (b.describes.p_is, b.describes.n_is)

  -- ---- read and remainder: a word that was divided

  module _ (word : List ℕ) where
    word-stored : {room wanted : ℕ} → Taken c.p (eqb (length word) c.n) word room wanted → Stored c.p c.n word
    word-stored i = record { symbol = λ j l. i.symbol j (omega (arith, size_is i)) }

    -- what the division asks of a word, and of its two arrays
    pub division_fits : {room wanted : ℕ} → Taken c.p (eqb (length word) c.n) word room wanted
        → Sizes c.p c.n × (1 ≤ c.degree) × (c.degree < c.n) × (c.n ≤ length word) × Stored c.p c.n word × Multiples (stride c.n) c.p c.n t
        × (c.n + span c.n ≤ 512) × (c.n ≤ 256)
    division_fits i = (
      sizes,
      degree_low bytes c b.describes,
      degree_high bytes c b.describes,
      le_of_eq (sym (size_is i)),
      word-stored i,
      b.table_is.multiples,
      omega (arith, blocks_high c.n, sizes.n_high),
      omega (arith, sizes.n_high),
    )

    module _ {q r : List ℕ} (h : DividedBy c.p c.n c.degree (word_of (stride c.n) c.n t) (place word) q r) where
      divided : DividedBy c.p c.n c.degree (word_of (stride c.n) c.n t) (at c.n word) q r
      divided = divided_same (place word) (at c.n word) sizes (degree_low bytes c b.describes) (λ j l. sym (at_lt c.n word l)) h

      -- the test of the remainder's places
      pub word-tested : {zero : Bool} → zero ≡ all_zero c.degree r → zero ≡ is_code_word (field_of bytes) (book_of bytes) (at (book_of bytes).n word)
      word-tested e = e ∙ code-tabulated bytes c b.describes b.table_is word (λ j l. refl) divided.remains

      pub word_read : {room : ℕ} {out : List ℕ} → room ≡ c.n - c.degree → out ≡ table room (place q) → out ≡ message_of bytes word
      unfolding message
      word_read hr ho =
          ho ∙ ap (λ (k : ℕ). table k (place q)) hr
          ∙ table_same (c.n - c.degree) (λ i l.
          divided.places i l
          ∙ ap (λ (Q : List ℕ). coefficients Q i) (quotient_by (gf c.p) c.degree (word_low bytes c b.describes b.table_is) c.n (at c.n word)))
          ∙ rw (b.describes.p_is, b.describes.n_is, b.describes.degree_is)

      pub word-remainder : {room : ℕ} {out : List ℕ} → room ≡ c.degree → out ≡ table room (place r) → out ≡ remainder_of bytes word
      word-remainder hr ho =
          ho ∙ ap (λ (k : ℕ). table k (place r)) hr
          ∙ table_same c.degree (remainder-tabulated bytes c b.describes b.table_is word (λ j l. refl) divided.remains)
          ∙ ap (λ (k : ℕ). table k (coefficients (remainder_of bytes word))) b.describes.degree_is
          ∙ remainder-listed _ (book_laws bytes b.describes.accepted) _ _ _ (book_accepted bytes b.describes.accepted).generates _
