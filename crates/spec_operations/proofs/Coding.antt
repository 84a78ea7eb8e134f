-- The refusal numbers of code and read, what the number 0 tells, and that each operation accepts what the other writes and gives back what it was given.
-- Assumes nothing.
use mathlib.Core.Path.{◌≡◌, sym, ap, ap₂, ◌∙◌, subst}
use mathlib.Core.Bool.{Bool, true, false}
use mathlib.Core.List.{List}
use Prim.Native.Nat.{ℕ, zero, suc, pred, ◌%◌, ◌≤◌, ◌<◌}
use native.Mathlib.Decide.{dec_lt}
use native.Mathlib.Omega.{arith}
use lib.Dec.{T, eqb, eqb→eq}
use lib.ListN.{length, get_or, get_or-eq_default}
use Rattle.spec_range.specs.Table.{table}
use Rattle.spec_range.proofs.Tests.{eq→eqb, cond_true}
use Rattle.spec_range.proofs.Table.{table-length, table_at}
use Rattle.spec_field.specs.Field.{FieldOps, FieldLaws}
use Rattle.spec_field.specs.Answer.{Answer, or_else}
use Rattle.spec_field.proofs.Laws.{zero_below}
use Rattle.spec_field.proofs.Refusals.{found_first, found_next, neither}
use Rattle.spec_word.specs.Word.{IsWord, at}
use Rattle.spec_word.specs.Division.{before, coefficients, quotient}
use Rattle.spec_word.proofs.Sums.{Symbols}
use Rattle.spec_word.proofs.Product.{product-below}
use Rattle.spec_word.proofs.Division.{remainder-below}
use Rattle.spec_word.proofs.Quotient.{quotient_at, quotient-at}
use Rattle.spec_book.specs.Book.{Book, message_length, is_code_word}
use Rattle.spec_book.specs.Layout.{field_of, book_of}
use Rattle.spec_book.specs.Conditions.{unless, refusal, message_fits, code_word_refusal}
use Rattle.spec_book.proofs.Sound.{passed}
use Rattle.spec_book.proofs.Known.{book_laws, book_accepted}
use Rattle.spec_book.proofs.Inputs.{fits_high, full_fits, AcceptedInput, accepted_input, input_accepted, word_input}
use Rattle.spec_coding.specs.Coder.{written_out, encode, message}
use Rattle.spec_coding.proofs.Coder.{encode-code, message-encode, encode-message}
use Rattle.spec_operations.specs.Wrote.{Wrote}
use Rattle.spec_operations.specs.Coding.{code_input_refusal, code_refusal, coded, read_input_refusal, read_word_refusal, read_refusal, message_of}
use Rattle.spec_operations.proofs.Wrote.{goes_on}

-- ---- a whole call, where n was found for the book

module _ (bytes input : List ℕ) (room : ℕ) {n : ℕ} (e : n ≡ refusal bytes) where
  pub code_refused : (n ≡ 0 → ⊥) → n ≡ code_refusal bytes input room
  unfolding code_refusal
  code_refused h = found_first n (refusal bytes) _ e h

  pub read_refused : (n ≡ 0 → ⊥) → n ≡ read_refusal bytes input room
  unfolding read_refusal
  read_refused h = found_first n (refusal bytes) _ e h

  module _ (z : n ≡ 0) {new old out : List ℕ} {a : Answer} where
    pub code-goes-on : Wrote (code_input_refusal bytes input room) new old a out → Wrote (code_refusal bytes input room) new old a out
    unfolding code_refusal
    code-goes-on h = goes_on e z h

    pub read-goes-on : Wrote (read_word_refusal bytes input room) new old a out → Wrote (read_refusal bytes input room) new old a out
    unfolding read_refusal
    read-goes-on h = goes_on e z h

-- ---- the number of read once the book is open, where n was found for the sizes and the symbols

module _ (bytes word : List ℕ) (room : ℕ) {n : ℕ} (e : n ≡ read_input_refusal bytes word room) where
  pub word_refused : (n ≡ 0 → ⊥) → n ≡ read_word_refusal bytes word room
  unfolding read_word_refusal
  word_refused h = found_first n (read_input_refusal bytes word room) _ e h

  module _ (z : n ≡ 0) {t : Bool} (tested : t ≡ is_code_word (field_of bytes) (book_of bytes) (at (book_of bytes).n word)) where
    last : unless t 12 0 ≡ read_word_refusal bytes word room
    unfolding read_word_refusal code_word_refusal
    last = ap (λ (t : Bool). unless t 12 0) tested ∙ found_next n (read_input_refusal bytes word room) (code_word_refusal (field_of bytes) (book_of bytes) word) e z

    pub no-code-word : {m : ℕ} → t ≡ false → m ≡ 12 → m ≡ read_word_refusal bytes word room
    no-code-word f k = k ∙ ap (λ (t : Bool). unless t 12 0) (sym f) ∙ last

    pub code-word : t ≡ true → read_word_refusal bytes word room ≡ 0
    code-word f = sym last ∙ ap (λ (t : Bool). unless t 12 0) f

-- ---- an input as it should be

-- an accepted input has symbols at its places, and 0 past them
input_symbols : (F : FieldOps) → FieldLaws F → {fits exact : Bool} {input : List ℕ} → AcceptedInput F.q fits exact input → Symbols F (coefficients input)
input_symbols F laws {input = input} h j = go (dec_lt j (length input))
  where
    go : Dec (j < length input) → get_or input j 0 < F.q
    go (yes l) = h.symbol j l
    go (no l) = subst (λ (x : ℕ). x < F.q) (sym (get_or-eq_default input 0 (omega arith))) (zero_below F laws)

-- a table of symbols as an input
table_input : (F : FieldOps) (n : ℕ) (f : ℕ → ℕ) {fits exact : Bool} → T fits → T exact → ((j : ℕ) → f j < F.q)
    → AcceptedInput F.q fits exact (table n f)
table_input F n f s t h =
    record {
      size = s;
      sizes = t;
      symbol = λ j l. subst (λ (x : ℕ). x < F.q) (sym (table_at n f (subst (λ (k : ℕ). j < k) (table-length n f) l))) (h j);
    }

-- the quotient's coefficients are symbols
quotient-below : (F : FieldOps) → FieldLaws F → (d : ℕ) (g : ℕ → ℕ) (k : ℕ) (w : ℕ → ℕ) → Symbols F w → Symbols F (quotient_at F d g k w)
unfolding quotient_at before
quotient-below F laws d g zero w h i = zero_below F laws
quotient-below F laws d g (suc k) w h zero = remainder-below F d g laws k (λ j. w (suc j)) (λ j. h (suc j)) (pred d)
quotient-below F laws d g (suc k) w h (suc i) = quotient-below F laws d g k (λ j. w (suc j)) (λ j. h (suc j)) i

module _ (bytes : List ℕ) where
  abbrev F : FieldOps
  F = field_of bytes

  abbrev B : Book
  B = book_of bytes

  -- ---- the number 0

  module _ (input : List ℕ) (room : ℕ) where
    code-accepted : code_refusal bytes input room ≡ 0
        → (refusal bytes ≡ 0) × AcceptedInput F.q (message_fits (message_length B) (length input)) (eqb room B.n) input
    unfolding code_refusal code_input_refusal
    code-accepted z = let both = neither (refusal bytes) _ z in (both.0, accepted_input _ _ _ input both.1)

    read-accepted : read_refusal bytes input room ≡ 0
        → (refusal bytes ≡ 0) × AcceptedInput F.q (eqb (length input) B.n) (eqb room (message_length B)) input × T (is_code_word F B (at B.n input))
    unfolding read_refusal read_word_refusal read_input_refusal code_word_refusal
    read-accepted z =
        let book = neither (refusal bytes) _ z in
        let word = neither (read_input_refusal bytes input room) _ book.1 in
        (book.0, accepted_input _ _ _ input word.0, (passed (is_code_word F B (at B.n input)) 11 0 word.1).0)

  -- ---- a message that is not refused

  module _ (f : List ℕ) (room : ℕ) (z : code_refusal bytes f room ≡ 0) where
    abbrev ok : refusal bytes ≡ 0
    ok = (code-accepted f room z).0

    size : length f ≤ message_length B
    size = fits_high (message_length B) (length f) (code-accepted f room z).1.size

    symbols : Symbols F (coefficients f)
    symbols = input_symbols F (book_laws bytes ok) (code-accepted f room z).1

    -- its word is a word, and a code word
    pub coded-word : IsWord F B.n (coded bytes f)
    unfolding encode
    coded-word =
        record {
          size = table-length B.n _;
          symbol = λ j l.
              subst (λ (x : ℕ). x < F.q) (sym (table_at B.n _ l))
              (product-below F (book_laws bytes ok) B.n (coefficients f) (λ j. B.generator (j % B.n)) j);
        }

    pub coded-code : T (is_code_word F B (at B.n (coded bytes f)))
    coded-code = encode-code F (book_laws bytes ok) B (book_accepted bytes ok) f size symbols

    pub coded-accepted : (back : ℕ) → back ≡ message_length B → read_refusal bytes (coded bytes f) back ≡ 0
    unfolding read_refusal read_word_refusal read_input_refusal code_word_refusal
    coded-accepted back e =
        ap₂ or_else ok
        (ap₂ or_else (input_accepted (word_input coded-word (eq→eqb e))) (cond_true (is_code_word F B (at B.n (coded bytes f))) 0 12 coded-code))

    pub coded-read : message_of bytes (coded bytes f) ≡ written_out B f
    coded-read = message-encode F (book_laws bytes ok) B (book_accepted bytes ok) f size symbols

  -- ---- a code word that is not refused

  module _ (w : List ℕ) (room : ℕ) (z : read_refusal bytes w room ≡ 0) where
    abbrev sound : refusal bytes ≡ 0
    sound = (read-accepted w room z).0

    places : Symbols F (at B.n w)
    unfolding at
    places j = input_symbols F (book_laws bytes sound) (read-accepted w room z).1 (j % B.n)

    pub message-accepted : (back : ℕ) → back ≡ B.n → code_refusal bytes (message_of bytes w) back ≡ 0
    unfolding code_refusal code_input_refusal message
    message-accepted back e =
        ap₂ or_else sound (input_accepted (table_input F (message_length B) (coefficients Q) whole (eq→eqb e) (λ j.
        subst (λ (x : ℕ). x < F.q) (sym (quotient-at F B.degree B.generator laws pos B.n (at B.n w) j))
        (quotient-below F laws B.degree B.generator B.n (at B.n w) places j))))
      where
        Q : List ℕ
        Q = quotient F B.degree B.generator B.n (at B.n w)

        laws : FieldLaws F
        laws = book_laws bytes sound

        pos : 0 < B.degree
        pos = (book_accepted bytes sound).generates.degree_pos

        -- all k symbols, of which there is one at least
        whole : T (message_fits (message_length B) (length (table (message_length B) (coefficients Q))))
        whole = full_fits (message_length B) _ (omega (arith, (book_accepted bytes sound).generates.degree_lt)) (table-length (message_length B) (coefficients Q))

    pub message-coded : coded bytes (message_of bytes w) ≡ w
    message-coded =
        encode-message F (book_laws bytes sound) B (book_accepted bytes sound) w
        (record { exact = eqb→eq (length w) B.n (read-accepted w room z).1.size; symbols = places }) (read-accepted w room z).2
