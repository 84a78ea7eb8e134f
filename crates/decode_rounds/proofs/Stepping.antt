-- One round, from what its calls ensure.
-- Assumes nothing.
use mathlib.Core.Path.{◌≡◌, refl, sym, ap, ap₂, ◌∙◌, subst}
use mathlib.Core.Bool.{Bool, true, false, cond, ◌&&◌}
use mathlib.Core.List.{List}
use Prim.Native.Nat.{ℕ, ◌^◌, ◌<◌}
use native.Mathlib.Decide.{dec_lt}
use native.Mathlib.Omega.{arith}
use borrow.Author.Tests.{lt-ltb, le-ltb}
use lib.Bits.{bit_xor}
use lib.Dec.{eqb, ltb}
use lib.Pow.{pow_pos}
use Rattle.spec_range.specs.Table.{padded}
use Rattle.spec_range.proofs.Fold.{fold_cong}
use Rattle.spec_range.proofs.Table.{table_at, table_same}
use Rattle.spec_range.proofs.Loop.{padded-at}
use Rattle.spec_field.specs.Field.{FieldOps}
use Rattle.spec_field.specs.Symbols.{gf}
use Rattle.spec_word.specs.Word.{at, plus}
use Rattle.spec_word.specs.Division.{all_zero}
use Rattle.spec_word.proofs.Place.{at_lt}
use Rattle.sizes.specs.Blocks.{stride}
use Rattle.word_array.specs.Stored.{place, Stored}
use Rattle.word_array.proofs.Plus.{plus-at}
use Rattle.word_table.specs.Multiples.{word_of}
use Rattle.word_divide.specs.Window.{Remains}
use Rattle.spec_book.specs.Book.{Book, is_code_word}
use Rattle.spec_book.specs.Layout.{symbol_digits, field_of, book_of}
use Rattle.spec_book.specs.Conditions.{refusal}
use Rattle.spec_book.proofs.Known.{book_laws, n_high}
use Rattle.book.specs.declared.Params.{Params}
use Rattle.book.specs.Params.{Tabulated, Describes}
use Rattle.matrix.specs.Fill.{Fillable}
use Rattle.spec_decoding.specs.Matrix.{cell}
use Rattle.spec_decoding.specs.Decode.{correction, empty_update_set, corrected}
use Rattle.spec_decoding.proofs.Update.{correction-below}
use Rattle.spec_decoding.proofs.Empty.{empty_zero}
use Rattle.decode_rounds.specs.Rounds.{listed, made, step_of, Stepped}
use Rattle.decode_rounds.specs.declared.Step.{Step}
use Rattle.decode_rounds.specs.declared.Step.TheVariants.{Empty}
use Rattle.book.proofs.Described.{at_listed, code-tabulated}

pub params_fillable : (bytes : List ℕ) (c : Params) → Describes bytes c → Fillable bytes c.p c.n c.duals
unfolding book_of
params_fillable bytes c d = record { accepted = d.accepted; p_is = d.p_is; n_is = d.n_is; duals_is = d.duals_is }

-- an array that holds symbols below n, and zeros from there on, has symbols only
pub padded_symbols : {p n : ℕ} {f : ℕ → ℕ} {w : List ℕ} → w ≡ padded 255 n f → ((j : ℕ) → j < n → f j < 2 ^ p) → Stored p 255 w
unfolding padded
padded_symbols {p} {n} {f} {w} e h =
    record { symbol = λ j l. subst (λ (x : ℕ). x < 2 ^ p) (sym (ap (λ (v : List ℕ). place v j) e ∙ table_at 255 _ l)) (below j (dec_lt j n)) }
  where
    below : (j : ℕ) → Dec (j < n) → cond (ltb j n) (f j) 0 < 2 ^ p
    below j (yes l) = rw (lt-ltb j n l) (h j l)
    below j (no l) = rw (le-ltb j n (omega arith)) (pow_pos p)

-- with the matrices that `make` makes of a word
module _ (bytes : List ℕ) (e : refusal bytes ≡ 0) (make : (ℕ → ℕ) → List ℕ) where
  abbrev F : FieldOps
  F = field_of bytes

  abbrev B : Book
  B = book_of bytes

  -- the matrix m, the corrections v and the corrected word w' of a word w
  module _ (w : List ℕ) (stored : Stored (symbol_digits bytes) 255 w) (m v w' : List ℕ) (hm : m ≡ made bytes make w)
      (hv : v ≡ padded 255 B.n (correction F B (cell F B m))) (hw : w' ≡ padded 255 B.n (place (plus F B.n w v))) where
    correction-at : (j : ℕ) → j < B.n → place v j ≡ correction F B (cell F B (made bytes make w)) j
    correction-at j l =
        ap (λ (x : List ℕ). place x j) hv ∙ padded-at 255 B.n _ (n_high bytes e) l ∙ ap (λ (x : List ℕ). correction F B (cell F B x) j) hm

    corrected-at : (j : ℕ) → j < B.n → place w' j ≡ bit_xor (place w j) (correction F B (cell F B (made bytes make w)) j)
    corrected-at j l =
        ap (λ (x : List ℕ). place x j) hw ∙ padded-at 255 B.n _ (n_high bytes e) l ∙ plus-at (symbol_digits bytes) B.n w v l
        ∙ ap (bit_xor (place w j)) (correction-at j l)

    pub corrected-stored : Stored (symbol_digits bytes) 255 w'
    corrected-stored =
        padded_symbols hw (λ j l.
        subst (λ (x : ℕ). x < F.q) (sym (plus-at (symbol_digits bytes) B.n w v l ∙ ap (bit_xor (place w j)) (correction-at j l)))
        ((book_laws bytes e).add_below _ _ (stored.symbol j (omega (arith, n_high bytes e)))
        (correction-below F (book_laws bytes e) B (cell F B (made bytes make w)) j)))

    pub corrected-listed : listed bytes w' ≡ corrected F B (listed bytes w) (made bytes make w)
    unfolding corrected
    corrected-listed =
        table_same B.n (λ j l.
        corrected-at j l
        ∙ ap (λ (x : ℕ). bit_xor x (correction F B (cell F B (made bytes make w)) j)) (sym (ap (λ (f : ℕ → ℕ). f j) (at_listed bytes e w) ∙ at_lt B.n w l)))

    pub corrected-empty : all_zero B.n v ≡ empty_update_set F B (cell F B (made bytes make w))
    unfolding all_zero
    corrected-empty =
        fold_cong ◌&&◌ true B.n (λ j l. ap (λ (x : ℕ). eqb x 0) (correction-at j l)) ∙ sym (empty_zero F (book_laws bytes e) B (cell F B (made bytes make w)))

    -- what comes of the round, by its two tests
    pub stepped : {s : Step} (empty reached : Bool) → s ≡ step_of empty reached → all_zero B.n v ≡ empty
        → is_code_word F B (at B.n w') ≡ reached → Stepped bytes make w (record { step = s; word = w' }) m
    stepped empty reached h p q =
        record {
          matrix-is = hm;
          stored = corrected-stored;
          word_is = corrected-listed;
          step_is = h ∙ ap₂ step_of (sym p ∙ corrected-empty) (sym q);
        }

-- the same, as the calls say it by the parameters c
module _ (bytes : List ℕ) (make : (ℕ → ℕ) → List ℕ) (c : Params) (w : List ℕ) (d : Describes bytes c) (stored : Stored c.p 255 w) (m v w' : List ℕ)
    (hm : m ≡ make (at c.n w))
    (hv : (B : Book) → B.n ≡ c.n → B.most_places ≡ c.places → v ≡ padded 255 c.n (correction (gf c.p) B (cell (gf c.p) B m)))
    (hw : (p : ℕ) → w' ≡ padded 255 c.n (place (plus (gf p) c.n w v))) where
  word : Stored (symbol_digits bytes) 255 w
  word = rw d.p_is at stored

  made-matrix : m ≡ made bytes make w
  made-matrix = rw d.n_is at hm

  made-corrections : v ≡ padded 255 (book_of bytes).n (correction (field_of bytes) (book_of bytes) (cell (field_of bytes) (book_of bytes) m))
  made-corrections = rw (d.n_is, d.p_is) at (hv (book_of bytes) (sym d.n_is) (sym d.places_is))

  made_word : w' ≡ padded 255 (book_of bytes).n (place (plus (field_of bytes) (book_of bytes).n w v))
  made_word = rw d.n_is at (hw (symbol_digits bytes))

  pub round_stored : Stored (symbol_digits bytes) 255 w'
  round_stored = corrected-stored bytes d.accepted make w word m v w' made-matrix made-corrections made_word

  -- the update set is empty
  pub round_empty : {s : Step} → s ≡ Empty → all_zero c.n v ≡ true → Stepped bytes make w (record { step = s; word = w' }) m
  round_empty s p =
      stepped bytes d.accepted make w word m v w' made-matrix made-corrections made_word true _ s (rw d.n_is at p) refl

  -- it is not, and the new word was divided: its remainder is left in `rest`
  pub round_tested : {t rest : List ℕ} → Tabulated bytes c.p c.n t
      → Remains c.p c.n c.degree (word_of (stride c.n) c.n t) (place w') rest
      → {s : Step} → s ≡ step_of false (all_zero c.degree rest) → all_zero c.n v ≡ false
      → Stepped bytes make w (record { step = s; word = w' }) m
  round_tested ht left s p =
      stepped bytes d.accepted make w word m v w' made-matrix made-corrections made_word false _ s
      (rw d.n_is at p) (sym (code-tabulated bytes c d ht w' (λ j l. sym (at_lt c.n w' l)) left))
