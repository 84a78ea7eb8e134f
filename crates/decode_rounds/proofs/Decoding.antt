-- The decoder's two ways, with the matrices that `make` makes of a word: a code word is Clean, any other goes through rounds.
-- Assumes nothing.
use mathlib.Core.Path.{◌≡◌, refl, sym, ap, ◌∙◌, subst}
use mathlib.Core.Bool.{true, false}
use mathlib.Core.List.{List}
use Prim.Native.Nat.{ℕ, ◌+◌, ◌*◌, ◌^◌}
use native.Mathlib.Omega.{arith}
use lib.ListN.{length}
use Rattle.spec_range.specs.Table.{table, padded}
use Rattle.spec_range.proofs.Table.{table_same}
use Rattle.spec_range.proofs.Loop.{padded-at}
use Rattle.spec_word.specs.Word.{at}
use Rattle.spec_word.specs.Division.{all_zero}
use Rattle.spec_word.proofs.Place.{at_lt}
use Rattle.sizes.specs.Blocks.{stride}
use Rattle.word_array.specs.Stored.{place}
use Rattle.word_table.specs.Multiples.{word_of}
use Rattle.word_divide.specs.Window.{Remains}
use Rattle.spec_book.specs.Book.{is_code_word}
use Rattle.spec_book.specs.Layout.{field_of, book_of}
use Rattle.book.specs.Params.{Tabulated, Describes}
use Rattle.book.specs.declared.Params.{Params}
use Rattle.book.proofs.Described.{at_listed, params_sizes, code-tabulated}
use Rattle.spec_decoding.specs.Decode.{decode_with}
use Rattle.decode_rounds.specs.Rounds.{listed, all_rounds, Ended}
use Rattle.decode_rounds.specs.declared.Kind.TheVariants.{Clean}
use Rattle.decode_rounds.specs.declared.End.{End}

-- an array that was loaded with a word
pub loaded_listed : (bytes : List ℕ) (c : Params) (r : List ℕ) → Describes bytes c → {w : List ℕ} → w ≡ padded 255 c.n (λ j. place r (0 + j))
    → listed bytes w ≡ listed bytes r
loaded_listed bytes c r d e =
    table_same (book_of bytes).n (λ j l.
    ap (λ (v : List ℕ). place v j) e ∙ padded-at 255 c.n _ (params_sizes bytes c d).n_high (omega (arith, d.n_is)) ∙ ap (place r) (omega arith))

-- the word r was divided: its remainder is left in `rest`
module _ (bytes : List ℕ) (c : Params) (t r rest : List ℕ) (d : Describes bytes c) (ht : Tabulated bytes c.p c.n t)
    (left : Remains c.p c.n c.degree (word_of (stride c.n) c.n t) (place r) rest) (make : (ℕ → ℕ) → List ℕ) where
  -- it is all zero exactly where the listed word is a code word
  remainder-code : all_zero c.degree rest ≡ is_code_word (field_of bytes) (book_of bytes) (at (book_of bytes).n (listed bytes r))
  remainder-code =
      code-tabulated bytes c d ht r (λ j l. sym (at_lt c.n r l)) left
      ∙ ap (is_code_word (field_of bytes) (book_of bytes)) (sym (at_listed bytes d.accepted r))

  module _ {w : List ℕ} (e : w ≡ padded 255 c.n (λ j. place r (0 + j))) where
    pub decoded-clean : all_zero c.degree rest ≡ true → (m₀ : List ℕ) {m : List ℕ} → length m₀ ≡ 2 ^ c.p * c.n → m ≡ table (length m₀) (λ k. 0)
        → Ended bytes (decode_with (field_of bytes) (book_of bytes) make (listed bytes r)) (record { kind = Clean; rounds = 0; word = w }) m
    unfolding decode_with
    decoded-clean t m₀ size z =
        rw (sym remainder-code ∙ t)
        (record {
          kind-is = refl;
          rounds_is = refl;
          answer_is = loaded_listed bytes c r d e;
          matrix-is = z ∙ ap (λ (k : ℕ). table k (λ k. 0)) (rw (d.p_is, d.n_is) at size);
        })

    pub decoded-rounds : all_zero c.degree rest ≡ false → {x : End} {m : List ℕ}
        → Ended bytes (all_rounds bytes make (listed bytes w)) x m → Ended bytes (decode_with (field_of bytes) (book_of bytes) make (listed bytes r)) x m
    unfolding decode_with
    decoded-rounds t {x} {m} k = rw (sym remainder-code ∙ t) (subst (λ (l : List ℕ). Ended bytes (all_rounds bytes make l) x m) (loaded_listed bytes c r d e) k)
