-- The blank game stands for every game: decoding a code word with an error is decoding the error alone, with the code word added.
-- Assumes nothing.
use mathlib.Core.Path.{◌≡◌, sym, ap, ◌∙◌, subst}
use mathlib.Core.List.{List}
use Prim.Native.Nat.{ℕ, ◌-◌, ◌+◌, ◌%◌, ◌<◌}
use native.Mathlib.Nat.{zero-mod}
use native.Mathlib.Omega.{arith}
use lib.Dec.{T}
use lib.ListN.{get_or}
use Rattle.spec_range.proofs.Table.{table_same}
use Rattle.spec_field.specs.Field.{FieldOps, FieldLaws}
use Rattle.spec_field.proofs.Gf.{gf_laws}
use Rattle.spec_field.proofs.Laws as L
use Rattle.spec_word.specs.Word.{at, turn, scale, plus}
use Rattle.spec_word.proofs.Place.{SymbolList, at_period, at_lt, at_table, at-plus}
use Rattle.spec_book.specs.Book.{Book, is_code_word}
use Rattle.spec_book.specs.Layout.{symbol_digits, field_of, book_of}
use Rattle.spec_book.specs.Conditions.{refusal}
use Rattle.spec_book.proofs.Accepting.{accepted}
use Rattle.spec_decoding.specs.Decode.{Result, decode}
use Rattle.spec_decoding.specs.Matrix.{matrix}
use Rattle.spec_decoding.specs.Symmetry.{move, Moved}
use Rattle.spec_decoding.proofs.Decode.{decode-answer}
use Rattle.spec_decoding.proofs.Demand3.{demand_3}

-- to turn by 0 and multiply by 1 changes nothing
move_plain : (F : FieldOps) → FieldLaws F → (n : ℕ) → 0 < n → (v w : List ℕ) → SymbolList F n w → move F n 0 1 v w ≡ plus F n w v
unfolding move plus scale turn
move_plain F laws n pos v w h =
    table_same n (λ j l. ap (λ (x : ℕ). F.add x (at n v j))
    (at_table n (λ k. F.mul 1 (at n (turn n 0 w) k)) l
    ∙ ap (F.mul 1) (at_table n (λ k. at n w (k + (n - 0 % n))) l ∙ back j)
    ∙ L.one_mul F laws (at n w j) (h.symbols j)))
  where
    back : (j : ℕ) → at n w (j + (n - 0 % n)) ≡ at n w j
    back j = ap (at n w) (omega (arith, zero-mod n)) ∙ at_period n w j

module _ (bytes : List ℕ) (e : refusal bytes ≡ 0) where
  abbrev F : FieldOps
  F = field_of bytes

  abbrev B : Book
  B = book_of bytes

  laws : FieldLaws F
  laws = let s = (accepted bytes e).0 in gf_laws (symbol_digits bytes) s.p_low s.p_high

  pos : 0 < B.n
  pos = let g = (accepted bytes e).1.generates in omega (arith, g.degree_lt)

  -- x is the result for an error alone, y that for the error on the code word v
  pub record Blank (v : List ℕ) (x y : Result) : Type 0 where
    pub same_kind : y.kind ≡ x.kind
    pub same_rounds : y.rounds ≡ x.rounds
    pub same_changed : y.changed ≡ x.changed
    pub added-answer : y.answer ≡ plus F B.n x.answer v
    -- the corrected word is right exactly where the blank game's is zero
    pub right-where-zero : (j : ℕ) → j < B.n → get_or x.answer j 0 ≡ 0 → get_or y.answer j 0 ≡ at B.n v j
    pub zero-where-right : (j : ℕ) → j < B.n → get_or y.answer j 0 ≡ at B.n v j → get_or x.answer j 0 ≡ 0

  pub blank_game : (v : List ℕ) → SymbolList F B.n v → T (is_code_word F B (at B.n v))
      → (error : List ℕ) → SymbolList F B.n error → Blank v (decode F B error) (decode F B (plus F B.n error v))
  blank_game v hv code error h =
      record {
        same_kind = moved.same_kind;
        same_rounds = moved.same_rounds;
        same_changed = moved.same_changed;
        added-answer = added;
        right-where-zero = λ j l z. place j l ∙ ap (λ (a : ℕ). F.add a (at B.n v j)) z ∙ L.zero_add F laws (at B.n v j);
        zero-where-right = λ j l r. L.add_cancel F laws (sym (place j l) ∙ r ∙ sym (L.zero_add F laws (at B.n v j)));
      }
    where
      x : Result
      x = decode F B error

      y : Result
      y = decode F B (plus F B.n error v)

      moved : Moved F B 0 1 v x y
      moved =
          subst (λ (w : List ℕ). Moved F B 0 1 v x (decode F B w)) (move_plain F laws B.n pos v error h)
          (demand_3 bytes e 0 1 (omega arith) laws.one_below v hv code error h)

      added : y.answer ≡ plus F B.n x.answer v
      added = moved.moved_answer ∙ move_plain F laws B.n pos v x.answer (decode-answer F laws B pos (matrix F B) error h)

      place : (j : ℕ) → j < B.n → get_or y.answer j 0 ≡ F.add (get_or x.answer j 0) (at B.n v j)
      place j l =
          ap (λ (w : List ℕ). get_or w j 0) added
          ∙ sym (at_lt B.n (plus F B.n x.answer v) l) ∙ at-plus F B.n x.answer v l
          ∙ ap (λ (a : ℕ). F.add a (at B.n v j)) (at_lt B.n x.answer l)
