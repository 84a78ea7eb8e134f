-- Demand 3 of the definitions: decoding a word that is turned, multiplied and moved by a code word, whatever each choice adds to its entry.
-- Assumes nothing.
use mathlib.Core.Path.{◌≡◌, sym, ap, ap₂, ◌∙◌}
use mathlib.Core.List.{List}
use Prim.Native.Nat.{ℕ, ◌+◌, ◌-◌, ◌%◌, ◌<◌}
use native.Mathlib.Nat.{mod-lt, mod-mod, mod-add-mod, mod-eq_of_lt}
use lib.Dec.{T}
use Rattle.spec_field.specs.Field.{FieldOps, FieldLaws}
use Rattle.spec_word.specs.Word.{at, turn, scale, plus}
use Rattle.spec_book.specs.Book.{Book, Usable, is_code_word}
use Rattle.spec_decoding.specs.Matrix.{matrix_of, cell}
use Rattle.spec_decoding.specs.Decode.{decode_with}
use Rattle.spec_decoding.specs.Symmetry.{move, Moved}
use Rattle.spec_field.proofs.Laws as L
use Rattle.spec_word.proofs.Place.{SymbolList, list_word, turn_back, turn_on, at_same, at_table, at_scaled_turn, table_symbols, scaled_symbols}
use Rattle.spec_word.proofs.Product.{Shifted}
use Rattle.spec_word.proofs.Division.{divided-of}
use Rattle.spec_word.proofs.CyclicCode.{CodeWord, n_pos, divides-shifted}
use Rattle.spec_decoding.proofs.Matrix.{MovedAmounts, matrix-shifted}
use Rattle.spec_decoding.proofs.Motion.{Motion, MovedMatrix, MovedWord}
use Rattle.spec_decoding.proofs.Decode.{decode-moved-by}

module _ (F : FieldOps) (laws : FieldLaws F) (B : Book) (ok : Usable F B) where
  open F use {q, add as ◌⊕◌, mul as ◌⊗◌, inv}
  open laws use {add_below, mul_below, mul_add, mul_zero}
  open B use {n, degree, generator}

  infixl 60 ◌⊕◌
  infixl 70 ◌⊗◌
  open ok use {generates}

  pos : 0 < n
  pos = n_pos F laws n degree generator generates

  module _ (t c : ℕ) (c_pos : 0 < c) (hc : c < q) where
    -- to turn by t and to multiply by c
    motion : Motion F n
    motion = record {
      place = λ j. (j + t) % n;
      unplace = λ j. (j + (n - t % n)) % n;
      place_lt = λ j l. mod-lt (j + t) pos;
      unplace_lt = λ j l. mod-lt (j + (n - t % n)) pos;
      unplace_place = λ j l. turn_back n t j pos ∙ mod-eq_of_lt l;
      place_unplace = λ j l. turn_on n t j pos ∙ mod-eq_of_lt l;
      symbol = c ⊗◌;
      unsymbol = inv c ⊗◌;
      symbol_lt = λ i l. mul_below c i;
      unsymbol_lt = λ i l. mul_below (inv c) i;
      unsymbol_symbol = λ i l. L.inv-mul-mul F laws c_pos hc i l;
      symbol_unsymbol = λ i l. L.mul-inv-mul F laws c_pos hc i l;
      symbol_zero = mul_zero c;
      symbol_add = mul_add c;
    }

    module _ (v : List ℕ) (hv : SymbolList F n v) (v-code : T (is_code_word F B (at n v))) where
      abbrev Moves : List ℕ → List ℕ → Type 0
      Moves w w' = MovedWord motion (at n v) (at n w) (at n w')

      code : CodeWord F laws n degree generator generates (at n v)
      code = divided-of F degree generator laws n (at n v) v-code

      -- the places below n stand for all
      shifted : (w w' : List ℕ) → Moves w w' → Shifted F t c (at n v) (at n w) (at n w')
      unfolding motion
      shifted w w' m j =
          at_same n w' (j + t) ((j % n + t) % n) (sym same) ∙ m (j % n) (mod-lt j pos)
          ∙ ap₂ (λ (x y : ℕ). c ⊗ x ⊕ y) (at_same n w (j % n) j (mod-mod j n)) (at_same n v ((j % n + t) % n) (j + t) same)
        where
          same : (j % n + t) % n % n ≡ (j + t) % n
          same = mod-mod (j % n + t) n ∙ mod-add-mod j n t

      codes : (w w' : List ℕ) → SymbolList F n w → SymbolList F n w' → Moves w w' → is_code_word F B (at n w') ≡ is_code_word F B (at n w)
      codes w w' hw hw' m = divides-shifted F laws n degree generator generates t c_pos hc (list_word hv) code (list_word hw) (list_word hw') (shifted w w' m)

      makes : (amount amount' : ℕ → ℕ → ℕ → ℕ) → MovedAmounts B t amount amount'
          → (w w' : List ℕ) → SymbolList F n w → SymbolList F n w' → Moves w w'
          → MovedMatrix motion (cell F B (matrix_of F B amount (at n w))) (cell F B (matrix_of F B amount' (at n w')))
      unfolding motion
      makes amount amount' amounts w w' hw hw' m =
          matrix-shifted F laws B ok t c_pos hc (list_word hv) code (list_word hw') (shifted w w' m) amount amount' amounts

      -- ---- the moved word itself

      pub move-symbols : (w : List ℕ) → SymbolList F n (move F n t c v w)
      unfolding move plus
      move-symbols w =
          table_symbols F n _ pos (λ j l.
          add_below (at n (scale F n c (turn n t w)) j) (at n v j) ((scaled_symbols F laws n c (turn n t w) pos).symbols j) (hv.symbols j))

      move-moves : (w : List ℕ) → Moves w (move F n t c v w)
      unfolding motion move plus
      move-moves w j l =
          at_table n (λ k. at n (scale F n c (turn n t w)) k ⊕ at n v k) (mod-lt (j + t) pos)
          ∙ ap (◌⊕ at n v ((j + t) % n)) (at_scaled_turn F n c t w pos j)

      -- demand 3 whatever the choices add, as long as what they add moves along
      pub symmetry-amounts : (amount amount' : ℕ → ℕ → ℕ → ℕ) → MovedAmounts B t amount amount' → (r : List ℕ) → SymbolList F n r
          → Moved F B t c v (decode_with F B (matrix_of F B amount) r) (decode_with F B (matrix_of F B amount') (move F n t c v r))
      unfolding motion
      symmetry-amounts amount amount' amounts r hr =
          decode-moved-by F laws B pos motion (at n v) (matrix_of F B amount) (matrix_of F B amount') (makes amount amount' amounts) codes
          (move F n t c v) (λ w _. move-symbols w) (λ w _. move-moves w) r hr
