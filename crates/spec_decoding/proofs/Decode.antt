-- A motion that the code and the matrices respect carries the decoder's result along.
-- Assumes nothing.
use mathlib.Core.Path.{◌≡◌, refl, sym, ap, ap₂, ◌∙◌}
use mathlib.Core.Bool.{Bool, true, false, not, cond}
use mathlib.Core.List.{List}
use Prim.Native.Nat.{ℕ, zero, suc, ◌+◌, ◌*◌, ◌%◌, ◌<◌}
use native.Mathlib.Nat.{mod-lt, mod-eq_of_lt}
use lib.Dec.{eqb}
use lib.ListN.{get_or}
use lib.Arith.{digits_lt}
use Rattle.spec_range.specs.Fold.{indicator}
use Rattle.spec_range.specs.Table.{table}
use Rattle.spec_field.specs.Field.{FieldOps, FieldLaws}
use Rattle.spec_word.specs.Word.{at, distance}
use Rattle.spec_book.specs.Book.{Book, is_code_word}
use Rattle.spec_decoding.specs.Matrix.{cell}
use Rattle.spec_decoding.specs.Decode.{Kind, Result, choose, correction, empty_update_set, corrected, result, zero_matrix, run, decode_with, clean, mended, stalled, spent}
use Rattle.spec_decoding.specs.Symmetry.{MovedBy}
use Rattle.spec_range.proofs.Tests.{same_eqb}
use Rattle.spec_range.proofs.Fold.{fold_cong, fold-permute, sums}
use Rattle.spec_range.proofs.Table.{table_at}
use Rattle.spec_field.proofs.Laws.{add_cancel}
use Rattle.spec_word.proofs.Place.{SymbolList, at_table, table_symbols}
use Rattle.spec_decoding.proofs.Motion.{Motion, MovedMatrix, MovedWord, symbol_inj, moved_unique}
use Rattle.spec_decoding.proofs.Update.{correction-below, correction-moved, empty-moved}

module _ (F : FieldOps) (laws : FieldLaws F) (B : Book) (pos : 0 < B.n) where
  open F use {q, add as ◌⊕◌}
  open laws use {add_below, add_comm, add_assoc}
  open B use {n, most_rounds}

  infixl 60 ◌⊕◌
  corrected-at : (w m : List ℕ) {j : ℕ} → j < n → at n (corrected F B w m) j ≡ at n w j ⊕ correction F B (cell F B m) j
  unfolding corrected
  corrected-at w m l = at_table n (λ j. at n w j ⊕ correction F B (cell F B m) j) l

  corrected-symbols : (w m : List ℕ) → SymbolList F n w → SymbolList F n (corrected F B w m)
  unfolding corrected
  corrected-symbols w m h =
      table_symbols F n (λ j. at n w j ⊕ correction F B (cell F B m) j) pos (λ j l. add_below (at n w j) (correction F B (cell F B m) j) (h.symbols j) (correction-below F laws B (cell F B m) j))

  -- ---- the answer is a word

  choose-of : (P : Result → Type 0) (a b : Bool) {x y z : Result} → P x → P y → P z → P (choose a b x y z)
  choose-of P true b hx hy hz = hx
  choose-of P false true hx hy hz = hy
  choose-of P false false hx hy hz = hz

  module _ (make : (ℕ → ℕ) → List ℕ) (r : List ℕ) (hr : SymbolList F n r) where
    abbrev Answers : Result → Type 0
    Answers x = SymbolList F n x.answer

    run-answer : (left made : ℕ) (w m : List ℕ) → SymbolList F n w → Answers (run F B make left made r w m)
    unfolding run
    run-answer zero made w m hw = hr
    run-answer (suc left) made w m hw =
        choose-of Answers (empty_update_set F B (cell F B (make (at n w)))) (is_code_word F B (at n (corrected F B w (make (at n w)))))
        hr (corrected-symbols w (make (at n w)) hw)
        (run-answer left (suc made) (corrected F B w (make (at n w))) (make (at n w)) (corrected-symbols w (make (at n w)) hw))

    pub decode-answer : Answers (decode_with F B make r)
    unfolding decode_with
    decode-answer = go (is_code_word F B (at n r))
      where
        go : (b : Bool) → Answers (cond b (result F B clean 0 r r (zero_matrix F B)) (run F B make most_rounds 0 r r (zero_matrix F B)))
        go true = hr
        go false = run-answer most_rounds 0 r (zero_matrix F B) hr

  -- ---- a motion, with a word v added after it

  module _ (M : Motion F n) (v : ℕ → ℕ) where
    open M use {place, unplace, place_lt, unplace_lt, unplace_place, place_unplace, symbol, symbol_lt, symbol_add}

    abbrev Moves : List ℕ → List ℕ → Type 0
    Moves w w' = MovedWord M v (at n w) (at n w')

    abbrev MovesMatrix : List ℕ → List ℕ → Type 0
    MovesMatrix m m' = MovedMatrix M (cell F B m) (cell F B m')

    pub record MovedResult (x y : Result) : Type 0 where
      pub same_kind : y.kind ≡ x.kind
      pub same_rounds : y.rounds ≡ x.rounds
      pub same_changed : y.changed ≡ x.changed
      pub moved_answer : MovedWord M v (at n x.answer) (at n y.answer)
      pub moved-matrix : MovedMatrix M (cell F B x.entries) (cell F B y.entries)

    corrected-moved : (w w' m m' : List ℕ) → Moves w w' → MovesMatrix m m' → Moves (corrected F B w m) (corrected F B w' m')
    corrected-moved w w' m m' mw mm j l =
        corrected-at w' m' (place_lt j l)
        ∙ ap₂ ◌⊕◌ (mw j l) (correction-moved F laws B M (cell F B m) (cell F B m') mm j l)
        ∙ add_assoc (symbol (at n w j)) (v (place j)) (symbol e)
        ∙ ap (symbol (at n w j) ⊕◌) (add_comm (v (place j)) (symbol e))
        ∙ sym (add_assoc (symbol (at n w j)) (symbol e) (v (place j)))
        ∙ ap (◌⊕ v (place j))
        (sym (symbol_add (at n w j) e) ∙ ap symbol (sym (corrected-at w m l)))
      where
        e : ℕ
        e = correction F B (cell F B m) j

    distance-moved : (w w' r r' : List ℕ) → SymbolList F n w → SymbolList F n r → Moves w w' → Moves r r'
        → distance n (at n w') (at n r') ≡ distance n (at n w) (at n r)
    unfolding distance
    distance-moved w w' r r' hw hr mw mr =
        sym (fold-permute ◌+◌ 0 sums n place unplace place_lt unplace_lt unplace_place place_unplace
        (λ j. indicator (not (eqb (at n w' j) (at n r' j)))))
        ∙ fold_cong ◌+◌ 0 n (λ j l. ap (λ (b : Bool). indicator (not b))
        (same_eqb
        (λ e. symbol_inj M (hw.symbols j) (hr.symbols j) (add_cancel F laws (sym (mw j l) ∙ e ∙ mr j l)))
        (λ e. mw j l ∙ ap (λ (x : ℕ). symbol x ⊕ v (place j)) e ∙ sym (mr j l))))

    choose-moved : (a b a' b' : Bool) {x y z x' y' z' : Result} → a' ≡ a → b' ≡ b → MovedResult x x' → MovedResult y y' → MovedResult z z'
        → MovedResult (choose a b x y z) (choose a' b' x' y' z')
    choose-moved a b a' b' {x} {y} {z} {x'} {y'} {z'} p q hx hy hz = rw (p, q) (go a b)
      where
        go : (a b : Bool) → MovedResult (choose a b x y z) (choose a b x' y' z')
        go true b = hx
        go false true = hy
        go false false = hz

    module _ (make make' : (ℕ → ℕ) → List ℕ)
        (makes : (w w' : List ℕ) → SymbolList F n w → SymbolList F n w' → Moves w w' → MovesMatrix (make (at n w)) (make' (at n w')))
        (codes : (w w' : List ℕ) → SymbolList F n w → SymbolList F n w' → Moves w w' → is_code_word F B (at n w') ≡ is_code_word F B (at n w)) where
      module _ (r r' : List ℕ) (hr : SymbolList F n r) (hr' : SymbolList F n r') (mr : Moves r r') where
        -- the run ends with the word w
        ended : (o : Kind) (k : ℕ) (w w' m m' : List ℕ) → SymbolList F n w → Moves w w' → MovesMatrix m m'
            → MovedResult (result F B o k r w m) (result F B o k r' w' m')
        ended o k w w' m m' hw mw mm =
            record {
              same_kind = refl;
              same_rounds = refl;
              same_changed = distance-moved w w' r r' hw hr mw mr;
              moved_answer = mw;
              moved-matrix = mm;
            }

        run_moved : (left made : ℕ) (w w' m m' : List ℕ) → SymbolList F n w → SymbolList F n w' → Moves w w' → MovesMatrix m m'
            → MovedResult (run F B make left made r w m) (run F B make' left made r' w' m')
        unfolding run
        run_moved zero made w w' m m' hw hw' mw mm = ended spent made r r' m m' hr mr mm
        run_moved (suc left) made w w' _ _ hw hw' mw _ =
            choose-moved (empty_update_set F B (cell F B m)) (is_code_word F B (at n u)) (empty_update_set F B (cell F B m')) (is_code_word F B (at n u'))
            (empty-moved F laws B M (cell F B m) (cell F B m') mm) (codes u u' hu hu' mu)
            (ended stalled (suc made) r r' m m' hr mr mm) (ended mended (suc made) u u' m m' hu mu mm)
            (run_moved left (suc made) u u' m m' hu hu' mu mm)
          where
            m : List ℕ
            m = make (at n w)

            m' : List ℕ
            m' = make' (at n w')

            mm : MovesMatrix m m'
            mm = makes w w' hw hw' mw

            u : List ℕ
            u = corrected F B w m

            u' : List ℕ
            u' = corrected F B w' m'

            hu : SymbolList F n u
            hu = corrected-symbols w m hw

            hu' : SymbolList F n u'
            hu' = corrected-symbols w' m' hw'

            mu : Moves u u'
            mu = corrected-moved w w' m m' mw mm

        -- the matrix all zero moves to itself
        zeros-moved : MovesMatrix (zero_matrix F B) (zero_matrix F B)
        unfolding cell
        zeros-moved i hi j l = zero_at (symbol_lt i hi) (place j) ∙ sym (zero_at hi j)
          where
            zero_at : {i : ℕ} → i < q → (j : ℕ) → get_or (table (q * n) (λ k. 0)) (i * n + j % n) 0 ≡ 0
            zero_at hi j = table_at (q * n) (λ k. 0) (digits_lt hi (mod-lt j pos))

        pub decode-moved : MovedResult (decode_with F B make r) (decode_with F B make' r')
        unfolding decode_with
        decode-moved = rw (codes r r' hr hr' mr) (go (is_code_word F B (at n r)))
          where
            zeros : List ℕ
            zeros = zero_matrix F B

            go : (b : Bool) → MovedResult (cond b (result F B clean 0 r r zeros) (run F B make most_rounds 0 r r zeros))
                (cond b (result F B clean 0 r' r' zeros) (run F B make' most_rounds 0 r' r' zeros))
            go true = ended clean 0 r r' zeros zeros hr mr zeros-moved
            go false = run_moved most_rounds 0 r r' zeros zeros hr hr' mr zeros-moved

      -- where `word` moves words, the result for the moved word is the result for the word, moved
      pub decode-moved-by : (word : List ℕ → List ℕ)
          → ((w : List ℕ) → SymbolList F n w → SymbolList F n (word w)) → ((w : List ℕ) → SymbolList F n w → Moves w (word w))
          → (r : List ℕ) → SymbolList F n r → MovedBy F B place symbol word (decode_with F B make r) (decode_with F B make' (word r))
      decode-moved-by word word-symbols word-moves r hr =
          record {
            same_kind = moved.same_kind;
            same_rounds = moved.same_rounds;
            same_changed = moved.same_changed;
            moved_answer =
                moved_unique M v (at n x.answer) y.answer (word x.answer) (decode-answer make' (word r) (word-symbols r hr))
                (word-symbols x.answer answer) moved.moved_answer (word-moves x.answer answer);
            moved_entries = λ i j hi l.
                ap (λ (k : ℕ). get_or y.entries (symbol i * n + k) 0) (sym (mod-eq_of_lt (place_lt j l))) ∙ cells i j hi l
                ∙ ap (λ (k : ℕ). get_or x.entries (i * n + k) 0) (mod-eq_of_lt l);
          }
        where
          x : Result
          x = decode_with F B make r

          y : Result
          y = decode_with F B make' (word r)

          moved : MovedResult x y
          moved = decode-moved r (word r) hr (word-symbols r hr) (word-moves r hr)

          answer : SymbolList F n x.answer
          answer = decode-answer make r hr

          cells : (i j : ℕ) → i < q → j < n → get_or y.entries (symbol i * n + place j % n) 0 ≡ get_or x.entries (i * n + j % n) 0
          cells i j hi l = unfold cell in moved.moved-matrix i hi j l
