-- What a result of decoding says: its rounds are at most I; a Clean or Mended answer is a code word, any other is the word as received; the matrix is whole;
-- changed counts the places where answer and received word differ.
-- Assumes nothing.
use mathlib.Core.Path.{◌≡◌, refl}
use mathlib.Core.Bool.{Bool, true, false, cond}
use mathlib.Core.List.{List}
use Prim.Native.Nat.{ℕ, zero, suc, ◌+◌, ◌*◌, ◌≤◌}
use native.Mathlib.Omega.{arith}
use lib.Dec.{T}
use lib.ListN.{length}
use Rattle.spec_field.specs.Field.{FieldOps}
use Rattle.spec_word.specs.Word.{at, distance}
use Rattle.spec_book.specs.Book.{Book, is_code_word}
use Rattle.spec_decoding.specs.Matrix.{cell}
use Rattle.spec_decoding.specs.Decode.{Kind, Result, choose, empty_update_set, corrected, result, zero_matrix, run, decode_with, clean, mended, stalled, spent}
use Rattle.spec_range.proofs.Table.{table-length}

module _ (F : FieldOps) (B : Book) where
  open F use {q}
  open B use {n, most_rounds}

  -- what each outcome says of the answer
  abbrev pub Says : List ℕ → Kind → List ℕ → Type 0
  Says r clean w = T (is_code_word F B (at n w)) × (w ≡ r)
  Says r mended w = T (is_code_word F B (at n w))
  Says r stalled w = w ≡ r
  Says r spent w = w ≡ r

  -- the outcome, at most `most` rounds, and a matrix of q × n entries
  pub record Sound (r : List ℕ) (most : ℕ) (x : Result) : Type 0 where
    pub says : Says r x.kind x.answer
    pub rounds-le : x.rounds ≤ most
    pub whole : length x.entries ≡ q * n
    pub changed-is : x.changed ≡ distance n (at n x.answer) (at n r)

  module _ (make : (ℕ → ℕ) → List ℕ) (make-length : (w : ℕ → ℕ) → length (make w) ≡ q * n) (r : List ℕ) where
    step : {most : ℕ} (a b : Bool) {x y z : Result} → Sound r most x → (T b → Sound r most y) → Sound r most z → Sound r most (choose a b x y z)
    step true b hx hy hz = hx
    step false true hx hy hz = hy tt
    step false false hx hy hz = hz

    run_sound : (most left made : ℕ) (w m : List ℕ) → left + made ≤ most → length m ≡ q * n → Sound r most (run F B make left made r w m)
    unfolding run
    run_sound most zero made w m l h = record { says = refl; rounds-le = omega arith; whole = h; changed-is = refl }
    run_sound most (suc left) made w m l h =
        step (empty_update_set F B (cell F B (make (at n w)))) (is_code_word F B (at n (corrected F B w (make (at n w)))))
        (record { says = refl; rounds-le = omega arith; whole = make-length (at n w); changed-is = refl })
        (λ t. record { says = t; rounds-le = omega arith; whole = make-length (at n w); changed-is = refl })
        (run_sound most left (suc made) (corrected F B w (make (at n w))) (make (at n w)) (omega arith) (make-length (at n w)))

    pub decode-sound : Sound r most_rounds (decode_with F B make r)
    unfolding decode_with
    decode-sound = go (is_code_word F B (at n r)) (λ t. t)
      where
        zeros : List ℕ
        zeros = zero_matrix F B

        go : (b : Bool) → (T b → T (is_code_word F B (at n r)))
            → Sound r most_rounds (cond b (result F B clean 0 r r zeros) (run F B make most_rounds 0 r r zeros))
        go true t = record { says = (t tt, refl); rounds-le = omega arith; whole = table-length (q * n) (λ k. 0); changed-is = refl }
        go false t = run_sound most_rounds most_rounds 0 r zeros (omega arith) (table-length (q * n) (λ k. 0))
