-- The rounds: what is left to run, from the state that the loop has, is the whole.
-- Assumes nothing.
use mathlib.Core.Path.{◌≡◌, refl, sym, ap, ap₂, ◌∙◌}
use mathlib.Core.Bool.{Bool, true, false}
use mathlib.Core.List.{List}
use Prim.Native.Nat.{ℕ, zero, suc, ◌+◌, ◌-◌, ◌≤◌, ◌<◌}
use native.Mathlib.Nat.{not-suc-le-zero}
use native.Mathlib.Numerals.{add-one}
use native.Mathlib.Omega.{arith}
use Rattle.spec_field.specs.Field.{FieldOps}
use Rattle.spec_word.specs.Word.{at}
use Rattle.spec_book.specs.Book.{Book, is_code_word}
use Rattle.spec_book.specs.Layout.{field_of, book_of}
use Rattle.spec_book.specs.Conditions.{refusal}
use Rattle.spec_decoding.specs.Matrix.{cell}
use Rattle.spec_decoding.specs.Decode.{Result, empty_update_set, choose, corrected, result, zero_matrix, run, stalled, mended}
use Rattle.decode_rounds.specs.Rounds.{listed, made, all_rounds, step_of, Stepped, Ended}
use Rattle.decode_rounds.specs.declared.Kind.TheVariants.{Mended, Stalled, Spent}
use Rattle.decode_rounds.specs.declared.Step.TheVariants.{Empty, Reached, Going}
use Rattle.decode_rounds.specs.declared.Rounded.{Rounded}
use Rattle.spec_book.proofs.Known.{some_rounds}
use Rattle.book.proofs.Described.{at_listed}

-- with the matrices that `make` makes of a word
module _ (bytes : List ℕ) (e : refusal bytes ≡ 0) (make : (ℕ → ℕ) → List ℕ) where
  abbrev F : FieldOps
  F = field_of bytes

  abbrev B : Book
  B = book_of bytes

  -- the run of `left` rounds after k, from the word in an array
  abbrev from : ℕ → ℕ → List ℕ → List ℕ → List ℕ → Result
  from left k r w m = run F B make left k r (listed bytes w) m

  -- with k of the most rounds made, what is left to run is the whole
  pub record Left (k : ℕ) (r w m : List ℕ) : Type 0 where
    pub within : k ≤ B.most_rounds
    pub same : from (B.most_rounds - k) k (listed bytes r) w m ≡ all_rounds bytes make (listed bytes r)

  -- the first round makes its own matrix, whatever was there
  any-matrix : (left : ℕ) (r w m m' : List ℕ) → 1 ≤ left → from left 0 r w m ≡ from left 0 r w m'
  unfolding run
  any-matrix zero r w m m' l = absurd (not-suc-le-zero l)
  any-matrix (suc left) r w m m' l = refl

  pub left-all : (r m : List ℕ) → Left 0 r r m
  left-all r m =
      record { within = omega arith; same = all_left ∙ any-matrix B.most_rounds (listed bytes r) r m (zero_matrix F B) (some_rounds bytes e) }
    where
      all_left : from (B.most_rounds - 0) 0 (listed bytes r) r m ≡ from B.most_rounds 0 (listed bytes r) r m
      all_left = ap (λ (x : ℕ). from x 0 (listed bytes r) r m) (omega arith)

  -- ---- a round

  module _ (k : ℕ) (r w m : List ℕ) (h : Left k r w m) (l : k < B.most_rounds) (s : Rounded) {m' : List ℕ} (step : Stepped bytes make w s m') where
    abbrev left : ℕ
    left = B.most_rounds - suc k

    -- the two tests of the round, and the three ways on
    abbrev empty : Bool
    empty = empty_update_set F B (cell F B (made bytes make w))

    abbrev reached : Bool
    reached = is_code_word F B (at B.n s.word)

    abbrev on-empty : Result
    on-empty = result F B stalled (suc k) (listed bytes r) (listed bytes r) (made bytes make w)

    abbrev on-reached : Result
    on-reached = result F B mended (suc k) (listed bytes r) (listed bytes s.word) (made bytes make w)

    abbrev on : Result
    on = from left (suc k) (listed bytes r) s.word (made bytes make w)

    by-round : all_rounds bytes make (listed bytes r) ≡ choose empty reached on-empty on-reached on
    unfolding run
    by-round =
        let more : B.most_rounds - k ≡ suc left = omega arith in
        sym h.same ∙ ap (λ (x : ℕ). from x k (listed bytes r) w m) more
        ∙ ap (λ (f : ℕ → ℕ). round_with (make f)) (at_listed bytes e w)
        ∙ ap (λ (v : List ℕ). after (is_code_word F B (at B.n v)) v) (sym step.word_is)
        ∙ ap (λ (f : ℕ → ℕ). after (is_code_word F B f) (listed bytes s.word)) (at_listed bytes e s.word)
      where
        -- a round with the matrix x
        round_with : List ℕ → Result
        round_with x =
            choose (empty_update_set F B (cell F B x)) (is_code_word F B (at B.n (corrected F B (listed bytes w) x)))
            (result F B stalled (suc k) (listed bytes r) (listed bytes r) x)
            (result F B mended (suc k) (listed bytes r) (corrected F B (listed bytes w) x) x)
            (run F B make left (suc k) (listed bytes r) (corrected F B (listed bytes w) x) x)

        -- and the word v after it
        after : Bool → List ℕ → Result
        after reached v =
            choose (empty_update_set F B (cell F B (made bytes make w))) reached
            (result F B stalled (suc k) (listed bytes r) (listed bytes r) (made bytes make w))
            (result F B mended (suc k) (listed bytes r) v (made bytes make w))
            (run F B make left (suc k) (listed bytes r) v (made bytes make w))

    -- what the step tells of the choice
    chosen-empty : (a b : Bool) (x y z : Result) → Empty ≡ step_of a b → choose a b x y z ≡ x
    chosen-empty true b x y z p = refl
    chosen-empty false true x y z p = let no : ◌≡◌ {A = ℕ} 0 1 = cc in absurd (omega arith)
    chosen-empty false false x y z p = let no : ◌≡◌ {A = ℕ} 0 1 = cc in absurd (omega arith)

    chosen-reached : (a b : Bool) (x y z : Result) → Reached ≡ step_of a b → choose a b x y z ≡ y
    chosen-reached true b x y z p = let no : ◌≡◌ {A = ℕ} 0 1 = cc in absurd (omega arith)
    chosen-reached false true x y z p = refl
    chosen-reached false false x y z p = let no : ◌≡◌ {A = ℕ} 0 1 = cc in absurd (omega arith)

    chosen-going : (a b : Bool) (x y z : Result) → Going ≡ step_of a b → choose a b x y z ≡ z
    chosen-going true b x y z p = let no : ◌≡◌ {A = ℕ} 0 1 = cc in absurd (omega arith)
    chosen-going false true x y z p = let no : ◌≡◌ {A = ℕ} 0 1 = cc in absurd (omega arith)
    chosen-going false false x y z p = refl

    -- the ends, with the result of each
    pub ended-stalled : s.step ≡ Empty → Ended bytes (all_rounds bytes make (listed bytes r)) (record { kind = Stalled; rounds = k + 1; word = r }) m'
    ended-stalled p =
        rw (by-round ∙ chosen-empty empty reached on-empty on-reached on (sym p ∙ step.step_is))
        (record { kind-is = refl; rounds_is = add-one k; answer_is = refl; matrix-is = step.matrix-is })

    pub ended-mended : s.step ≡ Reached → Ended bytes (all_rounds bytes make (listed bytes r)) (record { kind = Mended; rounds = k + 1; word = s.word }) m'
    ended-mended p =
        rw (by-round ∙ chosen-reached empty reached on-empty on-reached on (sym p ∙ step.step_is))
        (record { kind-is = refl; rounds_is = add-one k; answer_is = refl; matrix-is = step.matrix-is })

    pub left_more : s.step ≡ Going → Left (k + 1) r s.word m'
    left_more p =
        record {
          within = omega arith;
          same =
              ap₂ (λ (x : ℕ) (y : List ℕ). from (B.most_rounds - x) x (listed bytes r) s.word y) (add-one k) step.matrix-is
              ∙ sym (by-round ∙ chosen-going empty reached on-empty on-reached on (sym p ∙ step.step_is));
        }

  -- ---- no round left

  pub ended_spent : (k : ℕ) (r w m : List ℕ) → Left k r w m → B.most_rounds ≤ k
      → Ended bytes (all_rounds bytes make (listed bytes r)) (record { kind = Spent; rounds = k; word = r }) m
  unfolding run
  ended_spent k r w m h l =
      let none : B.most_rounds - k ≡ 0 = omega arith in
      rw (sym h.same ∙ ap (λ (x : ℕ). from x k (listed bytes r) w m) none)
      (record { kind-is = refl; rounds_is = refl; answer_is = refl; matrix-is = refl })
